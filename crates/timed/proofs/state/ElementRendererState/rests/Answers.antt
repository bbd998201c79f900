-- `timed::state::ElementRendererState::rests`: a ramp remains, or each block is asked. Assumes nothing.
use Prim.Native.Nat.{◌≤◌}
use mathlib.Core.Path.{◌≡◌, ◌∙◌}
use mathlib.Core.Bool.{not}
use lib.ListN.{length, take}
use borrow.Author.Rules.{rules}
use Rattle.std.specs.List.{list_all}
use Rattle.std.proofs.lemmas.Iterator.{YieldsList-from_slice}
use Rattle.std.proofs.lemmas.Iterator.Search.{all_from_yields_List}
use Rattle.timed.specs.Rules.{due}
use Rattle.timed.proofs.Resting.{blocks_rest}
use Rattle.timed.proofs.state.ElementRendererState.rests.Goals as goal

pub returns-then-self-le-RAMP_OVER : goal.returns-then-self-le-RAMP_OVER
returns-then-self-le-RAMP_OVER c =
    let a = c.args in
    let each : c.all.result ≡ list_all (λ b. not (due a.when b)) (take a.self.blocks a.self.schedule) =
    all_from_yields_List (λ b. not (due a.when b)) _ _ c.all.result c.all.ensures.ran (YieldsList-from_slice (take a.self.blocks a.self.schedule) (search rules)) (λ x b q e. search rules) in
    let long : a.self.blocks ≤ length a.self.schedule = search rules in
    each ∙ blocks_rest a.when a.self (search rules) long
