-- `timed::state::MetadataRendererState::holds_stand`: each object's hold is asked. Assumes nothing.
use Prim.Native.Nat.{◌-◌}
use lib.ListN.{take}
use borrow.Author.Rules.{rules}
use Rattle.std.proofs.lemmas.Iterator.{YieldsList-from_slice}
use Rattle.std.proofs.lemmas.Iterator.Search.{all_from_yields_List}
use Rattle.timed.specs.Holds.{is_settled, all_settled}
use Rattle.timed.proofs.state.MetadataRendererState.holds_stand.Goals as goal

pub returns : goal.returns
unfolding all_settled
returns c =
    let s = c.args.self.now in
    all_from_yields_List is_settled _ _ c.all.result c.all.ensures.ran (YieldsList-from_slice (take (s.objects - s.isf) s.sources) (search rules)) (λ x b q e. search rules)
