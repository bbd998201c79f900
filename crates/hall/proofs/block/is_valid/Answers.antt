-- `block::is_valid`: the renderer's part and the area are as long as they have to be, and within their ranges.
use Prim.Native.Nat.{ℕ}
use mathlib.Core.Path.{◌≡◌, sym, ap, ap₂, ◌∙◌}
use mathlib.Core.List.{List}
use lib.ListN.{length}
use native.Mathlib.Omega.{arith}
use Rattle.store.specs.Layout.{decode}
use Rattle.store.specs.ValidBlocks.{valid}
use Rattle.waits.specs.ValidAreas.{area_valid}
use Rattle.theorem.specs.Instance.{block_size}
use Rattle.hall.proofs.Known.{too_long, all_valid}
use Rattle.hall.proofs.block.is_valid.Goals as goal

pub returns-in_default : goal.returns-in_default
returns-in_default c = let l = c.in_default.ensures.cases in too_long c.args.state.now (λ z. omega (arith, l, z))

pub returns-then-is_valid : goal.returns-then-is_valid
unfolding decode
returns-then-is_valid c =
    let b = c.args.state.now in
    let h = c.in-Some.ensures.cases in
    let k = c.in-Some-as_array.ensures.cases in
    let l : length b ≡ block_size = omega (arith, h.2, k.long) in
    all_valid b l (ap valid (sym h.0) ∙ sym c.is_valid.ensures ∙ c.if-is_valid.true) c.is_valid-then-is_valid.result
    (c.is_valid-then-is_valid.ensures ∙ ap₂ area_valid (c.position.ensures ∙ ap (λ (f : List ℕ). (decode f).clock.position) h.0) (k.same ∙ h.1))
