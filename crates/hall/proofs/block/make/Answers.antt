-- `block::make`: the new renderer's part, and an area of zeros.
use Prim.Native.Nat.{ℕ, ◌+◌}
use mathlib.Core.Path.{◌≡◌, ap, ap₂, ◌∙◌}
use mathlib.Core.List.{◌++◌}
use lib.ListN.{length, replicate}
use native.Mathlib.Omega.{arith}
use borrow.Author.Rules.{rules}
use Rattle.store.specs.Layout.{encode}
use Rattle.waits.specs.Area.{area_bytes}
use Rattle.hall.proofs.block.make.Goals as goal

pub returns : goal.returns
unfolding encode
returns c =
    let h = rw c.unwrap.ensures at c.split_first_chunk_mut.ensures.cases in
    let n : length c.unwrap.result.1.now ≡ area_bytes = omega (arith, h.2, c.requires) in
    let z : c.fill.new.self ≡ replicate (length c.unwrap.result.1.now) 0 = search rules in
    ap₂ ◌++◌ c.make.ensures (z ∙ ap (λ (k : ℕ). replicate k 0) n)
