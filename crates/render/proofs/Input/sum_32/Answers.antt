-- `sum_32`: each term is fed; one term more, and all of them. Assumes nothing.
use mathlib.Core.Path.{refl, sym, ap₂, ◌∙◌}
use mathlib.Core.List.{List, ◌++◌}
use Prim.Native.Nat.{◌+◌}
use native.Mathlib.Omega.{arith}
use lib.ListN.{get_or, replicate}
use lib.Lanes.{zip2}
use lib.Ieee.{Float, nan, binary32, add, mul}
use Rattle.render.specs.Listed.{fed_with}
use Rattle.render.proofs.StripRows.{put_both}
use Rattle.render.proofs.Summed.{fed_by_at, sums_more, sums_all, sums_then}
use Rattle.render.proofs.Input.sum_32.Goals as goal

pub sixteen-requires : goal.sixteen-requires
sixteen-requires c = (fed_by_at _ c.args.terms.now c.loop-t.t-index (fed_with 0 nan) c.requires.0 c.loop-t-test.true, omega (arith, c.requires.1))

pub sixteen-requires-in-loop-t : goal.sixteen-requires-in-loop-t
sixteen-requires-in-loop-t c = (fed_by_at _ c.args.terms.now c.loop-t.t-index (fed_with 0 nan) c.requires.0 c.loop-t-test.true, omega (arith, c.requires.1))

pub loop-t-preserved : goal.loop-t-preserved
loop-t-preserved c =
    let a = c.args in
    let j = c.loop-t.t-index in
    let g = (get_or a.terms.now j (fed_with 0 nan)).gain in
    let more : (s x : List Float) → List Float = λ s x. zip2 (add binary32) s (zip2 (mul binary32) x (replicate 16 g)) in
    let next = sums_more a.self.pcm.now a.self.span.frame a.terms.now j (fed_with 0 nan) c.loop-t-test.true 16 in (
      ap₂ more c.loop-t.invariant.0 c.sixteen.ensures ∙ sym (next (a.self.span.first + a.i) _ refl),
      ap₂ more c.loop-t.invariant.1 c.sixteen-in-loop-t.ensures ∙ sym (next (a.self.span.first + (a.i + 16)) _ refl),
    )

pub returns : goal.returns
returns c =
    let a = c.args in
    let n = a.self.span.frame in
    let t = a.self.span.first + a.i in
    let u = a.self.span.first + (a.i + 16) in
    let all = sums_all a.self.pcm.now n a.terms.now c.loop-t.t-index in
    put_both a.row.now c.loop-t.a c.loop-t.b 16 c.loop-t.auto.a.0 (omega (arith, c.requires.2, c.loop-t.auto.b.0))
    ∙ ap₂ (λ (x y : List Float). x ++ y) (c.loop-t.invariant.0 ∙ all t 16 (omega arith)) (c.loop-t.invariant.1 ∙ all u 16 (omega arith))
    ∙ sym (sums_then a.self.pcm.now n a.terms.now t u 16 16 32 (omega arith) refl)
