-- `sum_4`: one term more, and all of them. Assumes nothing.
use mathlib.Core.Path.{refl, sym, ap₂, ◌∙◌}
use mathlib.Core.List.{List}
use Prim.Native.Nat.{◌+◌}
use native.Mathlib.Omega.{arith}
use lib.ListN.{get_or, replicate}
use lib.Lanes.{zip2}
use lib.Ieee.{Float, nan, binary32, add, mul}
use Rattle.render.specs.Listed.{fed_with}
use Rattle.render.proofs.StripRows.{put_whole}
use Rattle.render.proofs.Summed.{sums_more, sums_all}
use Rattle.render.proofs.Input.sum_4.Goals as goal

pub loop-t-preserved : goal.loop-t-preserved
loop-t-preserved c =
    let a = c.args in
    let j = c.loop-t.t-index in
    let g = (get_or a.terms.now j (fed_with 0 nan)).gain in
    ap₂ (λ (s x : List Float). zip2 (add binary32) s (zip2 (mul binary32) x (replicate 4 g))) c.loop-t.invariant c.four.ensures
    ∙ sym (sums_more a.self.pcm.now a.self.span.frame a.terms.now j (fed_with 0 nan) c.loop-t-test.true 4 (a.self.span.first + a.i) _ refl)

pub returns : goal.returns
returns c =
    let a = c.args in
    let e = sums_all a.self.pcm.now a.self.span.frame a.terms.now c.loop-t.t-index (a.self.span.first + a.i) 4 (omega arith) in
    put_whole a.row.now c.loop-t.sums (c.requires.2 ∙ sym c.loop-t.auto.sums.0) ∙ c.loop-t.invariant ∙ e
