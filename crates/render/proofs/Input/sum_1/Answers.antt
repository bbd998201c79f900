-- `sum_1`: the sample is there and is no NaN; one term more, and all of them. Assumes nothing.
use mathlib.Core.Path.{sym, ap₂, subst, ◌∙◌}
use Prim.Native.Nat.{ℕ, ◌+◌, ◌%◌, ◌≤◌}
use native.Mathlib.Omega.{arith}
use lib.ListN.{get_or}
use lib.Ieee.{Float, nan, binary32, add, mul, of_bits}
use Rattle.words.specs.Words.{word, float_at}
use Rattle.words.proofs.Nan.{not_above}
use Rattle.render.specs.Listed.{fed_with}
use Rattle.render.proofs.StripSamples.{strip_stands}
use Rattle.render.proofs.Summed.{fed_by_at, sum_more, sum_all}
use Rattle.render.proofs.Input.sum_1.Goals as goal

pub u32_at-requires : goal.u32_at-requires
u32_at-requires c =
    let a = c.args in
    let t = get_or a.terms.now c.loop-t.t-index (fed_with 0 nan) in
    let fed_in = fed_by_at _ a.terms.now c.loop-t.t-index (fed_with 0 nan) c.requires.0 c.loop-t-test.true in
    (strip_stands a.self.pcm.now a.self.span _ a.self.framed a.i 1 t.input c.start.result fed_in (omega (arith, c.requires.1)) c.start.ensures).room

pub float_from_bits-sum : goal.float_from_bits-sum
float_from_bits-sum c =
    let a = c.args in
    let t = get_or a.terms.now c.loop-t.t-index (fed_with 0 nan) in
    let fed_in = fed_by_at _ a.terms.now c.loop-t.t-index (fed_with 0 nan) c.requires.0 c.loop-t-test.true in
    let s = strip_stands a.self.pcm.now a.self.span _ a.self.framed a.i 1 t.input c.start.result fed_in (omega (arith, c.requires.1)) c.start.ensures in
    let w : ℕ → ℕ = λ k. word a.self.pcm.now k % 0x8000_0000 in
    not_above c.u32_at.result (rw c.u32_at.ensures (subst (λ (k : ℕ). w k ≤ 0x7f80_0000) (omega arith) (s.plain 0 (omega arith))))

pub loop-t-preserved : goal.loop-t-preserved
unfolding float_at
loop-t-preserved c =
    let a = c.args in
    let j = c.loop-t.t-index in
    let g = (get_or a.terms.now j (fed_with 0 nan)).gain in
    ap₂ (λ (s : Float) (w : ℕ). add binary32 s (mul binary32 (of_bits binary32 w) g)) c.loop-t.invariant c.u32_at.ensures
    ∙ sym (sum_more a.self.pcm.now a.self.span.frame a.terms.now j (fed_with 0 nan) c.loop-t-test.true (a.self.span.first + a.i) c.start.result c.start.ensures)

pub returns : goal.returns
returns c =
    let a = c.args in
    c.loop-t.invariant ∙ sum_all a.self.pcm.now a.self.span.frame a.terms.now c.loop-t.t-index (a.self.span.first + a.i) (omega arith)
