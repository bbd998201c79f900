-- `samples_pass`: the first row that fails decides, or none. Assumes nothing.
use Rattle.std.proofs.Common.{◌≡◌, ◌-◌, ◌+◌, suc, sym, ap, ◌∙◌, ℕ, arith}
use Rattle.pcm24.specs.Refused.{rows_writable}
use Rattle.pcm24.proofs.Passes.{row_fails, row_passed, no_rows}
use Rattle.pcm24.proofs.judge.samples_pass.Goals as goal

pub returns-then-not-row_passes : goal.returns-then-not-row_passes
returns-then-not-row_passes c =
    let k : 12 - c.loop-c.c ≡ suc (11 - c.loop-c.c) = omega arith in
    row_fails c.args.out.now c.args.stride c.args.count (11 - c.loop-c.c) c.loop-c.c (sym c.row_passes.ensures ∙ c.if-not-row_passes.true)
    ∙ ap (λ (n : ℕ). rows_writable c.args.out.now c.args.stride c.args.count n c.loop-c.c) (sym k)
    ∙ sym c.loop-c.invariant

pub loop-c-preserved : goal.loop-c-preserved
loop-c-preserved c =
    let k : 12 - c.loop-c.c ≡ suc (11 - c.loop-c.c) = omega arith in
    let l : 11 - c.loop-c.c ≡ 12 - (c.loop-c.c + 1) = omega arith in
    c.loop-c.invariant
    ∙ ap (λ (n : ℕ). rows_writable c.args.out.now c.args.stride c.args.count n c.loop-c.c) k
    ∙ row_passed c.args.out.now c.args.stride c.args.count (11 - c.loop-c.c) c.loop-c.c (sym c.row_passes.ensures ∙ c.if-not-row_passes.false)
    ∙ ap (λ (n : ℕ). rows_writable c.args.out.now c.args.stride c.args.count n (c.loop-c.c + 1)) l

pub returns : goal.returns
returns c =
    let k : 12 - c.loop-c.c ≡ 0 = omega arith in
    sym (c.loop-c.invariant ∙ ap (λ (n : ℕ). rows_writable c.args.out.now c.args.stride c.args.count n c.loop-c.c) k ∙ no_rows c.args.out.now c.args.stride c.args.count c.loop-c.c)
