-- `interleave`: four codes more, four channels more, and all. Assumes nothing.
use Rattle.std.proofs.Common.{◌≡◌, ℕ, ◌+◌, ◌*◌, ◌∙◌, ap, arith}
use Rattle.words.specs.Words.{word, float_at}
use Rattle.pcm24.specs.Interleaved.{code_at}
use Rattle.pcm24.proofs.Nearest.{code_small}
use Rattle.pcm24.proofs.Passes.{sample_small, code_read}
use Rattle.pcm24.proofs.Interleaving.{none_put, next_four, four_more, all_put}
use Rattle.pcm24.proofs.bytes.interleave.Goals as goal

pub loop-four-init : goal.loop-four-init
loop-four-init c = none_put _ _ _ _ (omega arith) (λ i. (c.type_inv.dest i).fits)

pub loop-i-init : goal.loop-i-init
loop-i-init c = c.loop-four.invariant

pub code_of_bits-a-requires : goal.code_of_bits-a-requires
code_of_bits-a-requires c =
    sample_small c.args.out.now c.args.stride c.args.count c.requires.writable (4 * c.loop-four.four) c.loop-i.i c.u32_at.result (omega arith) c.loop-i-test.true c.u32_at.type_inv c.u32_at.ensures

pub code_of_bits-b-requires : goal.code_of_bits-b-requires
code_of_bits-b-requires c =
    let e : 4 * (4 * c.loop-four.four * c.args.stride + c.loop-i.i) + 4 * c.args.stride ≡ 4 * ((4 * c.loop-four.four + 1) * c.args.stride + c.loop-i.i) = omega arith in
    sample_small c.args.out.now c.args.stride c.args.count c.requires.writable (4 * c.loop-four.four + 1) c.loop-i.i c.u32_at-in-loop-i.result (omega arith) c.loop-i-test.true c.u32_at-in-loop-i.type_inv
    (c.u32_at-in-loop-i.ensures ∙ ap (word c.args.out.now) e)

pub code_of_bits-c-requires : goal.code_of_bits-c-requires
code_of_bits-c-requires c =
    let e : 4 * (4 * c.loop-four.four * c.args.stride + c.loop-i.i) + 8 * c.args.stride ≡ 4 * ((4 * c.loop-four.four + 2) * c.args.stride + c.loop-i.i) = omega arith in
    sample_small c.args.out.now c.args.stride c.args.count c.requires.writable (4 * c.loop-four.four + 2) c.loop-i.i c.u32_at-in-loop-i-2.result (omega arith) c.loop-i-test.true c.u32_at-in-loop-i-2.type_inv
    (c.u32_at-in-loop-i-2.ensures ∙ ap (word c.args.out.now) e)

pub code_of_bits-d-requires : goal.code_of_bits-d-requires
code_of_bits-d-requires c =
    let e : 4 * (4 * c.loop-four.four * c.args.stride + c.loop-i.i) + 12 * c.args.stride ≡ 4 * ((4 * c.loop-four.four + 3) * c.args.stride + c.loop-i.i) = omega arith in
    sample_small c.args.out.now c.args.stride c.args.count c.requires.writable (4 * c.loop-four.four + 3) c.loop-i.i c.u32_at-in-loop-i-3.result (omega arith) c.loop-i-test.true c.u32_at-in-loop-i-3.type_inv
    (c.u32_at-in-loop-i-3.ensures ∙ ap (word c.args.out.now) e)

pub loop-i-preserved : goal.loop-i-preserved
loop-i-preserved c =
    let out = c.args.out.now in
    let stride = c.args.stride in
    let four = c.loop-four.four in
    let i = c.loop-i.i in
    let read = λ (k at w : ℕ) (e : at ≡ 4 * ((4 * four + k) * stride + i)) (is : w ≡ word out at). code_read out stride i (4 * four + k) at w e is in
    four_more (code_at out stride) c.args.dest.now c.loop-i.dest c.args.count (4 * four) i (36 * i + 12 * four) (omega arith) (omega arith) c.loop-i-test.true (omega arith)
    (λ d. code_small (float_at out (4 * (d * stride + i))))
    (c.code_of_bits-a.ensures ∙ code_read out stride i (4 * four) _ _ (omega arith) c.u32_at.ensures)
    (c.code_of_bits-b.ensures ∙ read 1 (4 * (4 * four * stride + i) + 4 * stride) _ (omega arith) c.u32_at-in-loop-i.ensures)
    (c.code_of_bits-c.ensures ∙ read 2 (4 * (4 * four * stride + i) + 8 * stride) _ (omega arith) c.u32_at-in-loop-i-2.ensures)
    (c.code_of_bits-d.ensures ∙ read 3 (4 * (4 * four * stride + i) + 12 * stride) _ (omega arith) c.u32_at-in-loop-i-3.ensures)
    c.put_code.ensures c.put_code-in-loop-i.ensures c.put_code-in-loop-i-2.ensures c.put_code-in-loop-i-3.ensures c.loop-i.invariant

pub loop-four-preserved : goal.loop-four-preserved
loop-four-preserved c =
    next_four (code_at c.args.out.now c.args.stride) c.args.dest.now c.loop-i.dest c.args.count (4 * c.loop-four.four) (4 * (c.loop-four.four + 1)) c.loop-i.i (omega arith) c.loop-i-test.false c.loop-i.invariant

pub returns : goal.returns
returns c =
    all_put (code_at c.args.out.now c.args.stride) c.args.dest.now c.loop-four.dest c.args.count (4 * c.loop-four.four) (omega arith)
    c.loop-four.auto.dest c.requires.dest c.loop-four.invariant
