-- `fill`: one sample's byte more, and all of them. Assumes nothing.
use Rattle.std.proofs.Common.{◌≡◌, ◌<◌, ◌*◌, ◌+◌, ◌/◌, ◌%◌, ◌^◌, length, get_or, arith}
use Rattle.planes.proofs.Filled.{filled, filled_more}
use Rattle.planes.proofs.Word.{byte_of_chunk}
use Rattle.planes.proofs.bytes.fill.Goals as goal

pub loop-k-preserved : goal.loop-k-preserved
loop-k-preserved c =
    let s = c.args.source.now in
    let p = c.args.significance in
    let k = c.loop-k.k in
    let n = c.from_le_bytes.result in
    let inside : k < length s / 4 = omega (arith, c.as_chunks.ensures.front_len) in
    let whole : length s ≡ 4 * (length s / 4) = omega arith in
    let byte : n / 2 ^ (8 * p) % 256 ≡ get_or s (4 * k + p) 0 =
    byte_of_chunk s (length s / 4) k p n (λ i. (c.type_inv.source i).fits) whole inside c.requires.significance (rw (← c.as_chunks.ensures.front) c.from_le_bytes.ensures) in
    filled_more (λ i. get_or s (4 * i + p) 0) c.loop-k.dest k (n / 2 ^ (8 * p) % 256) (omega arith) byte c.loop-k.invariant

pub returns : goal.returns
returns c = filled (λ i. get_or c.args.source.now (4 * i + c.args.significance) 0) _ c.loop-k.dest (omega arith) (λ i h. c.loop-k.invariant i (omega (arith, c.as_chunks.ensures.front_len)))
