-- `fill_all`: the bytes of four samples more, and all of them. Assumes nothing.
use Rattle.std.proofs.Common.{◌≡◌, ◌<◌, ◌*◌, ◌+◌, ◌/◌, ◌%◌, ◌^◌, ℕ, [], length, get_or, ap, ◌∙◌, sym, div-one, arith}
use Rattle.std.specs.Int.{from_le_bytes, w32}
use Rattle.std.specs.Simd.{first_chunks}
use Rattle.planes.proofs.Filled.{filled, filled_four}
use Rattle.planes.proofs.Word.{byte_of_chunk}
use Rattle.planes.proofs.bytes.fill_all.Goals as goal

low : (n : ℕ) {x : ℕ} → n / 1 % 256 ≡ x → n % 256 ≡ x
low n e = ap (λ (t : ℕ). t % 256) (sym (div-one n)) ∙ e

pub loop-j-preserved : goal.loop-j-preserved
loop-j-preserved c =
    let s = c.args.source.now in
    let whole : length s ≡ 4 * (length s / 4) = omega arith in
    let at : (k n : ℕ) → k < length s / 4 → n ≡ from_le_bytes w32 (get_or (first_chunks 4 (length s / 4) s) k []) → (p : ℕ) → p < 4 → n / 2 ^ (8 * p) % 256 ≡ get_or s (4 * k + p) 0 =
    λ k n i e p h. byte_of_chunk s (length s / 4) k p n (λ i. (c.type_inv.source i).fits) whole i h e in
    let k = 4 * c.loop-j.j in
    let na = c.from_le_bytes-a.result in
    let ata : (p : ℕ) → p < 4 → na / 2 ^ (8 * p) % 256 ≡ get_or s (4 * k + p) 0 = at k na (omega (arith, c.as_chunks.ensures.front_len)) (rw (← c.as_chunks.ensures.front) c.from_le_bytes-a.ensures) in
    let topa : na / 16777216 ≡ na / 16777216 % 256 = omega arith in
    let nb = c.from_le_bytes-b.result in
    let atb : (p : ℕ) → p < 4 → nb / 2 ^ (8 * p) % 256 ≡ get_or s (4 * (k + 1) + p) 0 = at (k + 1) nb (omega (arith, c.as_chunks.ensures.front_len)) (rw (← c.as_chunks.ensures.front) c.from_le_bytes-b.ensures) in
    let topb : nb / 16777216 ≡ nb / 16777216 % 256 = omega arith in
    let nc = c.from_le_bytes-c.result in
    let atc : (p : ℕ) → p < 4 → nc / 2 ^ (8 * p) % 256 ≡ get_or s (4 * (k + 2) + p) 0 = at (k + 2) nc (omega (arith, c.as_chunks.ensures.front_len)) (rw (← c.as_chunks.ensures.front) c.from_le_bytes-c.ensures) in
    let topc : nc / 16777216 ≡ nc / 16777216 % 256 = omega arith in
    let nd = c.from_le_bytes-d.result in
    let atd : (p : ℕ) → p < 4 → nd / 2 ^ (8 * p) % 256 ≡ get_or s (4 * (k + 3) + p) 0 = at (k + 3) nd (omega (arith, c.as_chunks.ensures.front_len)) (rw (← c.as_chunks.ensures.front) c.from_le_bytes-d.ensures) in
    let topd : nd / 16777216 ≡ nd / 16777216 % 256 = omega arith in
    record {
      first = λ i q. filled_four (λ i. get_or s (4 * i + 0) 0) c.loop-j.first k (na % 256) (nb % 256) (nc % 256) (nd % 256) (omega (arith, c.as_chunks.ensures.front_len))
          (low na (ata 0 (omega arith))) (low nb (atb 0 (omega arith))) (low nc (atc 0 (omega arith))) (low nd (atd 0 (omega arith))) c.loop-j.invariant.first i (omega arith);
      second = λ i q. filled_four (λ i. get_or s (4 * i + 1) 0) c.loop-j.second k (na / 256 % 256) (nb / 256 % 256) (nc / 256 % 256) (nd / 256 % 256) (omega (arith, c.as_chunks.ensures.front_len))
          (ata 1 (omega arith)) (atb 1 (omega arith)) (atc 1 (omega arith)) (atd 1 (omega arith)) c.loop-j.invariant.second i (omega arith);
      third = λ i q. filled_four (λ i. get_or s (4 * i + 2) 0) c.loop-j.third k (na / 65536 % 256) (nb / 65536 % 256) (nc / 65536 % 256) (nd / 65536 % 256) (omega (arith, c.as_chunks.ensures.front_len))
          (ata 2 (omega arith)) (atb 2 (omega arith)) (atc 2 (omega arith)) (atd 2 (omega arith)) c.loop-j.invariant.third i (omega arith);
      fourth = λ i q. filled_four (λ i. get_or s (4 * i + 3) 0) c.loop-j.fourth k (na / 16777216) (nb / 16777216) (nc / 16777216) (nd / 16777216) (omega (arith, c.as_chunks.ensures.front_len))
          (topa ∙ ata 3 (omega arith)) (topb ∙ atb 3 (omega arith)) (topc ∙ atc 3 (omega arith)) (topd ∙ atd 3 (omega arith)) c.loop-j.invariant.fourth i (omega arith);
    }

pub returns-clause-first : goal.returns-clause-first
returns-clause-first c = filled (λ k. get_or c.args.source.now (4 * k + 0) 0) (length c.args.first.now) c.loop-j.first (omega arith) (λ i h. c.loop-j.invariant.first i (omega (arith, c.as_chunks.ensures.front_len)))

pub returns-clause-second : goal.returns-clause-second
returns-clause-second c = filled (λ k. get_or c.args.source.now (4 * k + 1) 0) (length c.args.first.now) c.loop-j.second (omega arith) (λ i h. c.loop-j.invariant.second i (omega (arith, c.as_chunks.ensures.front_len)))

pub returns-clause-third : goal.returns-clause-third
returns-clause-third c = filled (λ k. get_or c.args.source.now (4 * k + 2) 0) (length c.args.first.now) c.loop-j.third (omega arith) (λ i h. c.loop-j.invariant.third i (omega (arith, c.as_chunks.ensures.front_len)))

pub returns-clause-fourth : goal.returns-clause-fourth
returns-clause-fourth c = filled (λ k. get_or c.args.source.now (4 * k + 3) 0) (length c.args.first.now) c.loop-j.fourth (omega arith) (λ i h. c.loop-j.invariant.fourth i (omega (arith, c.as_chunks.ensures.front_len)))
