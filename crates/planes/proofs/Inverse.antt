-- R-10: "The inverse returns the same samples, NaN bit patterns included." Both ways round, for any bytes. Assumes nothing.
use Rattle.std.proofs.Common.{◌≡◌, ◌<◌, ◌≤◌, ◌+◌, ◌*◌, ℕ, List, [], ◌∷◌, ◌++◌, length, get_or, take, drop, sym, ap, ap₂, ◌∙◌, refl, zero-add, drop-drop, length-drop, take_all, length-take-le, arith}
use Rattle.std.proofs.lemmas.List.{take-append-drop, get_or-take, get_or-drop}
use Rattle.planes.specs.Planes.{plane, planes, samples_of}
use Rattle.planes.proofs.Filled.{filled}
use Rattle.planes.proofs.Woven.{Woven, woven}
use Rattle.planes.proofs.Places.{first_reads, second_reads, third_reads, fourth_reads, samples_read}

samples_of_planes : (c : ℕ) (s : List ℕ) → length s ≡ 4 * c → samples_of c (planes c s) ≡ s
samples_of_planes c s l =
    let there : Woven c (planes c s) 0 c s = record {
      first = λ i h. rw zero-add (sym (first_reads s c i h));
      second = λ i h. rw zero-add (sym (second_reads s c i h));
      third = λ i h. rw zero-add (sym (third_reads s c i h));
      fourth = λ i h. rw zero-add (sym (fourth_reads s c i h));
    } in
    sym (woven c (planes c s) 0 c s l there)

-- plane p of samples that are put together from planes
plane_again : (c d p : ℕ) (s : List ℕ) → length s ≡ 4 * c → d + c ≤ 4 * c → ((k : ℕ) → k < c → get_or (samples_of c s) (4 * k + p) 0 ≡ get_or s (d + k) 0) → plane (samples_of c s) c p ≡ take c (drop d s)
plane_again c d p s l h reads =
    let full : length (take c (drop d s)) ≡ c = length-take-le c (drop d s) (omega (arith, length-drop d s)) in
    sym (filled (λ k. get_or (samples_of c s) (4 * k + p) 0) c (take c (drop d s)) full
    (λ i q. get_or-take c (drop d s) i 0 q ∙ get_or-drop d s i 0 ∙ sym (reads i q)))

part : (c a b : ℕ) (s : List ℕ) → b ≡ a + c → take c (drop a s) ++ drop b s ≡ drop a s
part c a b s e = rw e (ap (λ (t : List ℕ). take c (drop a s) ++ t) (sym (drop-drop c a s)) ∙ take-append-drop c (drop a s))

planes_of_samples : (c : ℕ) (s : List ℕ) → length s ≡ 4 * c → planes c (samples_of c s) ≡ s
planes_of_samples c s l =
    let last : take c (drop (3 * c) s) ≡ drop (3 * c) s = take_all c (drop (3 * c) s) (omega (arith, length-drop (3 * c) s)) in
    let p0 = plane_again c 0 0 s l (omega arith) (λ k h. rw zero-add (samples_read c s k 0 h (omega arith))) in
    let p1 = plane_again c c 1 s l (omega arith) (λ k h. samples_read c s k 1 h (omega arith)) in
    let p2 = plane_again c (2 * c) 2 s l (omega arith) (λ k h. samples_read c s k 2 h (omega arith)) in
    let p3 = plane_again c (3 * c) 3 s l (omega arith) (λ k h. samples_read c s k 3 h (omega arith)) in
    ap₂ (λ (x y : List ℕ). x ++ y) p0
    (ap₂ (λ (x y : List ℕ). x ++ y) p1 (ap₂ (λ (x y : List ℕ). x ++ y) p2 (p3 ∙ last) ∙ part c (2 * c) (3 * c) s (omega arith)) ∙ part c c (2 * c) s (omega arith))
    ∙ part c 0 c s (omega arith)

pub back : (n : ℕ) (s : List ℕ) → length s ≡ 48 * n → samples_of (12 * n) (planes (12 * n) s) ≡ s
back n s l = samples_of_planes (12 * n) s (omega arith)

pub forth : (n : ℕ) (s : List ℕ) → length s ≡ 48 * n → planes (12 * n) (samples_of (12 * n) s) ≡ s
forth n s l = planes_of_samples (12 * n) s (omega arith)

-- Something moves: of two samples, the bytes of like significance come to stand together.
pub moved : planes 2 (1 ∷ 2 ∷ 3 ∷ 4 ∷ 5 ∷ 6 ∷ 7 ∷ 8 ∷ []) ≡ 1 ∷ 5 ∷ 2 ∷ 6 ∷ 3 ∷ 7 ∷ 4 ∷ 8 ∷ []
moved = refl
