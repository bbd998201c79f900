-- Bytes put in place sample by sample are the samples of the planes. Assumes nothing.
use Rattle.std.proofs.Common.{◌≡◌, ◌<◌, ◌+◌, ◌*◌, ℕ, zero, suc, List, [], ◌∷◌, length, get_or, sym, ap, ◌∙◌, add-zero, arith}
use Rattle.std.specs.List.{range_with_len, flat_map}
use Rattle.std.proofs.lemmas.List.{nil_from_length}
use Rattle.planes.specs.Planes.{sample_of}

-- the four bytes of each of m samples, which are samples a, a + 1, .. of those in planes
pub record Woven (c : ℕ) (s : List ℕ) (a m : ℕ) (xs : List ℕ) : Type 0 where
  pub first : (i : ℕ) → i < m → get_or xs (4 * i) 0 ≡ get_or s (a + i) 0
  pub second : (i : ℕ) → i < m → get_or xs (4 * i + 1) 0 ≡ get_or s (c + (a + i)) 0
  pub third : (i : ℕ) → i < m → get_or xs (4 * i + 2) 0 ≡ get_or s (2 * c + (a + i)) 0
  pub fourth : (i : ℕ) → i < m → get_or xs (4 * i + 3) 0 ≡ get_or s (3 * c + (a + i)) 0

pub woven : (c : ℕ) (s : List ℕ) (a m : ℕ) (xs : List ℕ) → length xs ≡ 4 * m → Woven c s a m xs → xs ≡ flat_map (sample_of c s) (range_with_len a m)
woven c s a zero xs l h = nil_from_length xs l
woven c s a (suc m) [] l h = absurd (omega arith)
woven c s a (suc m) (x ∷ []) l h = absurd (omega arith)
woven c s a (suc m) (x ∷ y ∷ []) l h = absurd (omega arith)
woven c s a (suc m) (x ∷ y ∷ z ∷ []) l h = absurd (omega arith)
woven c s a (suc m) (x ∷ y ∷ z ∷ w ∷ xs) l h =
    let all : List ℕ = x ∷ y ∷ z ∷ w ∷ xs in
    let some : 0 < suc m = omega arith in
    let e : a + 0 ≡ a = add-zero a in
    let b0 : x ≡ get_or s a 0 = rw e at (h.first 0 some) in
    let b1 : y ≡ get_or s (c + a) 0 = rw e at (h.second 0 some) in
    let b2 : z ≡ get_or s (2 * c + a) 0 = rw e at (h.third 0 some) in
    let b3 : w ≡ get_or s (3 * c + a) 0 = rw e at (h.fourth 0 some) in
    let next : (i j k p q : ℕ) → get_or all j 0 ≡ get_or s p 0 → j ≡ suc (suc (suc (suc k))) → p ≡ q → get_or xs k 0 ≡ get_or s q 0 = λ i j k p q r f g. sym (ap (λ (t : ℕ). get_or all t 0) f) ∙ r ∙ ap (λ (t : ℕ). get_or s t 0) g in
    let rest : Woven c s (a + 1) m xs = record {
      first = λ i q. next i (4 * suc i) (4 * i) _ _ (h.first (suc i) (omega arith)) (omega arith) (omega arith);
      second = λ i q. next i (4 * suc i + 1) (4 * i + 1) _ _ (h.second (suc i) (omega arith)) (omega arith) (omega arith);
      third = λ i q. next i (4 * suc i + 2) (4 * i + 2) _ _ (h.third (suc i) (omega arith)) (omega arith) (omega arith);
      fourth = λ i q. next i (4 * suc i + 3) (4 * i + 3) _ _ (h.fourth (suc i) (omega arith)) (omega arith) (omega arith);
    } in
    let ih : xs ≡ flat_map (sample_of c s) (range_with_len (a + 1) m) = woven c s (a + 1) m xs (omega arith) rest in
    cc
