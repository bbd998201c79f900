-- Which byte stands where in planes, and in samples put together from planes. Assumes nothing.
use Rattle.std.proofs.Common.{◌≡◌, ◌<◌, ◌+◌, ◌*◌, ℕ, zero, suc, List, ◌++◌, length, get_or, sym, ap, ◌∙◌, refl, add-zero, zero-add, arith}
use Rattle.std.specs.List.{range_with_len, flat_map}
use Rattle.std.proofs.lemmas.List.{get_or_append_left, get_or-append-add}
use Rattle.std.proofs.lemmas.List.FromFn.{length-map-range_with_len, get_or-map-range_with_len}
use Rattle.planes.specs.Planes.{plane, planes, sample_of, samples_of}

length_plane : (s : List ℕ) (c p : ℕ) → length (plane s c p) ≡ c
length_plane s c p = length-map-range_with_len (λ k. get_or s (4 * k + p) 0) 0 c

plane_reads : (s : List ℕ) (c p k : ℕ) → k < c → get_or (plane s c p) k 0 ≡ get_or s (4 * k + p) 0
plane_reads s c p k h = get_or-map-range_with_len (λ i. get_or s (4 * i + p) 0) 0 c k k 0 h (omega arith)

module _ (s : List ℕ) (c k : ℕ) (h : k < c) where
  front : (p : ℕ) (rest : List ℕ) → get_or (plane s c p ++ rest) k 0 ≡ get_or s (4 * k + p) 0
  front p rest = get_or_append_left (plane s c p) rest 0 k (rw (length_plane s c p) h) ∙ plane_reads s c p k h

  past : (p i j : ℕ) (rest : List ℕ) → j ≡ c + i → get_or (plane s c p ++ rest) j 0 ≡ get_or rest i 0
  past p i j rest e = ap (λ (t : ℕ). get_or (plane s c p ++ rest) t 0) (let f : j ≡ length (plane s c p) + i = rw (length_plane s c p) e in f) ∙ get_or-append-add (plane s c p) rest i 0

  pub first_reads : get_or (planes c s) k 0 ≡ get_or s (4 * k) 0
  first_reads = rw (let e : 4 * k + 0 ≡ 4 * k = add-zero (4 * k) in e) at (front 0 (plane s c 1 ++ (plane s c 2 ++ plane s c 3)))

  pub second_reads : get_or (planes c s) (c + k) 0 ≡ get_or s (4 * k + 1) 0
  second_reads = past 0 k (c + k) (plane s c 1 ++ (plane s c 2 ++ plane s c 3)) refl ∙ front 1 (plane s c 2 ++ plane s c 3)

  pub third_reads : get_or (planes c s) (2 * c + k) 0 ≡ get_or s (4 * k + 2) 0
  third_reads =
      past 0 (c + k) (2 * c + k) (plane s c 1 ++ (plane s c 2 ++ plane s c 3)) (omega arith)
      ∙ past 1 k (c + k) (plane s c 2 ++ plane s c 3) refl
      ∙ front 2 (plane s c 3)

  pub fourth_reads : get_or (planes c s) (3 * c + k) 0 ≡ get_or s (4 * k + 3) 0
  fourth_reads =
      past 0 (2 * c + k) (3 * c + k) (plane s c 1 ++ (plane s c 2 ++ plane s c 3)) (omega arith)
      ∙ past 1 (c + k) (2 * c + k) (plane s c 2 ++ plane s c 3) (omega arith)
      ∙ past 2 k (c + k) (plane s c 3) refl
      ∙ plane_reads s c 3 k h

samples_from : (c : ℕ) (s : List ℕ) (a m i p : ℕ) → i < m → p < 4 → get_or (flat_map (sample_of c s) (range_with_len a m)) (4 * i + p) 0 ≡ get_or (sample_of c s (a + i)) p 0
samples_from c s a zero i p h q = absurd (omega arith)
samples_from c s a (suc m) zero p h q =
    let all : List ℕ = sample_of c s a ++ flat_map (sample_of c s) (range_with_len (a + 1) m) in
    ap (λ (t : ℕ). get_or all t 0) (zero-add p)
    ∙ get_or_append_left (sample_of c s a) (flat_map (sample_of c s) (range_with_len (a + 1) m)) 0 p q
    ∙ ap (λ (t : ℕ). get_or (sample_of c s t) p 0) (sym (add-zero a))
samples_from c s a (suc m) (suc i) p h q =
    let rest : List ℕ = flat_map (sample_of c s) (range_with_len (a + 1) m) in
    let e : 4 * suc i + p ≡ 4 + (4 * i + p) = omega arith in
    let f : a + 1 + i ≡ a + suc i = omega arith in
    ap (λ (t : ℕ). get_or (sample_of c s a ++ rest) t 0) e
    ∙ get_or-append-add (sample_of c s a) rest (4 * i + p) 0
    ∙ samples_from c s (a + 1) m i p (omega arith) q
    ∙ ap (λ (t : ℕ). get_or (sample_of c s t) p 0) f

pub samples_read : (c : ℕ) (s : List ℕ) (k p : ℕ) → k < c → p < 4 → get_or (samples_of c s) (4 * k + p) 0 ≡ get_or (sample_of c s k) p 0
samples_read c s k p h q = samples_from c s 0 c k p h q ∙ ap (λ (t : ℕ). get_or (sample_of c s t) p 0) (zero-add k)
