-- What stands in a table, and how long it is. Assumes nothing.
use Rattle.std.proofs.Common.{◌≡◌, ◌<◌, ◌+◌, ◌-◌, ◌*◌, ℕ, zero, suc, List, length, get_or, map, sym, ap, ap₂, ◌∙◌, add-zero, zero-add, arith, length-append}
use mathlib.Core.Logic.{inl, inr}
use Rattle.std.proofs.Math.Nat.{suc-mul}
use Rattle.std.specs.List.{range_with_len, flat_map}
use Rattle.std.proofs.lemmas.List.{get_or_append_left, get_or-append-add}
use Rattle.std.proofs.lemmas.List.FromFn.{length-map-range_with_len, get_or-map-range_with_len}
use Rattle.ieee.proofs.Theorems.{le_or_lt}
use Rattle.pcm24.specs.Interleaved.{in_rows}

module _ (f : ℕ → ℕ → ℕ) (n : ℕ) where
  abbrev row : ℕ → List ℕ
  row a = map (f a) (range_with_len 0 n)

  abbrev rows : ℕ → ℕ → List ℕ
  rows p m = flat_map (λ a. map (f a) (range_with_len 0 n)) (range_with_len p m)

  length_row : (a : ℕ) → length (row a) ≡ n
  length_row a = length-map-range_with_len (f a) 0 n

  rows_length : (p m : ℕ) → length (rows p m) ≡ m * n
  rows_length p zero = omega arith
  rows_length p (suc m) =
      length-append (row p) (rows (p + 1) m)
      ∙ ap₂ (λ (a b : ℕ). a + b) (length_row p) (rows_length (p + 1) m)
      ∙ (let e : n + m * n ≡ m * n + n = omega arith in e)
      ∙ sym (suc-mul m n)

  rows_read : (p m a b : ℕ) → a < m → b < n → get_or (rows p m) (a * n + b) 0 ≡ f (p + a) b
  rows_read p zero a b h q = absurd (omega arith)
  rows_read p (suc m) zero b h q =
      ap (λ (k : ℕ). get_or (rows p (suc m)) k 0) (let e : 0 * n + b ≡ b = omega arith in e)
      ∙ get_or_append_left (row p) (rows (p + 1) m) 0 b (rw (length_row p) q)
      ∙ get_or-map-range_with_len (f p) 0 n b b 0 q (omega arith)
      ∙ ap (λ (k : ℕ). f k b) (sym (add-zero p))
  rows_read p (suc m) (suc a) b h q =
      let e : suc a * n + b ≡ length (row p) + (a * n + b) = rw (length_row p, suc-mul a n) (let e : a * n + n + b ≡ n + (a * n + b) = omega arith in e) in
      let k : p + 1 + a ≡ p + suc a = omega arith in
      ap (λ (k : ℕ). get_or (rows p (suc m)) k 0) e
      ∙ get_or-append-add (row p) (rows (p + 1) m) (a * n + b) 0
      ∙ rows_read (p + 1) m a b (omega arith) q
      ∙ ap (λ (k : ℕ). f k b) k

  rows_small : (b : ℕ) → 0 < b → ((a i : ℕ) → f a i < b) → (p m j : ℕ) → get_or (rows p m) j 0 < b
  rows_small b z h p zero j = z
  rows_small b z h p (suc m) j = elim (le_or_lt n j) [
    | inr l ↦
        let e : get_or (rows p (suc m)) j 0 ≡ f p j =
        get_or_append_left (row p) (rows (p + 1) m) 0 j (rw (length_row p) l) ∙ get_or-map-range_with_len (f p) 0 n j j 0 l (omega arith) in
        rw e (h p j)
    | inl l ↦
        let q : j ≡ length (row p) + (j - n) = rw (length_row p) (omega arith) in
        let e : get_or (rows p (suc m)) j 0 ≡ get_or (rows (p + 1) m) (j - n) 0 =
        ap (λ (k : ℕ). get_or (rows p (suc m)) k 0) q ∙ get_or-append-add (row p) (rows (p + 1) m) (j - n) 0 in
        rw e (rows_small b z h (p + 1) m (j - n))
  ]

  pub table_small : (b : ℕ) → 0 < b → ((a i : ℕ) → f a i < b) → (m j : ℕ) → get_or (in_rows f m n) j 0 < b
  table_small b z h m j = rows_small b z h 0 m j

  pub table_length : (m : ℕ) → length (in_rows f m n) ≡ m * n
  table_length m = rows_length 0 m

  pub table_read : (m a b : ℕ) → a < m → b < n → get_or (in_rows f m n) (a * n + b) 0 ≡ f a b
  table_read m a b h q = rows_read 0 m a b h q ∙ ap (λ (k : ℕ). f k b) (zero-add a)
