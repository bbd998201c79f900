-- The records of one update of a list, as a list of their own: an update that is whole, and nothing more. Assumes nothing.
use mathlib.Core.Path.{◌≡◌, refl, sym, ap, ◌∙◌, subst}
use mathlib.Core.Bool.{Bool, true, false}
use mathlib.Core.List.{List}
use mathlib.Core.Logic.{⊎_elim}
use Prim.Native.Nat.{ℕ, suc, ◌+◌, ◌-◌, ◌*◌, ◌/◌, ◌≤◌, ◌<◌, min}
use native.Mathlib.Nat.{eq-or-lt_of_le, min-eq_left}
use native.Mathlib.Omega.{arith}
use lib.Dec.{ltb, lit<}
use borrow.Author.Tests.{ltb-true, ltb-false}
use lib.ListN.{get_or, length, drop}
use Rattle.std.proofs.lemmas.List.{get_or-take, get_or-drop, get_or_past, length-take, length-drop}
use Rattle.fields.specs.Update.{is_far}
use Rattle.fields.proofs.All.{all_at, all_true}
use Rattle.records.specs.Laid.{is_whole_update, update_end, update_at, is_updates}
use Rattle.records.specs.ValuesInRange.{record_in_range, in_range, record_fits, all_fit}
use Rattle.records.proofs.Updates.{each_whole, whole_list}
use Rattle.records.proofs.Within.{updates_rise}
use Rattle.waits.specs.Area.{records_of}
use Rattle.waits.proofs.Alike.{Like, far_like, fits_like, in_range_like}
use Rattle.waits.proofs.Moved.{Region, update_moved, update_end_moved}

pub record One (p : List ℕ) : Type 0 where
  pub whole : is_whole_update p 0 ≡ true
  pub end : 40 * update_end p 0 ≡ length p

-- update i of the n of m
module _ (m : List ℕ) (n i : ℕ) (h : i < n) (e : is_updates m n ≡ true) where
  abbrev from : ℕ
  from = update_at m i

  abbrev to : ℕ
  to = update_at m (suc i)

  rises : from < to
  rises = updates_rise m i (suc i) (omega arith)

  ends : 40 * to ≤ length m
  ends =
      let l = whole_list m n e in
      ⊎_elim
      (λ (q : suc i ≡ n). let r : to ≡ update_at m n = ap (update_at m) q in omega (arith, r, l))
      (λ (b : suc i < n). let r = updates_rise m (suc i) n b in omega (arith, r, l))
      (eq-or-lt_of_le (let k : suc i ≤ n = omega (arith, h) in k))

  pub piece_length : length (records_of m i) ≡ 40 * (to - from)
  piece_length =
      length-take (40 * (to - from)) (drop (40 * from) m) ∙ ap (min (40 * (to - from))) (length-drop (40 * from) m)
      ∙ min-eq_left (let a = rises in let b = ends in omega (arith, a, b))

  byte : (j : ℕ) → j < 40 * (to - from) → get_or (records_of m i) j 0 ≡ get_or m (40 * from + j) 0
  byte j l = get_or-take (40 * (to - from)) (drop (40 * from) m) j 0 l ∙ get_or-drop (40 * from) m j 0

  pub region : Region m from to (records_of m i) 0
  region a b l k q j t =
      byte (40 * b + j) (omega (arith, l, k, q, t)) ∙ ap (λ (x : ℕ). get_or m x 0) (let r : 40 * from + (40 * b + j) ≡ 40 * a + j = omega (arith, q) in r)

  pub head_like : Like m from (records_of m i) 0
  head_like = region from 0 (omega arith) rises (omega arith)

  end_is : update_end m from ≡ to
  unfolding update_at
  end_is = refl

  pub one_of : One (records_of m i)
  one_of = record {
    whole = update_moved m (records_of m i) from to 0 region from 0 (omega arith) last (omega arith) ∙ each_whole m n i h e;
    end =
        let q = update_end_moved m (records_of m i) from to 0 region from 0 (omega arith) last (omega arith) in
        let l = piece_length in
        let t = end_is in
        omega (arith, q, l, t);
  }
    where
      last : update_end m from ≤ to
      last = let t = end_is in omega (arith, t)

  inside : (r : ℕ) → r < length (records_of m i) / 40 → from + r < length m / 40
  inside r l = let p = piece_length in let a = ends in let b = rises in omega (arith, l, p, a, b)

  there : (r : ℕ) → r < length (records_of m i) / 40 → Like m (from + r) (records_of m i) r
  there r l = region (from + r) r (omega arith) (let p = piece_length in let b = rises in omega (arith, l, p, b)) (omega arith)

  pub piece_fits : all_fit m ≡ true → all_fit (records_of m i) ≡ true
  unfolding all_fit
  piece_fits f =
      all_true (record_fits (records_of m i)) (length (records_of m i) / 40)
      (λ r l. fits_like m (records_of m i) (from + r) r (there r l) ∙ all_at (record_fits m) (length m / 40) (from + r) (inside r l) f)

  pub piece_in_range : in_range m ≡ true → in_range (records_of m i) ≡ true
  unfolding in_range
  piece_in_range f =
      all_true (record_in_range (records_of m i)) (length (records_of m i) / 40)
      (λ r l. in_range_like m (records_of m i) (from + r) r (there r l) ∙ all_at (record_in_range m) (length m / 40) (from + r) (inside r l) f)

  pub piece_far : is_far (records_of m i) 0 ≡ is_far m from
  piece_far = far_like m (records_of m i) from 0 head_like

  pub piece_bytes : ((k : ℕ) → get_or m k 0 < 256) → (k : ℕ) → get_or (records_of m i) k 0 < 256
  piece_bytes f k = by (ltb k (40 * (to - from))) refl
    where
      by : (b : Bool) → ltb k (40 * (to - from)) ≡ b → get_or (records_of m i) k 0 < 256
      by true t = subst (λ (v : ℕ). v < 256) (sym (byte k (ltb-true k (40 * (to - from)) t))) (f (40 * from + k))
      by false t =
          let l = ltb-false k (40 * (to - from)) t in
          subst (λ (v : ℕ). v < 256) (sym (get_or_past (records_of m i) k 0 (let p = piece_length in omega (arith, l, p)))) (lit< tt)
