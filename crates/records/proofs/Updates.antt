-- A list is laid out in one way only, and the code's walk finds it. Assumes nothing.
use Prim.Native.Nat.{ℕ, suc, ◌+◌, ◌*◌, ◌%◌, ◌<◌, ◌≤◌}
use mathlib.Core.Path.{◌≡◌, ap}
use mathlib.Core.Bool.{true, false}
use mathlib.Core.List.{List}
use mathlib.Core.Logic.{⊎_elim}
use native.Mathlib.Nat.{eq-or-lt_of_le, lt_of_not-le}
use native.Mathlib.Numerals.{add-one}
use native.Mathlib.Omega.{arith}
use lib.ListN.{length}
use borrow.Author.Tests.{eq-eqb, eqb-true}
use Rattle.fields.specs.RecordBytes.{all}
use Rattle.records.specs.Laid.{is_whole_update, update_end, update_at, is_updates, laid_out, count}
use Rattle.fields.proofs.All.{and_left, and_right, not_true, all_at}
use Rattle.records.proofs.SomeAndLast.{some_at, some_none, last_only, last_unheld}
use Rattle.records.proofs.Within.{updates_rise}

module _ (m : List ℕ) where
  pub each_whole : (n i : ℕ) → i < n → is_updates m n ≡ true → is_whole_update m (update_at m i) ≡ true
  unfolding is_updates
  each_whole n i h e = all_at (λ k. is_whole_update m (update_at m k)) n i h (and_left (all (λ k. is_whole_update m (update_at m k)) n) _ e)

  pub whole_list : (n : ℕ) → is_updates m n ≡ true → 40 * update_at m n ≡ length m
  unfolding is_updates
  whole_list n e = eqb-true _ _ (and_right (all (λ k. is_whole_update m (update_at m k)) n) _ e)

  one_way : (n k : ℕ) → is_updates m n ≡ true → is_updates m k ≡ true → (n < k → ⊥)
  one_way n k a b l =
      let x = whole_list n a in
      let y = whole_list k b in
      let z = updates_rise m n k l in
      omega arith

  pub same_count : (n k : ℕ) → is_updates m n ≡ true → is_updates m k ≡ true → k ≡ n
  same_count n k a b =
      let x : n < suc k = lt_of_not-le (one_way k n b a) in
      let y : k < suc n = lt_of_not-le (one_way n k a b) in
      omega arith

  -- the walk has passed n updates and stands at the list's end
  module _ (n : ℕ) (few : n ≤ 16) (passed : all (λ i. is_whole_update m (update_at m i)) n ≡ true) (end : 40 * update_at m n ≡ length m) where
    found : is_updates m n ≡ true
    unfolding is_updates
    found = simp (passed, eq-eqb _ _ end)

    pub laid_out_is : laid_out m ≡ true
    unfolding laid_out
    laid_out_is = some_at (is_updates m) 17 n (omega arith) found

    pub counted : count m ≡ n
    unfolding count
    counted = last_only (is_updates m) 17 n (omega arith) found (λ k h e. same_count n k found e)

  -- a list of n updates is laid out, and n is its count
  pub n_updates : (n : ℕ) → n ≤ 16 → is_updates m n ≡ true → (laid_out m ≡ true) × (count m ≡ n)
  unfolding is_updates
  n_updates n few e =
      let passed = and_left (all (λ i. is_whole_update m (update_at m i)) n) _ e in
      (laid_out_is n few passed (whole_list n e), counted n few passed (whole_list n e))

  -- no number of updates makes up the list
  module _ (none : (k : ℕ) → k < 17 → is_updates m k ≡ true → ⊥) where
    pub not_laid_out : laid_out m ≡ false
    unfolding laid_out
    not_laid_out = some_none (is_updates m) 17 (λ k h. not_true _ (none k h))

  -- three ways to fail: a length that is no multiple of 40, a seventeenth update, an update that is not whole
  pub odd_length : (length m % 40 ≡ 0 → ⊥) → (k : ℕ) → k < 17 → is_updates m k ≡ true → ⊥
  odd_length f k h e = let x = whole_list k e in f (omega arith)

  too_early : (n k : ℕ) → 40 * update_at m n < length m → k ≤ n → is_updates m k ≡ true → ⊥
  too_early n k h l e =
      let x = whole_list k e in
      ⊎_elim
      (λ (q : k ≡ n). let y : update_at m k ≡ update_at m n = ap (update_at m) q in omega arith)
      (λ (b : k < n). let y = updates_rise m k n b in omega arith)
      (eq-or-lt_of_le l)

  pub too_many : 40 * update_at m 16 < length m → (k : ℕ) → k < 17 → is_updates m k ≡ true → ⊥
  too_many h k l e = too_early 16 k h (omega arith) e

  pub not_whole : (n : ℕ) → 40 * update_at m n < length m → is_whole_update m (update_at m n) ≡ false → (k : ℕ) → k < 17 → is_updates m k ≡ true → ⊥
  not_whole n h b k l e =
      let a : n < k = lt_of_not-le (λ q. too_early n k h q e) in
      let t = each_whole k n a e in
      let z : ◌≡◌ {A = ℕ} 0 1 = cc in
      omega arith

  pub next_update : (n r : ℕ) → r ≡ update_at m n → update_end m r ≡ update_at m (n + 1)
  unfolding update_at
  next_update n r q = rw (add-one n, q)

-- a list that is not laid out has no updates
pub unlaid_counts : (m : List ℕ) → laid_out m ≡ false → count m ≡ 0
unfolding laid_out count
unlaid_counts m e = last_unheld (is_updates m) 17 e

-- what is no list of updates
pub ruleset refused = (not_laid_out, odd_length, too_many, not_whole)
