-- Where the parts of a list end: a whole part ends within the list, and parts follow each other. Assumes nothing.
use Prim.Native.Nat.{ℕ, zero, suc, ◌+◌, ◌*◌, ◌/◌, ◌%◌, ◌<◌, ◌≤◌}
use mathlib.Core.Path.{◌≡◌, sym, subst, ◌∙◌}
use mathlib.Core.Bool.{Bool, true, false, ◌&&◌}
use mathlib.Core.List.{List}
use mathlib.Core.Logic.{⊎_elim}
use native.Mathlib.Nat.{eq-or-lt_of_le}
use native.Mathlib.Numerals.{add-one}
use native.Mathlib.Omega.{arith}
use lib.ListN.{length}
use Rattle.fields.specs.RecordBytes.{all}
use Rattle.fields.specs.Block.{blocks, is_element, is_block}
use Rattle.fields.specs.Update.{objects, elements, is_update}
use Rattle.fields.specs.Object.{is_object}
use Rattle.records.specs.Laid.{is_whole_element, is_whole_update, element_end, element_at, object_at, update_end, update_at}
use Rattle.fields.proofs.All.{and_left, and_right, not_true, all_none, all_more, all_fails}
use Rattle.records.proofs.RecordKinds.{there_update, there_element, there_block, there_object}

-- a run of records that are each below R ends at R at most
run_within : (p : ℕ → Bool) (R : ℕ) → ((r : ℕ) → p r ≡ true → r < R) → (a n : ℕ) → a ≤ R → all (λ k. p (a + k)) n ≡ true → a + n ≤ R
unfolding all
run_within p R f a zero h e = omega arith
run_within p R f a (suc n) h e = let l = f (a + n) (and_right (all (λ k. p (a + k)) n) (p (a + n)) e) in omega arith

module _ (m : List ℕ) (whole : length m % 40 ≡ 0) where
  pub element_within : (n e : ℕ) → is_whole_element m n e ≡ true → element_end m n e ≤ length m / 40
  unfolding is_whole_element
  element_within n e h =
      let head = is_element m e && all (λ b. is_block m (e + 1 + b)) (blocks m e) in
      let first = and_left head _ h in
      let r = there_element m whole e (and_left (is_element m e) _ first) in
      let b = run_within (is_block m) (length m / 40) (there_block m whole) (e + 1) (blocks m e) (omega arith) (and_right (is_element m e) _ first) in
      run_within (is_object m) (length m / 40) (there_object m whole) (e + 1 + blocks m e) (n * blocks m e) b (and_right head _ h)

  -- an element that would end past the list is not whole
  pub too_long : (n e : ℕ) → length m / 40 < element_end m n e → is_whole_element m n e ≡ false
  too_long n e h = not_true _ (λ t. let l = element_within n e t in omega arith)

  elements_within : (u n : ℕ) → u < length m / 40 → all (λ e. is_whole_element m (objects m u) (element_at m u e)) n ≡ true → element_at m u n ≤ length m / 40
  unfolding all element_at
  elements_within u zero h e = omega arith
  elements_within u (suc n) h e = element_within (objects m u) (element_at m u n) (and_right (all (λ e. is_whole_element m (objects m u) (element_at m u e)) n) _ e)

  pub update_within : (u : ℕ) → is_whole_update m u ≡ true → update_end m u ≤ length m / 40
  unfolding is_whole_update
  update_within u e =
      elements_within u (elements m u) (there_update m whole u (and_left (is_update m u) _ e)) (and_right (is_update m u) _ e)

-- the tests of an element in turn; k blocks, j objects in blocks
module _ (m : List ℕ) (n e : ℕ) where
  pub no_element : is_element m e ≡ false → is_whole_element m n e ≡ false
  unfolding is_whole_element
  no_element h = simp h

  module _ (h : is_element m e ≡ true) (k : ℕ) (q : k ≡ blocks m e) where
    pub no_blocks : all (λ b. is_block m (e + 1 + b)) k ≡ false → is_whole_element m n e ≡ false
    unfolding is_whole_element
    no_blocks b = simp (h, rw q at b)

    pub end_is : (j : ℕ) → j ≡ n * k → e + 1 + k + j ≡ element_end m n e
    end_is j l = rw (l, q)

    module _ (b : all (λ b. is_block m (e + 1 + b)) k ≡ true) (j : ℕ) (l : j ≡ n * k) where
      objects_are : all (λ i. is_object m (object_at m e i)) (n * blocks m e) ≡ all (λ i. is_object m (e + 1 + k + i)) j
      objects_are = rw (l, q)

      pub no_objects : all (λ i. is_object m (e + 1 + k + i)) j ≡ false → is_whole_element m n e ≡ false
      unfolding is_whole_element
      no_objects o = simp (h, rw q at b, objects_are ∙ o)

      pub whole_element : all (λ i. is_object m (e + 1 + k + i)) j ≡ true → is_whole_element m n e ≡ true
      unfolding is_whole_element
      whole_element o = simp (h, rw q at b, objects_are ∙ o)

-- an update ends after its own record
element_after : (m : List ℕ) (u n : ℕ) → u < element_at m u n
unfolding element_at
element_after m u zero = omega arith
element_after m u (suc n) = let l = element_after m u n in omega arith

module _ (m : List ℕ) where
  pub updates_rise : (i n : ℕ) → i < n → update_at m i < update_at m n
  unfolding update_at
  updates_rise i zero h = absurd (omega arith)
  updates_rise i (suc n) h =
      let l = element_after m (update_at m n) (elements m (update_at m n)) in
      ⊎_elim
      (λ (q : i ≡ n). subst (λ (k : ℕ). update_at m k < update_end m (update_at m n)) (sym q) l)
      (λ (b : i < n). let r = updates_rise i n b in omega arith)
      (eq-or-lt_of_le (let b : i ≤ n = omega arith in b))

  pub next_element : (u n e r : ℕ) → n ≡ objects m u → r ≡ element_at m u e → element_end m n r ≡ element_at m u (e + 1)
  unfolding element_at
  next_element u n e r p q = rw (add-one e, p, q)

  pub no_update : (u : ℕ) → is_update m u ≡ false → is_whole_update m u ≡ false
  unfolding is_whole_update
  no_update u h = simp h

  pub broken_element : (u e : ℕ) → is_update m u ≡ true → e < elements m u → is_whole_element m (objects m u) (element_at m u e) ≡ false → is_whole_update m u ≡ false
  unfolding is_whole_update
  broken_element u e h l b = simp (h, all_fails (λ k. is_whole_element m (objects m u) (element_at m u k)) (elements m u) e l b)

  pub whole_update : (u : ℕ) → is_update m u ≡ true → all (λ e. is_whole_element m (objects m u) (element_at m u e)) (elements m u) ≡ true → is_whole_update m u ≡ true
  unfolding is_whole_update
  whole_update u h e = simp (h, e)

-- what the goals of the walk of an element and of an update ask
pub ruleset parts = (element_within, too_long, no_element, end_is, next_element, no_update, broken_element, whole_update, all_none, all_more)
