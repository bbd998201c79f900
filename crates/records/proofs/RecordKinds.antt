-- Laws of a record's kind: nothing stands past the end, and a record that is laid out has its own. Assumes nothing.
use Prim.Native.Nat.{ℕ, ◌*◌, ◌/◌, ◌%◌, ◌<◌, ◌≤◌}
use mathlib.Core.Path.{◌≡◌, refl, ap, ◌∙◌}
use mathlib.Core.Bool.{Bool, true, false, ◌||◌, ◌&&◌}
use mathlib.Core.Logic.{◌⊎◌, inl, inr}
use mathlib.Core.List.{List}
use native.Mathlib.Nat.{lt_of_not-le}
use native.Mathlib.Omega.{arith}
use lib.Dec.{eqb, leb}
use lib.ListN.{length, get_or-eq_default}
use borrow.Author.Tests.{ne_eqb, leb-true, eqb-true}
use Rattle.fields.specs.declared.record.Record.{Record}
use Rattle.fields.specs.RecordBytes.{kind}
use Rattle.fields.specs.Block.{blocks, is_element, is_block}
use Rattle.fields.specs.Update.{is_update}
use Rattle.fields.specs.Object.{is_object}
use Rattle.fields.proofs.All.{and_left, and_right}

module _ (m : List ℕ) (whole : length m % 40 ≡ 0) (r : ℕ) where
  no_kind : (k : ℕ) → 0 < k → length m / 40 ≤ r → eqb (kind m r) k ≡ false
  no_kind k h e =
      let z : kind m r ≡ 0 = get_or-eq_default m 0 (let l : length m ≤ 40 * r = omega arith in l) in
      ne_eqb (kind m r) k (λ q. omega arith)

  pub past_update : length m / 40 ≤ r → is_update m r ≡ false
  unfolding is_update
  past_update h = simp (no_kind 1 (omega arith) h, no_kind 9 (omega arith) h)

  pub past_element : length m / 40 ≤ r → is_element m r ≡ false
  unfolding is_element
  past_element h = simp (no_kind 2 (omega arith) h)

  pub past_block : length m / 40 ≤ r → is_block m r ≡ false
  unfolding is_block
  past_block h = simp (no_kind 3 (omega arith) h)

  pub past_object : length m / 40 ≤ r → is_object m r ≡ false
  unfolding is_object
  past_object h = simp (no_kind 4 (omega arith) h)

  there : {b : Bool} → (length m / 40 ≤ r → b ≡ false) → b ≡ true → r < length m / 40
  there {b} f e = lt_of_not-le (λ l. let q = f l in let z : ◌≡◌ {A = ℕ} 0 1 = cc in omega arith)

  pub there_update : is_update m r ≡ true → r < length m / 40
  there_update = there past_update

  pub there_element : is_element m r ≡ true → r < length m / 40
  there_element = there past_element

  pub there_block : is_block m r ≡ true → r < length m / 40
  there_block = there past_block

  pub there_object : is_object m r ≡ true → r < length m / 40
  there_object = there past_object

  pub few_blocks : is_element m r ≡ true → blocks m r ≤ 8
  unfolding is_element
  few_blocks e = leb-true _ _ (and_right (eqb (kind m r) 2) _ (and_left (eqb (kind m r) 2 && leb (blocks m r) 8) _ e))

  -- ---- the kind of a record that is laid out
  pub update_kind : is_update m r ≡ true → (kind m r ≡ 1) ⊎ (kind m r ≡ 9)
  unfolding is_update
  update_kind e = one_of (eqb (kind m r) 1) (eqb (kind m r) 9) (and_left (eqb (kind m r) 1 || eqb (kind m r) 9) _ (and_left _ _ (and_left _ _ (and_left _ _ e)))) refl refl
    where
      one_of : (a b : Bool) → (a || b) ≡ true → eqb (kind m r) 1 ≡ a → eqb (kind m r) 9 ≡ b → (kind m r ≡ 1) ⊎ (kind m r ≡ 9)
      one_of true b e p q = inl (eqb-true (kind m r) 1 p)
      one_of false b e p q = inr (eqb-true (kind m r) 9 (q ∙ e))

  pub element_kind : is_element m r ≡ true → kind m r ≡ 2
  unfolding is_element
  element_kind e = eqb-true (kind m r) 2 (and_left _ _ (and_left _ _ e))

  pub block_kind : is_block m r ≡ true → kind m r ≡ 3
  unfolding is_block
  block_kind e = eqb-true (kind m r) 3 (and_left _ _ (and_left _ _ e))

  pub object_kind : is_object m r ≡ true → kind m r ≡ 4
  unfolding is_object
  object_kind e = eqb-true (kind m r) 4 (and_left _ _ (and_left _ _ (and_left _ _ (and_left _ _ e))))

-- what a test of a record says, of a record of the list m
pub told : (test : List ℕ → ℕ → Bool) (m : List ℕ) (x : Record) (b : Bool) → x.meta.now ≡ m → Record × (b ≡ test x.meta.now x.place) → b ≡ test m x.place
told test m x b q h = h.1 ∙ ap (λ (l : List ℕ). test l x.place) q
