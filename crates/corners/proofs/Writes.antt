-- What a store into an array leaves: a table filled from its start or from its end, and a channel put in its place. Assumes nothing.
use mathlib.Core.Path.{◌≡◌, refl, sym, subst, ◌∙◌}
use mathlib.Core.Logic.{inl, inr}
use mathlib.Core.List.{List}
use mathlib.Core.Bool.{Bool, true, false, not}
use Prim.Native.Nat.{ℕ, ◌+◌, ◌-◌, ◌≤◌, ◌<◌}
use native.Mathlib.Nat.{le_refl, eq-or-lt_of_le}
use native.Mathlib.Omega.{arith}
use borrow.Author.Tests.{lt-ltb, le-ltb}
use lib.Dec.{T, T_not}
use lib.ListN.{length, get_or, set, length-set}
use lib.Seq.{get_or-set_same, get_or-set_other}
use lib.Ieee.{Float, lt, eq}
use Rattle.vectors.specs.declared.Vec3.{Vec3}
use Rattle.corners.specs.Axes.{index_at}
use Rattle.corners.specs.SpeakerOrder.{precedes, Inserted, run_end}
use Rattle.corners.proofs.Rising.{passed}

-- one more from the start
pub filled_more : {A : Type 0} (d : A) (f : ℕ → A) (r : List A) (i : ℕ) (v : A) → i < length r → ((j : ℕ) → j < i → get_or r j d ≡ f j) → v ≡ f i →
    (j : ℕ) → j < i + 1 → get_or (set r i v) j d ≡ f j
filled_more d f r i v ir h e j ji = elim (eq-or-lt_of_le (up_to ji)) [
  | inl q ↦ subst (λ (k : ℕ). get_or (set r i v) k d ≡ f k) (sym q) (get_or-set_same r i v d ir ∙ e)
  | inr q ↦ get_or-set_other r i j v d (λ z. omega arith) ∙ h j q
]
  where
    up_to : j < i + 1 → j ≤ i
    up_to h = omega arith

-- one more run, from the end
pub ends_more : (c : ℕ → Float) (bound : ℕ → ℕ) (e : List ℕ) (n j : ℕ) (v : ℕ) → j < length e → v ≡ run_end c bound (index_at e) j →
    ((i : ℕ) → j + 1 ≤ i → i < n → index_at e i ≡ run_end c bound (index_at e) i) → (i : ℕ) → j ≤ i → i < n → index_at (set e j v) i ≡ run_end c bound (index_at (set e j v)) i
ends_more c bound e n j v jl q h i ji il = elim (eq-or-lt_of_le ji) [
  | inl z ↦ subst (λ (k : ℕ). index_at (set e j v) k ≡ run_end c bound (index_at (set e j v)) k) z (get_or-set_same e j v 0 jl ∙ q ∙ kept j (le_refl j))
  | inr z ↦ get_or-set_other e j i v 0 (λ w. omega arith) ∙ h i (omega arith) il ∙ kept i ji
]
  where
    kept : (i : ℕ) → j ≤ i → run_end c bound (index_at e) i ≡ run_end c bound (index_at (set e j v)) i
    kept i ji = rw (get_or-set_other e j (i + 1) v 0 (λ w. omega arith))

-- ---- a channel is put in its place: those from i on have moved up by one, and come after it
pub record Shifted (sp : ℕ → Vec3) (was : List ℕ) (n k i : ℕ) (now : List ℕ) : Type 0 where
  pub most : i ≤ n
  pub twelve : length now ≡ 12
  pub low : (j : ℕ) → j < i → index_at now j ≡ index_at was j
  pub high : (j : ℕ) → i ≤ j → j < n → index_at now (j + 1) ≡ index_at was j
  pub right : (j : ℕ) → i ≤ j → j < n → T (precedes (sp k) (sp (index_at was j)))

pub unshifted : (sp : ℕ → Vec3) (was : List ℕ) (n k : ℕ) → length was ≡ 12 → Shifted sp was n k n was
unshifted sp was n k t = record { most = le_refl n; twelve = t; low = λ j q. refl; high = λ j p q. absurd (none p q); right = λ j p q. absurd (none p q) }
  where
    none : {a b : ℕ} → a ≤ b → b < a → ⊥
    none h k = omega arith

module _ {sp : ℕ → Vec3} {was : List ℕ} {n k : ℕ} {now : List ℕ} where
  -- the one before i moves up
  pub shift_on : {i : ℕ} → n < 12 → 0 < i → Shifted sp was n k i now → T (precedes (sp k) (sp (index_at now (i - 1)))) →
      Shifted sp was n k (i - 1) (set now i (index_at now (i - 1)))
  shift_on {i} few some s t = record {
    most = omega (arith, s.most);
    twelve = length-set now i _ ∙ s.twelve;
    low = λ j q. get_or-set_other now i j _ 0 (λ z. omega arith) ∙ s.low j (omega arith);
    high = λ j p q. elim (eq-or-lt_of_le p) [
      | inl e ↦ subst (λ (x : ℕ). index_at (set now i (index_at now (i - 1))) (x + 1) ≡ index_at was x) e (moved ∙ s.low (i - 1) (omega arith))
      | inr l ↦ get_or-set_other now i (j + 1) _ 0 (λ z. omega arith) ∙ s.high j (omega arith) q
    ];
    right = λ j p q. elim (eq-or-lt_of_le p) [
      | inl e ↦ subst (λ (x : ℕ). T (precedes (sp k) (sp (index_at was x)))) e (subst (λ (x : ℕ). T (precedes (sp k) (sp x))) (s.low (i - 1) (omega arith)) t)
      | inr l ↦ s.right j (omega arith) q
    ];
  }
    where
      inside : i < length now
      inside = omega (arith, s.most, s.twelve)

      next : i - 1 + 1 ≡ i
      next = omega arith

      moved : index_at (set now i (index_at now (i - 1))) (i - 1 + 1) ≡ index_at now (i - 1)
      moved = subst (λ (x : ℕ). index_at (set now i (index_at now (i - 1))) x ≡ index_at now (i - 1)) (sym next) (get_or-set_same now i (index_at now (i - 1)) 0 inside)

  -- k is put at i
  pub put_in : {i : ℕ} → n < 12 → Shifted sp was n k i now → ((j : ℕ) → j + 1 ≡ i → T (precedes (sp k) (sp (index_at now j))) → ⊥) →
      Inserted sp (index_at was) n k (index_at (set now i k))
  put_in {i} few s f = record {
    at = i;
    most = s.most;
    there = get_or-set_same now i k 0 (omega (arith, s.most, s.twelve));
    low = λ j q. get_or-set_other now i j k 0 (λ z. omega arith) ∙ s.low j q;
    high = λ j p q. get_or-set_other now i (j + 1) k 0 (λ z. omega arith) ∙ s.high j p q;
    left = λ j e t. f j e (subst (λ (x : ℕ). T (precedes (sp k) (sp x))) (sym (s.low j (omega arith))) t);
    right = s.right;
  }

-- the test of the code says that k does not come before the one at i - 1
pub not_before : (sp : ℕ → Vec3) (now : List ℕ) (k i : ℕ) (r : Bool) → r ≡ precedes (sp k) (sp (index_at now (i - 1))) → not r ≡ true → (j : ℕ) → j + 1 ≡ i →
    T (precedes (sp k) (sp (index_at now j))) → ⊥
not_before sp now k i r e f j q t =
    let z : j ≡ i - 1 = omega arith in
    T_not r (passed f) (subst T (sym e) (subst (λ (x : ℕ). T (precedes (sp k) (sp (index_at now x)))) z t))

-- ---- the tests, as the code has them
pub by_x : (v w : Vec3) → eq v.y w.y ≡ true → eq v.z w.z ≡ true → lt v.x w.x ≡ precedes v w
unfolding precedes
by_x v w e f = rw (e, f)

pub by_z : (v w : Vec3) → eq v.y w.y ≡ true → eq v.z w.z ≡ false → lt v.z w.z ≡ precedes v w
unfolding precedes
by_z v w e f = rw (e, f)

pub by_y : (v w : Vec3) → eq v.y w.y ≡ false → lt v.y w.y ≡ precedes v w
unfolding precedes
by_y v w e = rw e

module _ (c : ℕ → Float) (bound e : ℕ → ℕ) (j : ℕ) where
  pub run_on : j + 1 < bound j → eq (c (j + 1)) (c j) ≡ true → e (j + 1) ≡ run_end c bound e j
  run_on h q = rw (lt-ltb _ _ h, q)

  pub run_apart : j + 1 < bound j → eq (c (j + 1)) (c j) ≡ false → j + 1 ≡ run_end c bound e j
  run_apart h q = rw (lt-ltb _ _ h, q)

  pub run_out : bound j ≤ j + 1 → j + 1 ≡ run_end c bound e j
  run_out h = rw (le-ltb _ _ h)
