-- Every record of a list that is laid out is an update's, an element's, a block's or an object's: what holds at each of these places holds of each record.
-- Assumes nothing.
use Prim.Native.Nat.{ℕ, zero, suc, ◌+◌, ◌-◌, ◌*◌, ◌/◌, ◌%◌, ◌<◌, ◌≤◌}
use mathlib.Core.Path.{◌≡◌, refl, subst}
use mathlib.Core.Bool.{Bool, true, false}
use mathlib.Core.List.{List}
use mathlib.Core.Logic.{⊎_elim}
use native.Mathlib.Nat.{eq-or-lt_of_le, div-add-mod', mod-lt, div-lt_iff_lt-mul}
use native.Mathlib.Omega.{arith}
use lib.Dec.{ltb}
use lib.ListN.{length}
use borrow.Author.Tests.{ltb-true, ltb-false}
use Rattle.fields.specs.Update.{objects, elements}
use Rattle.fields.specs.Block.{blocks}
use Rattle.records.specs.Laid.{block_at, object_at, element_end, element_at, update_at, laid_out, count}
use Rattle.records.proofs.Reached.{found}
use Rattle.records.proofs.Updates.{whole_list}

-- r is below a, or not
below_or : {X : Type 0} (a r : ℕ) → (r < a → X) → (a ≤ r → X) → X
below_or {X} a r f g = by (ltb r a) refl
  where
    by : (b : Bool) → ltb r a ≡ b → X
    by true e = f (ltb-true r a e)
    by false e = g (ltb-false r a e)

module _ (P : ℕ → Type 0) where
  -- the n records from a on
  run : (a n : ℕ) → ((k : ℕ) → k < n → P (a + k)) → (r : ℕ) → a ≤ r → r < a + n → P r
  run a n f r l h =
      let q : a + (r - a) ≡ r = omega arith in
      subst P q (f (r - a) (omega arith))

  -- n rows of w
  cells : (w n : ℕ) (g : ℕ → ℕ) → ((o b : ℕ) → o < n → b < w → P (g (o * w + b))) → (k : ℕ) → k < n * w → P (g k)
  cells zero n g f k h = absurd (omega arith)
  cells (suc w) n g f k h =
      let p : 0 < suc w = omega arith in
      subst (λ (x : ℕ). P (g x)) (div-add-mod' k (suc w)) (f (k / suc w) (k % suc w) ((div-lt_iff_lt-mul p).1 h) (mod-lt k p))

  module _ (m : List ℕ) where
    element_records : (n e : ℕ) → P e → ((b : ℕ) → b < blocks m e → P (block_at e b)) → ((o b : ℕ) → o < n → b < blocks m e → P (object_at m e (o * blocks m e + b)))
        → (r : ℕ) → e ≤ r → r < element_end m n e → P r
    element_records n e p q s r l h =
        ⊎_elim
        (λ (x : e ≡ r). subst P x p)
        (λ (x : e < r). below_or (e + 1 + blocks m e) r
        (λ y. run (e + 1) (blocks m e) q r (omega arith) y)
        (λ y. run (e + 1 + blocks m e) (n * blocks m e) (cells (blocks m e) n (object_at m e) s) r y h))
        (eq-or-lt_of_le l)

    -- what is asked at the elements of the update at u
    record AtElements (u : ℕ) : Type 0 where
      own : (e : ℕ) → e < elements m u → P (element_at m u e)
      block : (e b : ℕ) → e < elements m u → b < blocks m (element_at m u e) → P (block_at (element_at m u e) b)
      object : (e o b : ℕ) → e < elements m u → o < objects m u → b < blocks m (element_at m u e)
          → P (object_at m (element_at m u e) (o * blocks m (element_at m u e) + b))

    elements_records : (u : ℕ) → AtElements u → (n : ℕ) → n ≤ elements m u → (r : ℕ) → u + 1 ≤ r → r < element_at m u n → P r
    unfolding element_at
    elements_records u f zero k r l h = absurd (omega arith)
    elements_records u f (suc n) k r l h =
        below_or (element_at m u n) r
        (λ y. elements_records u f n (omega arith) r l y)
        (λ y. element_records (objects m u) (element_at m u n) (f.own n k) (λ b. f.block n b k) (λ o b. f.object n o b k) r y h)

    updates_records : (n : ℕ) → ((i : ℕ) → i < n → P (update_at m i)) → ((i : ℕ) → i < n → AtElements (update_at m i)) → (r : ℕ) → r < update_at m n → P r
    unfolding update_at
    updates_records zero p f r h = absurd (omega arith)
    updates_records (suc n) p f r h =
        below_or (update_at m n) r
        (λ y. updates_records n (λ i l. p i (omega arith)) (λ i l. f i (omega arith)) r y)
        (λ y.
        ⊎_elim
        (λ (x : update_at m n ≡ r). subst P x (p n (omega arith)))
        (λ (x : update_at m n < r). elements_records (update_at m n) (f n (omega arith)) (elements m (update_at m n)) (omega arith) r (omega arith) h)
        (eq-or-lt_of_le y))

-- what is asked at each place of a list
pub record AtPlaces (P : ℕ → Type 0) (m : List ℕ) : Type 0 where
  pub update : (i : ℕ) → i < count m → P (update_at m i)
  pub element : (i e : ℕ) → i < count m → e < elements m (update_at m i) → P (element_at m (update_at m i) e)
  pub block : (i e b : ℕ) → i < count m → e < elements m (update_at m i) → b < blocks m (element_at m (update_at m i) e) → P (block_at (element_at m (update_at m i) e) b)
  pub object : (i e o b : ℕ) → i < count m → e < elements m (update_at m i) → o < objects m (update_at m i) → b < blocks m (element_at m (update_at m i) e)
      → P (object_at m (element_at m (update_at m i) e) (o * blocks m (element_at m (update_at m i) e) + b))

pub every_record_placed : (P : ℕ → Type 0) (m : List ℕ) → laid_out m ≡ true → AtPlaces P m → (r : ℕ) → r < length m / 40 → P r
every_record_placed P m laid f r h =
    let w = whole_list m (count m) (found m laid) in
    updates_records P m (count m) f.update
    (λ i l. record { own = λ e k. f.element i e l k; block = λ e b k. f.block i e b l k; object = λ e o b k. f.object i e o b l k })
    r (omega arith)
