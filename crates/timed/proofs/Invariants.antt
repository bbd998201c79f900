-- What holds of every turn, of every entry of a table, either way of a test. Assumes nothing.
use Prim.Native.Nat.{ℕ, zero, suc, ◌+◌, ◌≤◌, ◌<◌}
use mathlib.Core.Path.{◌≡◌, refl}
use mathlib.Core.Bool.{Bool, true, false, cond}
use mathlib.Core.List.{List, [], ◌∷◌}
use lib.ListN.{length, get_or, set}
use native.Mathlib.Omega.{arith}
use Rattle.timed.specs.Turns.{times}

-- the turns below m
pub times_in : {S : Type 0} (P : S → Type 0) (f : ℕ → S → S) (m : ℕ) → ((i : ℕ) (s : S) → i < m → P s → P (f i s)) → (n i : ℕ) → i + n ≤ m → (s : S) → P s → P (times n i f s)
unfolding times
times_in P f m k zero i l s h = h
times_in P f m k (suc n) i l s h = times_in P f m k n (suc i) (omega arith) (f i s) (k i s (omega arith) h)

pub times_keeps : {S : Type 0} (P : S → Type 0) (f : ℕ → S → S) → ((i : ℕ) (s : S) → P s → P (f i s)) → (n i : ℕ) (s : S) → P s → P (times n i f s)
unfolding times
times_keeps P f k zero i s h = h
times_keeps P f k (suc n) i s h = times_keeps P f k n (suc i) (f i s) (k i s h)

-- turns on either side
pub times_both : {S : Type 0} (R : S → S → Type 0) (f g : ℕ → S → S) (m : ℕ) → ((i : ℕ) (s t : S) → i < m → R s t → R (f i s) (g i t)) → (n i : ℕ) → i + n ≤ m
    → (s t : S) → R s t → R (times n i f s) (times n i g t)
unfolding times
times_both R f g m k zero i l s t h = h
times_both R f g m k (suc n) i l s t h = times_both R f g m k n (suc i) (omega arith) (f i s) (g i t) (k i s t (omega arith) h)

pub cond_keeps : {S : Type 0} (P : S → Type 0) (t : Bool) (a b : S) → (t ≡ true → P a) → (t ≡ false → P b) → P (cond t a b)
cond_keeps P true a b f g = f refl
cond_keeps P false a b f g = g refl

pub set_each : {A : Type 0} (P : ℕ → A → Type 0) (l : List A) (j : ℕ) (x d : A) → P j x → ((i : ℕ) → P i (get_or l i d)) → (i : ℕ) → P i (get_or (set l j x) i d)
set_each P [] j x d p h i = h i
set_each P (y ∷ l) zero x d p h zero = p
set_each P (y ∷ l) zero x d p h (suc i) = h (suc i)
set_each P (y ∷ l) (suc j) x d p h zero = h zero
set_each P (y ∷ l) (suc j) x d p h (suc i) = set_each (λ k. P (suc k)) l j x d p (λ k. h (suc k)) i

pub set_keeps : {A : Type 0} (P : A → Type 0) (l : List A) (j : ℕ) (x d : A) → P x → ((i : ℕ) → P (get_or l i d)) → (i : ℕ) → P (get_or (set l j x) i d)
set_keeps P = set_each (λ _. P)

-- one entry in either of two tables
pub set_both : {A : Type 0} (R : ℕ → A → A → Type 0) (l m : List A) (j : ℕ) (x y d : A) → length l ≡ length m → R j x y →
    ((i : ℕ) → R i (get_or l i d) (get_or m i d)) → (i : ℕ) → R i (get_or (set l j x) i d) (get_or (set m j y) i d)
set_both R [] [] j x y d e p h i = h i
set_both R [] (b ∷ m) j x y d e p h i = absurd (omega arith)
set_both R (a ∷ l) [] j x y d e p h i = absurd (omega arith)
set_both R (a ∷ l) (b ∷ m) zero x y d e p h zero = p
set_both R (a ∷ l) (b ∷ m) zero x y d e p h (suc i) = h (suc i)
set_both R (a ∷ l) (b ∷ m) (suc j) x y d e p h zero = h zero
set_both R (a ∷ l) (b ∷ m) (suc j) x y d e p h (suc i) = set_both (λ k. R (suc k)) l m j x y d (omega arith) p (λ k. h (suc k)) i
