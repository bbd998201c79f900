-- A probe answers by the test of its arguments. Assumes nothing.
use mathlib.Core.Path.{◌≡◌, sym}
use mathlib.Core.Bool.{Bool, true, false, cond, ◌&&◌}
use Prim.Native.Nat.{ℕ, ◌≤◌, ◌<◌}
use native.Mathlib.Omega.{arith}
use lib.Dec.{leb}
use borrow.Author.Tests.{le-leb, lt-leb}
use Rattle.rates.specs.Rates.{lowest, highest, listed}
use Rattle.records.specs.UpdateWalk.{FirstAt}

module _ {A : Type 0} where
  pub fits : {a b : ℕ} {r x : A} (y : A) → a ≤ b → r ≡ x → r ≡ cond (leb a b) x y
  fits {a} {b} {r} {x} y h e = rw (le-leb a b h) e

  pub unfit : {a b : ℕ} (x y : A) → b < a → y ≡ cond (leb a b) x y
  unfit {a} {b} x y h = rw (lt-leb a b h)

  pub chosen : {t : Bool} {r x : A} (y : A) → true ≡ t → r ≡ x → r ≡ cond t x y
  chosen y h e = rw (sym h) e

  pub passed_over : {t : Bool} (x y : A) → false ≡ t → y ≡ cond t x y
  passed_over x y h = rw (sym h)

pub fits_and : {a b : ℕ} {r t : Bool} → a ≤ b → r ≡ t → r ≡ (leb a b && t)
fits_and {a} {b} h e = rw (le-leb a b h) e

pub unfit_and : {a b : ℕ} (t : Bool) → b < a → false ≡ (leb a b && t)
unfit_and {a} {b} t h = rw (lt-leb a b h)

-- ---- rates
module _ (rate : ℕ) where
  pub listed_within : lowest ≤ rate → rate ≤ highest → listed rate ≡ true
  listed_within l h = simp (le-leb lowest rate l, le-leb rate highest h)

  pub unlisted_below : rate < lowest → listed rate ≡ false
  unlisted_below h = simp (lt-leb lowest rate h)

  pub unlisted_above : highest < rate → listed rate ≡ false
  unlisted_above h = let l : lowest ≤ rate = omega arith in simp (le-leb lowest rate l, lt-leb rate highest h)

-- ---- the first update at a time: there is one number only
first_before : {f : ℕ → ℕ} {n t from i j : ℕ} → FirstAt f n t from i → FirstAt f n t from j → i < j → ⊥
first_before {i = i} a b l = b.none i a.after l (a.here (omega arith))

pub first_only : {f : ℕ → ℕ} {n t from i j : ℕ} → FirstAt f n t from i → FirstAt f n t from j → i ≡ j
first_only {i = i} {j} a b =
    let l : i < j → ⊥ = first_before a b in
    let r : j < i → ⊥ = first_before b a in
    omega arith
