-- What the first fault of a list says of it. Assumes nothing.
use Prim.Native.Nat.{ℕ}
use mathlib.Core.Path.{◌≡◌, refl, sym}
use mathlib.Core.Bool.{Bool, true, false, cond}
use mathlib.Core.List.{List}
use native.Mathlib.Omega.{arith}
use Rattle.std.specs.Prelude.{Ok, Err}
use Rattle.records.specs.Laid.{laid_out}
use Rattle.records.specs.ValuesInRange.{in_range, refusal}
use Rattle.records.specs.FaultNumbers.{number_of}
use Rattle.records.specs.declared.metadata.Fault.TheVariants.{NotLaidOut, OutOfRange}

five : (laid fit : Bool) → ◌≡◌ {A = ℕ} (cond laid (cond fit 0 6) 5) 5 → laid ≡ false
five true true e = absurd (omega (arith, e))
five true false e = absurd (omega (arith, e))
five false fit e = refl

six : (laid fit : Bool) → ◌≡◌ {A = ℕ} (cond laid (cond fit 0 6) 5) 6 → (laid ≡ true) × (fit ≡ false)
six true true e = absurd (omega (arith, e))
six true false e = (refl, refl)
six false fit e = absurd (omega (arith, e))

none : (laid fit : Bool) → ◌≡◌ {A = ℕ} (cond laid (cond fit 0 6) 5) 0 → (laid ≡ true) × (fit ≡ true)
none true true e = (refl, refl)
none true false e = absurd (omega (arith, e))
none false fit e = absurd (omega (arith, e))

module _ (m : List ℕ) where
  pub not_laid : number_of {A = Unit {0}} (Err NotLaidOut) ≡ refusal m → laid_out m ≡ false
  unfolding refusal
  not_laid e = five (laid_out m) (in_range m) (sym e)

  pub not_in_range : number_of {A = Unit {0}} (Err OutOfRange) ≡ refusal m → (laid_out m ≡ true) × (in_range m ≡ false)
  unfolding refusal
  not_in_range e = six (laid_out m) (in_range m) (sym e)

  pub faultless : number_of {A = Unit {0}} (Ok tt) ≡ refusal m → (laid_out m ≡ true) × (in_range m ≡ true)
  unfolding refusal
  faultless e = none (laid_out m) (in_range m) (sym e)
