-- What is found is `clear` of no refusal. Assumes nothing.
use mathlib.Core.Path.{◌≡◌, refl, sym, ap, subst}
use mathlib.Core.Bool.{true, false}
use lib.Dec.{T}
use Rattle.rules.specs.Refusals.{Found, clear, stop}
use Rattle.refusals.specs.RefusalNumbers.{stop_of}
use Rattle.refusals.specs.declared.Refusal.{Refusal}
use Rattle.refusals.specs.FirstFound.{is_none}

pub told : (r : Refusal) → false ≡ is_none (stop_of r)
told r = refl

pub not_clear : (r : Refusal) → stop_of r ≡ clear → ⊥
not_clear r e = subst T (sym (ap is_none e)) tt

pub is_none_is : (f : Found) → is_none f ≡ true → f ≡ clear
is_none_is clear e = refl
is_none_is (stop n a b) e = absurd cc
