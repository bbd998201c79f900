-- What its tests say of y.
use mathlib.Core.Path.{◌≡◌, refl, sym, subst}
use mathlib.Core.Bool.{true, false}
use Prim.Native.Nat.{ℕ}
use lib.Ieee.{Float, inf, of_bits, div, neg}
use Rattle.roots.specs.Root.{root_power}
use Rattle.roots.proofs.Sorts.{zero_is, neither, low_is}
use Rattle.roots.proofs.low_power.Goals as goal

least : (p : ℕ) (y : Float) → y ≡ inf true → inf false ≡ root_power p y
unfolding root_power
least p y e = subst (λ (z : Float). inf false ≡ root_power p z) (sym e) refl

pub returns-then-y : goal.returns-then-y
unfolding of_bits
returns-then-y c = λ p. (zero_is _ c.if-y.true).power_is p

pub returns-then-y-2 : goal.returns-then-y-2
unfolding of_bits div neg
returns-then-y-2 c = λ p. least p _ (low_is _ c.if-y-2.true)

pub returns : goal.returns
unfolding of_bits div neg
returns c = λ p. (neither _ c.requires c.if-y.false).power_is p c.if-y-2.false
