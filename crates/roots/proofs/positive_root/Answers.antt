-- y is a positive finite number or infinity.
use mathlib.Core.Path.{◌≡◌, refl, sym, ◌∙◌, subst}
use mathlib.Core.Bool.{true, false}
use Prim.Native.Nat.{ℕ}
use native.Mathlib.Omega.{arith}
use lib.Dec.{T}
use lib.IntN.{pos}
use lib.Ieee.{Float, fin, inf, binary32, fits, lt}
use Rattle.words.proofs.Nan.{not_above}
use Rattle.roots.specs.Root.{root_power}
use Rattle.roots.proofs.Sorts.{Above, above}
use Rattle.roots.proofs.positive_root.Goals as goal

positive : {x : Float} → fits binary32 x ≡ true → lt (fin false 0 (pos 0)) x ≡ true → Above x
positive {x} f h = above x (subst T (sym f) tt) h

top_power : (p : ℕ) (x : Float) → x ≡ inf false → x ≡ root_power p x
unfolding root_power
top_power p x e = subst (λ (y : Float). y ≡ root_power p y) (sym e) refl

pub fourth_bits-requires : goal.fourth_bits-requires
fourth_bits-requires c = ((positive c.well_formed.0.1 c.requires).some, c.if-b-lt2139095040.true)

pub float_from_bits-result : goal.float_from_bits-result
float_from_bits-result c = not_above _ (omega (arith, c.fourth_bits.ensures.0))

pub returns-then-b-lt2139095040 : goal.returns-then-b-lt2139095040
returns-then-b-lt2139095040 c = sym ((positive c.well_formed.0.1 c.requires).power_is _ c.if-b-lt2139095040.true ∙ c.fourth_bits.ensures.1)

pub returns : goal.returns
returns c = top_power _ _ ((positive c.well_formed.0.1 c.requires).top c.if-b-lt2139095040.false)
