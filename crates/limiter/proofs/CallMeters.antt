-- The meters of a call: blocks are met one behind the other, and blocks in range give meters in range. Assumes nothing.
use mathlib.Core.Path.{◌≡◌, refl, sym, subst}
use mathlib.Core.Logic.{◌⊎◌, inl, inr}
use mathlib.Core.Bool.{Bool, true, false, cond}
use mathlib.Core.List.{List, [], ◌∷◌, ◌++◌}
use Prim.Native.Nat.{ℕ, ◌<◌}
use native.Mathlib.Omega.{arith}
use lib.Ieee.{Float, nan, is_nan, lt}
use Rattle.ieee.specs.Units.{F32, N, Gain}
use Rattle.ieee.specs.Bounds.{All}
use Rattle.ieee.specs.Small.{larger, smaller}
use Rattle.ieee.proofs.Value.{one_pos}
use Rattle.ieee.proofs.Constants.{zero_f32, one_f32, one_P}
use Rattle.limiter.specs.Limiter.{1·0}
use Rattle.limiter.specs.Meters.{Meters, unmet, meets, meets_all, shown, idle_meters, call_meters}
use Rattle.limiter.specs.Range.{MetersInRange}

pub meets_append : (m : Meters) (bs cs : List Meters) → meets_all m (bs ++ cs) ≡ meets_all (meets_all m bs) cs
meets_append m [] cs = refl
meets_append m (b ∷ bs) cs = meets_append (meets m b) bs cs

-- "with no block ready, they are 0 and 1"
pub none_met : call_meters [] ≡ idle_meters
unfolding shown is_nan
none_met = refl

-- ---- blocks in range
pub one_gain : Gain 1·0
one_gain = record { f32 = one_f32; plus = refl; some = subst (λ (n : ℕ). 0 < n) (sym one_P) one_pos; most = omega (arith, one_P) }

pub idle_in_range : MetersInRange idle_meters
idle_in_range = record { peak = zero_f32; plus = refl; gain = one_gain }

either : (Q : Float → Type 0) (b : Bool) {x y : Float} → Q x → Q y → Q (cond b x y)
either Q true p q = p
either Q false p q = q

abbrev FromZero : Float → Type 0
FromZero x = F32 x × (N x ≡ 0)

-- of some blocks, or of none yet
record Known (m : Meters) : Type 0 where
  peak : FromZero m.peak
  gain : (m.gain ≡ nan) ⊎ Gain m.gain

meets_known : (m b : Meters) → Known m → MetersInRange b → Known (meets m b)
unfolding larger smaller
meets_known m b k r =
    record {
      peak = either FromZero (is_nan m.peak) (r.peak, r.plus) (either FromZero (lt m.peak b.peak) (r.peak, r.plus) k.peak);
      gain = elim k.gain [
        | inl e ↦ inr (subst (λ (g : Float). Gain (smaller g b.gain)) (sym e) (unfold is_nan in r.gain))
        | inr g ↦ inr (either Gain (is_nan m.gain) r.gain (either Gain (lt b.gain m.gain) r.gain g))
      ];
    }

all_known : (m : Meters) (bs : List Meters) → Known m → All MetersInRange bs → Known (meets_all m bs)
all_known m [] k r = k
all_known m (b ∷ bs) k r = all_known (meets m b) bs (meets_known m b k r.0) r.1

shown_in_range : (m : Meters) → Known m → MetersInRange (shown m)
unfolding shown
shown_in_range m k =
    record {
      peak = k.peak.0;
      plus = k.peak.1;
      gain = elim k.gain [
        | inl e ↦ subst (λ (g : Float). Gain (cond (is_nan g) 1·0 g)) (sym e) (unfold is_nan in one_gain)
        | inr g ↦ either Gain (is_nan m.gain) one_gain g
      ];
    }

pub call_in_range : (bs : List Meters) → All MetersInRange bs → MetersInRange (call_meters bs)
call_in_range bs r = shown_in_range (meets_all unmet bs) (all_known unmet bs (record { peak = (zero_f32, refl); gain = inl refl }) r)
