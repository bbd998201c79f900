-- The limiter keeps its samples in [-1, 1] and its gain in (0, 1]; its meters are in range, and no sample is larger than they say. Assumes nothing.
use mathlib.Core.Path.{◌≡◌, refl, sym}
use mathlib.Core.Bool.{Bool, true, false}
use mathlib.Core.List.{List, [], ◌∷◌}
use Prim.Native.Nat.{ℕ, ◌-◌, ◌≤◌, ◌<◌}
use native.Mathlib.Nat.{le_trans, le_of_eq, lt_irrefl}
use native.Mathlib.Omega.{arith}
use lib.Ieee.{Float, nan, inf, fin, binary32, mul}
use Rattle.ieee.specs.Units.{Top, F32, mag, P, N, Gain, Unitary}
use Rattle.ieee.specs.Bounds.{All}
use Rattle.ieee.proofs.Value.{shape}
use Rattle.ieee.proofs.Constants.{top_pos}
use Rattle.limiter.specs.Limiter.{0·0, block_peak, scaled, scaled_block, lowered}
use Rattle.limiter.specs.Meters.{block_meters}
use Rattle.limiter.specs.Range.{Metered}
use Rattle.limiter.specs.BlockInRange.{LimitedInRange}
use Rattle.limiter.proofs.Levels.{Level, Fit, rank}
use Rattle.limiter.proofs.Peaks.{Under, zero_level, zero_under, block_peak_is}
use Rattle.limiter.proofs.Lowered.{lowered_keeps, kept_within, kept_under}
use Rattle.limiter.proofs.Growth.{decay_is, grown_gain}

-- ---- the peak of finite samples is finite, and no sample is larger
-- the rank of a finite float is its size
finite_rank : (x : Float) → F32 x → rank x ≡ mag x
unfolding rank
finite_rank nan f = absurd f.fine
finite_rank (inf s) f = absurd f.fine
finite_rank (fin s m e) f = refl

level_finite : (p : Float) → Level p → rank p < Top → F32 p × (N p ≡ 0) × (P p ≡ rank p)
unfolding rank
level_finite nan l h = absurd (unfold lib.Ieee.is_nan in mathlib.Core.Bool.true≢false l.number)
level_finite (inf s) l h = absurd (lt_irrefl Top h)
level_finite (fin true m e) l h = absurd (mathlib.Core.Bool.true≢false l.plus)
level_finite (fin false m e) l h = (record { fine = tt; fit = l.fit }, refl, refl)

all_fit : (xs : List Float) → All F32 xs → All Fit xs
all_fit [] f = tt
all_fit (x ∷ xs) f = (f.0.fit, all_fit xs f.1)

channels_fit : (cs : List (List Float)) → All (All F32) cs → All (All Fit) cs
channels_fit [] f = tt
channels_fit (c ∷ cs) f = (all_fit c f.0, channels_fit cs f.1)

all_under : (xs : List Float) → All F32 xs → Under (Top - 1) xs
all_under [] f = tt
all_under (x ∷ xs) f = (less (finite_rank x f.0) (shape x f.0).less, all_under xs f.1)
  where
    less : {a b : ℕ} → a ≡ b → b < Top → a ≤ Top - 1
    less e h = omega arith

channels_under : (cs : List (List Float)) → All (All F32) cs → All (Under (Top - 1)) cs
channels_under [] f = tt
channels_under (c ∷ cs) f = (all_under c f.0, channels_under cs f.1)

-- ---- the samples: what holds of every finite x of size at most p, times h, holds of the whole block
module _ (Q : Float → Type 0) (p h : Float) (q : (x : Float) → F32 x → mag x ≤ P p → Q (mul binary32 x h)) (e : P p ≡ rank p) where
  every_sample : (c : List Float) → All F32 c → Under (rank p) c → All Q (scaled h c)
  every_sample [] f u = tt
  every_sample (x ∷ c) f u = (q x f.0 (le_trans (le_of_eq (sym (finite_rank x f.0))) (le_trans u.0 (le_of_eq (sym e)))), every_sample c f.1 u.1)

  every_channel : (cs : List (List Float)) → All (All F32) cs → All (Under (rank p)) cs → All (All Q) (scaled_block h cs)
  unfolding scaled_block
  every_channel [] f u = tt
  every_channel (c ∷ cs) f u = (every_sample c f.0 u.0, every_channel cs f.1 u.1)

-- ---- the theorem
pub limiter_in_range : (g : Float) (n rate : ℕ) (cs : List (List Float)) → Gain g → All (All F32) cs → n ≤ rate → 0 < rate → rate < 16777216 → LimitedInRange g n rate cs
limiter_in_range g n rate cs k f a b c =
    let p = block_peak 0·0 cs in
    let q = block_peak_is 0·0 cs zero_level (channels_fit cs f) in
    let under : rank p < Top = below (q.least (Top - 1) (zero_under (Top - 1)) (channels_under cs f)) top_pos in
    let z = level_finite p q.level under in
    let h = lowered_keeps p g z.0 z.1 k in
    record {
      samples = every_channel Unitary p (lowered p g) (λ x. kept_within p (lowered p g) x h) z.2 cs f q.each;
      scaling = h.gain;
      next = grown_gain n rate (decay_is n rate a b c) (lowered p g) h.gain;
      meters = record { peak = z.0; plus = z.1; gain = h.gain };
      metered = every_channel (Metered (block_meters g cs)) p (lowered p g) (λ x. kept_under p (lowered p g) x z.0 z.1 h) z.2 cs f q.each;
    }
  where
    below : {r t : ℕ} → r ≤ t - 1 → 0 < t → r < t
    below h l = omega arith
