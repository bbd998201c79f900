-- The limiter on the twelve channels: what it gives out is from -1 to 1 and no larger than its meters say, and its gain stays above 0 and at most 1. Assumes nothing.
use mathlib.Core.Path.{◌≡◌}
use Prim.Native.Nat.{ℕ, ◌≤◌, ◌<◌, zero-le}
use native.Mathlib.Nat.{le_trans, lt_of_lt_of_le}
use native.Mathlib.Omega.{arith}
use lib.Dec.{lit<}
use lib.ListN.{length}
use lib.Ieee.{Float}
use Rattle.ieee.specs.Units as units
use Rattle.ieee.specs.Units.{F32, Gain}
use Rattle.ieee.specs.Bounds.{All}
use Rattle.ieee.proofs.Constants.{one_f32, one_P}
use Rattle.ieee.proofs.Ops.{neg_f32, neg_P, neg_N}
use Rattle.ieee.proofs.Compare.{→le}
use Rattle.beds.proofs.Range.{between}
use Rattle.limiter.specs.Limiter.{scaled, scaled_block, block_gain}
use Rattle.limiter.specs.Meters.{block_meters}
use Rattle.limiter.specs.Range.{Metered, MetersInRange}
use Rattle.limiter.specs.BlockInRange.{LimitedInRange}
use Rattle.limiter.proofs.Theorems.{limiter_in_range, length_scaled}
use Rattle.angles.specs.Angle.{Listed}
use Rattle.rules.specs.Parts.{1·0, Tame, Channels, twelve}
use Rattle.rules.specs.Samples.{limited, metered, gain_after}
use Rattle.rules.proofs.Judged.{rate_low, rate_high}

-- the two ways of saying it
pub tame : (x : Float) → units.Unitary x → Tame x
tame x t =
    let p = one_P in
    record {
      low = →le (lib.Ieee.neg 1·0) x (neg_f32 1·0 one_f32) t.f32 (omega (arith, neg_P 1·0 one_f32, neg_N 1·0 one_f32, t.deep));
      high = →le x 1·0 t.f32 one_f32 (omega (arith, t.high));
    }

module _ (f : Channels) (h : (c : ℕ) → All F32 (f c)) where
  all_twelve : All (All F32) (twelve f)
  all_twelve = (h 0, (h 1, (h 2, (h 3, (h 4, (h 5, (h 6, (h 7, (h 8, (h 9, (h 10, (h 11, tt))))))))))))

  module _ (n rate : ℕ) (l : Listed rate) (few : n ≤ 64) (g : Float) (k : Gain g) where
    block : LimitedInRange g n rate (twelve f)
    block = limiter_in_range g n rate (twelve f) k all_twelve (le_trans few (rate_low l)) (lt_of_lt_of_le (lit< tt) (rate_low l)) (rate_high l)

    pub limited_tame : (c : ℕ) → c < 12 → All units.Unitary (limited g f c)
    unfolding scaled_block
    limited_tame c q = between (λ c. All units.Unitary (scaled (block_gain g (twelve f)) (f c))) 0 12 block.samples c zero-le (omega arith)

    pub limited_metered : (c : ℕ) → c < 12 → All (Metered (block_meters g (twelve f))) (limited g f c)
    unfolding scaled_block
    limited_metered c q = between (λ c. All (Metered (block_meters g (twelve f))) (scaled (block_gain g (twelve f)) (f c))) 0 12 block.metered c zero-le (omega arith)

    pub meters_kept : All MetersInRange (metered g f)
    meters_kept = (block.meters, tt)

    pub gain_kept : Gain (gain_after n rate g f)
    gain_kept = block.next

pub length_limited : (g : Float) (f : Channels) (c : ℕ) → length (limited g f c) ≡ length (f c)
length_limited g f c = length_scaled (block_gain g (twelve f)) (f c)
