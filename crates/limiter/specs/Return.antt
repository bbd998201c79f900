-- How soon the level returns. Document 02, R-8: "from any limiter gain from 0 to 1, floor(rate / 64) + 2 completed blocks of 64 in a row, in none of which p × g > 1, end with
-- gain exactly 1." A block is told by its peak p: the gain depends on nothing else of it. Assumes nothing.
use Rattle.std.specs.Prelude.{ℕ, ◌+◌, ◌/◌, ◌≤◌, ◌≡◌, false, List, [], ◌∷◌, ◌++◌, T, length, Float}
use Rattle.std.specs.Float.{binary32}
use Rattle.std.specs.Float.Ieee.{fits, mul, lt, le}
use Rattle.ieee.specs.Bounds.{All}
use Rattle.limiter.specs.Level.{Level}
use Rattle.limiter.specs.Limiter.{0·0, 1·0, lowered, grown}

-- "from 0 to 1": an f32, compared with plain comparisons; so both zeros are, and subnormals
pub record ZeroToOne (g : Float) : Type 0 where
  pub fit : T (fits binary32 g)
  pub low : T (le 0·0 g)
  pub high : T (le g 1·0)

-- the gain after a block of 64 that finds the gain g: "if p × g > 1, g becomes 0.9 / p; scale; then g grows by length / rate, at most 1"
abbrev pub gain_past : ℕ → Float → Float → Float
gain_past rate g p = grown 64 rate (lowered p g)

-- and after blocks in a row, each of which finds what the one before it left
abbrev pub after_blocks : ℕ → Float → List Float → Float
after_blocks rate g [] = g
after_blocks rate g (p ∷ ps) = after_blocks rate (gain_past rate g p) ps

-- "in none of which p × g > 1": the f32 product, as the limiter tests it, g being the gain that the block finds
abbrev pub Quiet : ℕ → Float → List Float → Type 0
Quiet rate g [] = Unit {0}
Quiet rate g (p ∷ ps) = (lt 1·0 (mul binary32 p g) ≡ false) × Quiet rate (gain_past rate g p) ps

-- "floor(rate / 64) + 2 completed blocks of 64 in a row", or more
abbrev pub Enough : ℕ → List Float → Type 0
Enough rate ps = rate / 64 + 2 ≤ length ps

-- for any floats as peaks
abbrev pub Returns : Type 0
Returns = (rate : ℕ) → 8000 ≤ rate → rate ≤ 192000 → (g : Float) → ZeroToOne g → (ps : List Float) → Enough rate ps → Quiet rate g ps → after_blocks rate g ps ≡ 1·0

-- and whatever blocks came before: peaks are levels, infinite ones too
abbrev pub ReturnsAfter : Type 0
ReturnsAfter =
    (rate : ℕ) → 8000 ≤ rate → rate ≤ 192000 → (g : Float) → ZeroToOne g → (ps : List Float) → All Level ps
    → (qs : List Float) → Enough rate qs → Quiet rate (after_blocks rate g ps) qs → after_blocks rate g (ps ++ qs) ≡ 1·0
