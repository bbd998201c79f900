-- R-13: "Mixers name the speakers that should sound and want a position." Assumes nothing.
use Rattle.std.specs.Prelude.{ℕ, zero, suc, ◌+◌, ◌*◌, Bool, true, false, cond, List, [], ◌∷◌, eqb, Float, Option, Some, None}
use Rattle.std.specs.Option.{option_or}
use Rattle.vectors.specs.declared.Vec3.{Vec3}
use Rattle.panning.specs.Setup.{Setup, pan_in}
use Rattle.corners.specs.Choice.{0·0, 1·0}
use Rattle.finding.specs.Grid.{across_count, up_count, across_at, up_at}

-- ---- which speakers sound

abbrev pub has_one : List Float → Bool
has_one [] = false
has_one (x ∷ xs) = true

-- "have a nonzero coefficient for gain 1 and size 0": channel c, of an object at the place p; what is panned to it is never a zero
abbrev pub channel_sounds : Setup → Vec3 → ℕ → Bool
channel_sounds h p c = has_one (pan_in h p 1·0 0·0 c)

-- "a 12-bit mask, bit c for channel c": of those of the n channels from c on for which f holds, c's bit being `bit`
unfoldable pub mask_from : (ℕ → Bool) → ℕ → ℕ → ℕ → ℕ
mask_from f zero c bit = 0
mask_from f (suc n) c bit = cond (f c) bit 0 + mask_from f n (suc c) (2 * bit)

unfoldable pub mask_at : Setup → Vec3 → ℕ
unfolding mask_from
mask_at h p = mask_from (channel_sounds h p) 12 0 1

-- ---- the first place

-- the first that there is of those numbered i, i + 1, .., of which there are n
unfoldable pub first_place : (ℕ → Option Vec3) → ℕ → ℕ → Option Vec3
first_place f zero i = None
first_place f (suc n) i = option_or (f i) (first_place f n (suc i))

-- the place that sounds just as the mask says, or none
abbrev pub exactly : Setup → ℕ → Vec3 → Option Vec3
exactly h mask p = cond (eqb (mask_at h p) mask) (Some p) None

-- of a row of the grid, of a height, and of the whole: "find one where exactly these speakers have a nonzero coefficient .. Answer the first by y, then z, then x, each rising, or
-- none exactly if the grid has none."
abbrev pub in_row : Setup → ℕ → Float → Float → Option Vec3
in_row h mask y z = first_place (λ i. exactly h mask (record { x = across_at i; y = y; z = z })) across_count 0

abbrev pub in_layer : Setup → ℕ → Float → Option Vec3
in_layer h mask y = first_place (λ k. in_row h mask y (across_at k)) across_count 0

unfoldable pub search : Setup → ℕ → Option Vec3
unfolding first_place mask_at
search h mask = first_place (λ j. in_layer h mask (up_at j)) up_count 0
