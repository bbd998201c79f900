-- The small functions on f32 that the port needs, for every float: absolute value, the larger and the smaller of two, a clamp, the infinities. Assumes nothing.
use Rattle.std.specs.Prelude.{Bool, true, false, cond, Float}
use Rattle.std.specs.Float.{nan, inf, fin}
use Rattle.std.specs.Float.Ieee.{is_nan, lt}

-- Rust's `abs`: the sign is cleared, that of -0 too; a NaN stays
unfoldable pub absolute : Float → Float
absolute nan = nan
absolute (inf s) = inf false
absolute (fin s m e) = fin false m e

-- Document 01, item 2: "f32 max passes over a NaN; a clamp keeps it." Of two that compare equal, as the two zeros do, it is the first.
unfoldable pub larger : Float → Float → Float
unfolding is_nan lt
larger a b = cond (is_nan a) b (cond (lt a b) b a)

unfoldable pub smaller : Float → Float → Float
unfolding is_nan lt
smaller a b = cond (is_nan a) b (cond (lt b a) b a)

unfoldable pub clamped : Float → Float → Float → Float
unfolding lt
clamped x lo hi = cond (lt x lo) lo (cond (lt hi x) hi x)

abbrev pub infinite : Float → Bool
infinite nan = false
infinite (inf s) = true
infinite (fin s m e) = false
