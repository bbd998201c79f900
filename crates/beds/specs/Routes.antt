-- How each bed is put out. Assumes nothing.
use Rattle.std.specs.Prelude.{ℕ, Bool, false, cond, List, [], ◌∷◌, get_or, Float}
use Rattle.std.specs.Float.{binary32}
use Rattle.std.specs.Float.Ieee.{mul, round}
use Rattle.beds.specs.declared.Route.{Route}
use Rattle.beds.specs.declared.Route.TheVariants.{Bass, Folded, Direct, Unsupported}

-- Document 01, item 3: "Codes 0 to 17 follow the order of `BedChannel` in types.rs. The two LFE codes .. go to channel 3 at gain × 0.31622776.
-- Codes 11, 12, 15, 16 are panned at `bed_channel_position`; the rest follow `map_bed_channel_to_714`."
abbrev pub routes : List Route
routes =
    Direct 0  --  0 FrontLeft
    ∷ Direct 1  --  1 FrontRight
    ∷ Direct 2  --  2 Center
    ∷ Bass  --  3 LowFrequencyEffects
    ∷ Direct 6  --  4 SurroundLeft
    ∷ Direct 7  --  5 SurroundRight
    ∷ Unsupported  --  6 RearCenter
    ∷ Direct 4  --  7 RearLeft
    ∷ Direct 5  --  8 RearRight
    ∷ Direct 8  --  9 TopFrontLeft
    ∷ Direct 9  -- 10 TopFrontRight
    ∷ Folded  -- 11 TopSurroundLeft
    ∷ Folded  -- 12 TopSurroundRight
    ∷ Direct 10  -- 13 TopRearLeft
    ∷ Direct 11  -- 14 TopRearRight
    ∷ Folded  -- 15 WideLeft
    ∷ Folded  -- 16 WideRight
    ∷ Bass  -- 17 LowFrequencyEffects2
    ∷ []

-- a code above 17 is no bed
unfoldable pub route_of : ℕ → Route
route_of code = get_or routes code Unsupported

-- Document 02, R-5: "A bed whose speaker is absent is panned": `here k` says whether the hall has channel k
abbrev pub folded_unless : (ℕ → Bool) → Route → Route
folded_unless here Bass = Bass
folded_unless here Folded = Folded
folded_unless here (Direct k) = cond (here k) (Direct k) Folded
folded_unless here Unsupported = Unsupported

unfoldable pub route_in : (ℕ → Bool) → ℕ → Route
route_in here code = folded_unless here (route_of code)

-- gain × 0.31622776
abbrev pub bass_gain : Float → Float
bass_gain gain = mul binary32 gain (round binary32 false 31_622_776 100_000_000)
