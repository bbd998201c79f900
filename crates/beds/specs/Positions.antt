-- Where each bed stands. Document 01, item 3: "Codes 11, 12, 15, 16 are panned at `bed_channel_position`". Assumes nothing.
use Rattle.std.specs.Prelude.{ℕ, false, List, [], ◌∷◌, get_or}
use Rattle.std.specs.Float.{binary32}
use Rattle.std.specs.Float.Ieee.{neg, round}
use Rattle.vectors.specs.declared.Vec3.{Vec3}
use Rattle.vectors.specs.Vectors.{0·0f, 1·0f, vec3, zero_vec3}

-- By code, in the source's values: o is 0.0, p 1.0, m -1.0 and w the f32 nearest to 0.677419.
unfoldable pub positions : List Vec3
positions =
    let o = 0·0f in
    let p = 1·0f in
    let m = neg 1·0f in
    let w = round binary32 false 677_419 1_000_000 in
    vec3 m o p  --  0 FrontLeft
    ∷ vec3 p o p  --  1 FrontRight
    ∷ vec3 o o p  --  2 Center
    ∷ vec3 m m p  --  3 LowFrequencyEffects
    ∷ vec3 m o o  --  4 SurroundLeft
    ∷ vec3 p o o  --  5 SurroundRight
    ∷ vec3 o o m  --  6 RearCenter
    ∷ vec3 m o m  --  7 RearLeft
    ∷ vec3 p o m  --  8 RearRight
    ∷ vec3 m p p  --  9 TopFrontLeft
    ∷ vec3 p p p  -- 10 TopFrontRight
    ∷ vec3 m p o  -- 11 TopSurroundLeft
    ∷ vec3 p p o  -- 12 TopSurroundRight
    ∷ vec3 m p m  -- 13 TopRearLeft
    ∷ vec3 p p m  -- 14 TopRearRight
    ∷ vec3 m o w  -- 15 WideLeft
    ∷ vec3 p o w  -- 16 WideRight
    ∷ vec3 m m p  -- 17 LowFrequencyEffects2
    ∷ []

-- the origin for a code above 17
unfoldable pub bed_position : ℕ → Vec3
bed_position code = get_or positions code zero_vec3
