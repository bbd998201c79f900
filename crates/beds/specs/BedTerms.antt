-- What a bed adds to a channel, by its route. Assumes nothing.
use Rattle.std.specs.Prelude.{ℕ, Bool, cond, List, [], ◌∷◌, eqb, Float}
use Rattle.vectors.specs.declared.Vec3.{Vec3}
use Rattle.beds.specs.declared.Route.{Route}
use Rattle.beds.specs.declared.Route.TheVariants.{Bass, Folded, Direct, Unsupported}
use Rattle.beds.specs.Routes.{route_in, bass_gain}
use Rattle.beds.specs.Positions.{bed_position}

-- the coefficients on channel c of one term on channel k
abbrev pub alone : ℕ → Float → ℕ → List Float
alone k gain c = cond (eqb c k) (gain ∷ []) []

-- `pan position gain c`: the coefficients that panning at a position, with size 0, adds on channel c
abbrev pub routed : (Vec3 → Float → ℕ → List Float) → Vec3 → Route → Float → ℕ → List Float
routed pan position Bass gain c = alone 3 (bass_gain gain) c
routed pan position Folded gain c = pan position gain c
routed pan position (Direct k) gain c = alone k gain c
routed pan position Unsupported gain c = []

-- The coefficients that a bed adds on channel c, in a hall that has the channels `here`. One that is zero is not mixed.
unfoldable pub bed_adds : (ℕ → Bool) → (Vec3 → Float → ℕ → List Float) → ℕ → Float → ℕ → List Float
bed_adds here pan code gain c = routed pan (bed_position code) (route_in here code) gain c
