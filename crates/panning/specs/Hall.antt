-- The hall of the code as the rules have it, and what `pan` answers in it. Assumes nothing.
use Rattle.std.specs.Prelude.{ℕ, ◌<◌, ◌≡◌, get_or, Float}
use Rattle.vectors.specs.declared.Vec3.{Vec3}
use Rattle.panning.specs.declared.hall.Hall.{Hall}
use Rattle.panning.specs.declared.Panned.{Panned}
use Rattle.panning.specs.Setup.{Setup, table_of, panned_in}

abbrev pub setup_of : Hall → Setup
setup_of h = record { layout = h.layout; table = table_of h.places }

-- what `pan` answers: the eight corners are channels
pub record PannedIs (s : Setup) (p : Vec3) (g z : Float) (r : Panned) : Type 0 where
  pub is : r ≡ panned_in s p g z
  pub less : (i : ℕ) → get_or r.corners i 0 < 12
