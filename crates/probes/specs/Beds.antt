-- A reader may skip this file: routes and places as the numbers that the probes give. Assumes nothing.
use Rattle.std.specs.Prelude.{ℕ, Option, Some, None}
use Rattle.beds.specs.declared.Route.{Route}
use Rattle.beds.specs.declared.Route.TheVariants.{Bass, Folded, Direct, Unsupported}

abbrev pub route_number : Route → ℕ
route_number (Direct k) = k
route_number Bass = 100
route_number Folded = 101
route_number Unsupported = 102

abbrev pub found_number : Option ℕ → ℕ
found_number (Some i) = i
found_number None = 18_446_744_073_709_551_615
