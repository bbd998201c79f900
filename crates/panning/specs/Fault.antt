-- What `table_fault` answers of a table: "17 for a coordinate, 18 for equal positions, checked in that order". Assumes nothing.
use Rattle.std.specs.Prelude.{ℕ, ◌+◌, Bool, not, ◌&&◌, cond, leb, eqb, Option, Some, None}
use Rattle.vectors.specs.declared.Vec3.{Vec3}
use Rattle.corners.specs.Choice.{keep, every_of}
use Rattle.corners.specs.Table.{alike}
use Rattle.panning.specs.Speakers.{full_range}
use Rattle.panning.specs.declared.table.TableFault.{TableFault}
use Rattle.panning.specs.declared.table.TableFault.TheVariants.{Coordinate, SamePlaces}
use Rattle.panning.specs.Setup.{all_inside, all_apart}

-- for the twelve places of a table
abbrev pub fault_of : (ℕ → Vec3) → Option TableFault
fault_of sp = cond (all_inside sp) (cond (all_apart sp) None (Some SamePlaces)) (Some Coordinate)

-- channel k and each full-range one after it stand at different places, as `distinct` says it
unfoldable pub stands_alone : (ℕ → Vec3) → ℕ → Bool
unfolding keep every_of
stands_alone sp k = every_of (λ j. not (eqb k j) && not (alike (sp k) (sp j))) (keep (leb (k + 1)) full_range)
