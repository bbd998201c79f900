-- What a search answers, as C reads it: R-13, and the form of the interface. Assumes nothing.
use Rattle.std.specs.Prelude.{ℕ, Result, Ok, Err, Option, Some, None}
use Rattle.limiter.specs.Limiter.{0·0}
use Rattle.vectors.specs.declared.Vec3.{Vec3}
use Rattle.rules.specs.Calls as rules
use Rattle.rules.specs.Calls.{refused, rendered, nothing, cleared, marked, place}
use Rattle.refusals.specs.RefusalNumbers.{numbers_of}
use Rattle.refusals.specs.declared.Refusal.{Refusal}
use Rattle.hall.specs.declared.place.Place.{Place}

-- kind 0 with the place, 1 with the refusal's number, 2 where there is none: their coordinates are +0.0
abbrev pub found_at : Option Vec3 → Place
found_at (Some p) = record { kind = 0; number = 0; x = p.x; y = p.y; z = p.z }
found_at None = record { kind = 2; number = 0; x = 0·0; y = 0·0; z = 0·0 }

abbrev pub not_found : ℕ → Place
not_found n = record { kind = 1; number = n; x = 0·0; y = 0·0; z = 0·0 }

-- of an answer of the rules; a search gives none of the last four
abbrev pub place_of : rules.Answer → Place
place_of (place p) = found_at p
place_of (refused n a b) = not_found n
place_of (rendered given m) = found_at None
place_of nothing = found_at None
place_of cleared = found_at None
place_of (marked c) = found_at None

-- what the entry answers
abbrev pub placed_as : Result (Option Vec3) Refusal → Place
placed_as (Ok p) = found_at p
placed_as (Err r) = not_found (numbers_of r).number
