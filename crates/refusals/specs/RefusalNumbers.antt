-- The number and the counts of each case of `Refusal`. Document 01: "An answer may be an enum. If so, a definition gives this paper's number and values for each of the enum's
-- cases, and the promises use that definition." Assumes nothing.
use Rattle.std.specs.Prelude.{ℕ, Result, Ok, Err}
use Rattle.records.specs.declared.metadata.Fault.{Fault}
use Rattle.records.specs.declared.metadata.Fault.TheVariants.{NotLaidOut, OutOfRange}
use Rattle.panning.specs.declared.table.TableFault.{TableFault}
use Rattle.panning.specs.declared.table.TableFault.TheVariants.{Coordinate, SamePlaces}
use Rattle.rules.specs.Refusals.{Found, clear, stop}
use Rattle.refusals.specs.declared.Stop.{Stop}
use Rattle.refusals.specs.declared.Refusal.{Refusal}
use Rattle.refusals.specs.declared.Refusal.TheVariants.{Lent, Sizes, Rate, StreamEnd, Records, Ranges, Samples}
use Rattle.refusals.specs.declared.Refusal.TheVariants.{SampleRateChanged, MissingOamd, ObjectCountMismatch}
use Rattle.refusals.specs.declared.Refusal.TheVariants.{UnsupportedSampleCount, BedChannelCountMismatch, UnsupportedBedChannel}
use Rattle.refusals.specs.declared.Refusal.TheVariants.{Layout, TableLength, TableCoordinate, TablePlaces, ObjectNumber, TooManyAhead}

-- "A refusal gives its number and two counts, zero where unnamed."
abbrev pub numbers : ℕ → ℕ → ℕ → Stop
numbers number first second = record { number = number; first = first; second = second }

abbrev pub numbers_of : Refusal → Stop
numbers_of Lent = numbers 1 0 0
numbers_of Sizes = numbers 2 0 0
numbers_of Rate = numbers 3 0 0
numbers_of StreamEnd = numbers 4 0 0
numbers_of Records = numbers 5 0 0
numbers_of Ranges = numbers 6 0 0
numbers_of Samples = numbers 8 0 0
numbers_of (SampleRateChanged expected provided) = numbers 9 expected provided
numbers_of MissingOamd = numbers 10 0 0
numbers_of (ObjectCountMismatch expected provided) = numbers 11 expected provided
numbers_of UnsupportedSampleCount = numbers 12 0 0
numbers_of (BedChannelCountMismatch expected) = numbers 13 expected 0
numbers_of (UnsupportedBedChannel code) = numbers 14 code 0
numbers_of Layout = numbers 15 0 0
numbers_of TableLength = numbers 16 0 0
numbers_of TableCoordinate = numbers 17 0 0
numbers_of TablePlaces = numbers 18 0 0
numbers_of ObjectNumber = numbers 24 0 0
numbers_of TooManyAhead = numbers 25 0 0

abbrev pub stop_of : Refusal → Found
stop_of r = let n = numbers_of r in stop n.number n.first n.second

-- what a check answers, whatever it gives where it finds nothing
abbrev pub found_of : {A : Type 0} → Result A Refusal → Found
found_of (Ok x) = clear
found_of (Err r) = stop_of r

-- 5 and 6
abbrev pub fault_refusal : Fault → Refusal
fault_refusal NotLaidOut = Records
fault_refusal OutOfRange = Ranges

-- 17 and 18
abbrev pub table_refusal : TableFault → Refusal
table_refusal Coordinate = TableCoordinate
table_refusal SamePlaces = TablePlaces
