-- A reader may skip this file: which arguments a probe takes, as a test, and the zeros that it answers for others. A probe's contract is `cond test rule otherwise`, with the
-- leaf's rule; a slice that is lent to be written stays as it was where the test fails. Assumes nothing.
use Rattle.std.specs.Prelude.{ℕ, ◌+◌, ◌*◌, ◌/◌, Bool, true, false, ◌&&◌, cond, List, [], ◌∷◌, eqb, leb, ltb, pos, length, Float}
use Rattle.std.specs.Float.{fin}
use Rattle.angles.specs.declared.Turn.{Turn}
use Rattle.angles.specs.declared.filter.Coefficients.{Coefficients}
use Rattle.clock.specs.Start.{frame_start}
use Rattle.limiter.specs.Meters.{block_meters}
use Rattle.limiter.specs.ChannelPlaces.{channels_at}
use Rattle.limiter.specs.declared.Limited.{Limited}
use Rattle.words.specs.Words.{words_at}
use Rattle.panning.specs.Setup.{table_right, built_in_table}
use Rattle.fields.specs.Block.{block_of}
use Rattle.probes.specs.declared.probe_records.BlockTimes.{BlockTimes}
use Rattle.fields.specs.declared.object.Info.{Info}
use Rattle.fields.specs.declared.update.Header.{Header}

-- s has eight bytes from `at` on
abbrev pub has_long : List ℕ → ℕ → Bool
has_long s at = leb (at + 8) (length s)

-- the metadata has record r whole
abbrev pub has_record : List ℕ → ℕ → Bool
has_record m r = ltb r (length m / 40)

-- a block of twelve channels of 64 places, n of each in use, at a rate that f32 has exactly, and room for it in the output: `Room` of the limiter
abbrev pub has_room : List ℕ → ℕ → ℕ → List ℕ → ℕ → ℕ → Bool
has_room places n rate out step to =
    eqb (length places) 3072 && leb n 64 && leb rate 16777216 && leb (12 * step) (length out) && leb (to + 4 * n) step

-- each of the twelve channels is there
abbrev pub all_here : List Bool
all_here = true ∷ true ∷ true ∷ true ∷ true ∷ true ∷ true ∷ true ∷ true ∷ true ∷ true ∷ true ∷ []

-- the limiter with the next gain h, and the meters of the block of n samples that met g, which the probe does not answer
abbrev pub with_gain : Float → Float → ℕ → List ℕ → Limited
with_gain h g n places = record { limiter = record { gain = h }; meters = block_meters g (channels_at all_here n places 0) }

-- the hall table of these bytes, or the built-in one
unfoldable pub table_if : List ℕ → List ℕ
table_if t = cond (eqb (length t) 144 && table_right (words_at t 0 36)) (words_at t 0 36) built_in_table

-- ---- zeros

abbrev 0·0 : Float
0·0 = fin false 0 (pos 0)

abbrev pub zero_turn : Turn
zero_turn = record { cos = 0·0; sin = 0·0 }

abbrev pub zero_coefficients : Coefficients
zero_coefficients = record { a1 = 0·0; a2 = 0·0; b0 = 0·0; b1 = 0·0; b2 = 0·0 }

abbrev pub zero_header : Header
zero_header = record { offset = frame_start; objects = 0; bed_or_isf = 0; beds = 0; elements = 0 }

-- the numbers of a block, as a probe answers them
abbrev pub times_of : List ℕ → ℕ → BlockTimes
times_of m r = record { offset = (block_of m r).offset; ramp = (block_of m r).ramp }

abbrev pub zero_times : BlockTimes
zero_times = record { offset = pos 0; ramp = pos 0 }

abbrev pub zero_info : Info
zero_info = record { head = 0; gain = 0; size = 0; distance = 0; screen = 0; x = 0; y = 0; z = 0; send = 0 }
