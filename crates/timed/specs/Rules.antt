-- Document 01, item 5, over signed numbers: the timecode, when a block is applied, what remains of its ramp, and which elements do anything. The state keeps offsets and ramps
-- plus 2 ^ 20 and a remaining ramp plus 2 ^ 47, so that none is below 0; here each is the number that is meant. specs/Shifted says the same of the numbers that are kept.
-- Assumes nothing.
use Rattle.std.specs.Prelude.{ℕ, [], Bool, false, not, ◌&&◌, ◌||◌, eqb, ℤ, pos, negsuc, ◌+ℤ◌, ◌-ℤ◌, get_or, Float}
use Rattle.std.specs.Int.Signed.{lt_z, le_z}
use Rattle.std.specs.Float.{binary32}
use Rattle.std.specs.Float.Ieee.{of_bits, of_int, div}
use Rattle.ieee.specs.Small.{smaller}
use Rattle.vectors.specs.Vectors.{1·0f}
use Rattle.timed.specs.declared.state.BlockState.{BlockState}
use Rattle.timed.specs.declared.state.ElementRendererState.{ElementRendererState}
use Rattle.timed.specs.declared.state.MetadataRendererState.{MetadataRendererState}
use Rattle.timed.specs.declared.slot.Timing.{Timing}

-- ---- the numbers that are kept

-- an offset or ramp 0: 2 ^ 20
abbrev pub raise : ℕ
raise = 1048576

-- the remaining ramp 0: 2 ^ 47
abbrev pub middle : ℕ
middle = 140737488355328

abbrev pub offset_of : BlockState → ℤ
offset_of b = pos b.offset -ℤ pos raise

abbrev pub ramp_of : BlockState → ℤ
ramp_of b = pos b.ramp -ℤ pos raise

-- the remaining ramp that is kept as n
unfoldable pub remaining_of : ℕ → ℤ
remaining_of n = pos n -ℤ pos middle

abbrev pub natural : ℤ → ℕ
natural (pos n) = n
natural (negsuc n) = 0

-- how a remaining ramp is kept; within its range, "from -2^21 - 64 × the stream's position to 2^20", the sum is not below 0
unfoldable pub kept_as : ℤ → ℕ
kept_as z = natural (z +ℤ pos middle)

-- what stands past a table's end
abbrev pub no_block : BlockState
no_block = record { offset = 0; ramp = 0; used = false }

abbrev pub no_element : ElementRendererState
no_element = record { blocks = 0; flags = 0; remaining = 0; schedule = []; tracks = [] }

abbrev pub element_of : MetadataRendererState → ℕ → ElementRendererState
element_of s i = get_or s.states i no_element

abbrev pub first_offset : ElementRendererState → ℤ
first_offset e = offset_of (get_or e.schedule 0 no_block)

-- ---- blocks

-- "The timecode is the slot's start less the last applied update's stream position."
abbrev pub timecode : Timing → ℤ
timecode w = pos w.start.0 -ℤ pos w.payload.0

-- "A block is applied when the timecode is greater than its offset. That happens once per update."
unfoldable pub due : Timing → BlockState → Bool
due w b = not b.used && lt_z (offset_of b) (timecode w)

-- of the block's ramp, what the time since its offset leaves
unfoldable pub left_after : Timing → BlockState → ℤ
left_after w b = ramp_of b -ℤ (timecode w -ℤ offset_of b)

-- ---- the ramp

-- no ramp remains
abbrev pub ramp_over : ℤ → Bool
ramp_over remaining = le_z remaining (pos 0)

abbrev pub 64·0 : Float
64·0 = of_bits binary32 0x42800000

-- "A ramp moves by 64 / remaining, at most 1"
unfoldable pub share : ℤ → Float
share remaining = smaller (div binary32 64·0 (of_int binary32 remaining)) 1·0f

-- a slot takes 64 samples of it
abbrev pub slot_less : ℤ → ℤ
slot_less remaining = remaining -ℤ pos 64

-- ---- elements

-- "An element with no blocks, or a first offset below 0, does nothing."
unfoldable pub active : ElementRendererState → Bool
active e = not (eqb e.blocks 0 || lt_z (first_offset e) (pos 0))

-- its "first block offset is from 0 up to the timecode"
unfoldable pub begins : Timing → ElementRendererState → Bool
begins w e = not (eqb e.blocks 0) && le_z (pos 0) (first_offset e) && le_z (first_offset e) (timecode w)
