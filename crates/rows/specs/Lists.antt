-- The rows. `cargo run --release --offline -p compare --bin rows` in rust/ writes this file: the calls are that program's, what is seen of them is the oracle's. Assumes nothing.
use Rattle.std.specs.Prelude.{true, false, List, [], ◌∷◌, ◌++◌, replicate}
use Rattle.rules.specs.Calls.{reset, make, make_with, hold, release, find}
use Rattle.rows.specs.Rows.{Row, ◌⇒◌, refusal, ready, none, renewed, noted, found}
use Rattle.rows.specs.Notation.{concat, as_row, row_at, sent, sent_by, of_bed, of_object, flush_at, short, quiet, diagonal_words, silence, only}
use Rattle.rows.specs.Notation.{update, far, bed, spoilt, element, at_once, block_from, minus, object, at, valid_position, place, differential, gain, distance, with_size}
use Rattle.rows.specs.Notation.{screen, depth, screen_anchor, on_speakers, words}

-- ---- refusals

-- 1: strides 0, 63 and 1,600; an output that is a byte short
abbrev pub no_room : Row
no_room =
    as_row
    (sent_by 0 48000 1 (0 ∷ []) 0 (0x3f000000 ∷ []) (bed (0 ∷ []) ∷ []) ⇒ refusal 1 0 0
    ∷ sent_by 63 48000 1 (0 ∷ []) 0 (0x3f000000 ∷ []) (bed (0 ∷ []) ∷ []) ⇒ refusal 1 0 0
    ∷ sent_by 1600 48000 1 (0 ∷ []) 0 (0x3f000000 ∷ []) (bed (0 ∷ []) ∷ []) ⇒ refusal 1 0 0
    ∷ short (of_bed (bed (0 ∷ []) ∷ [])) ⇒ refusal 1 0 0
    ∷ flush_at 63 ⇒ refusal 1 0 0
    ∷ short (flush_at 64) ⇒ refusal 1 0 0
    ∷ [])

-- 2: 65 samples, 19 beds, 17 objects, code 18, PCM a word too long, no channels
abbrev pub too_many : Row
too_many =
    as_row
    (sent 65 (0 ∷ []) 0 (quiet 65) [] ⇒ refusal 2 0 0
    ∷ sent 1 (quiet 19) 0 (quiet 19) [] ⇒ refusal 2 0 0
    ∷ sent 1 [] 17 (quiet 17) [] ⇒ refusal 2 0 0
    ∷ sent 1 (18 ∷ []) 0 (0x3f000000 ∷ []) [] ⇒ refusal 2 0 0
    ∷ sent 1 (0 ∷ []) 0 (0x3f000000 ∷ 0x3f000000 ∷ []) [] ⇒ refusal 2 0 0
    ∷ sent 1 [] 0 [] [] ⇒ refusal 2 0 0
    ∷ [])

-- 3: no rate, and the rates beside those that are accepted
abbrev pub rates : Row
rates =
    as_row
    (sent_by 64 0 1 (0 ∷ []) 0 (0x3f000000 ∷ []) (bed (0 ∷ []) ∷ []) ⇒ refusal 3 0 0
    ∷ sent_by 64 7999 1 (0 ∷ []) 0 (0x3f000000 ∷ []) (bed (0 ∷ []) ∷ []) ⇒ refusal 3 0 0
    ∷ sent_by 64 192001 1 (0 ∷ []) 0 (0x3f000000 ∷ []) (bed (0 ∷ []) ∷ []) ⇒ refusal 3 0 0
    ∷ [])

-- 4: the stream's last sample is accepted, one more is not
abbrev pub end_of_stream : Row
end_of_stream =
    row_at 1099511627775
    (sent 2 (0 ∷ []) 0 (0x3f000000 ∷ 0x3f000000 ∷ []) (bed (0 ∷ []) ∷ []) ⇒ refusal 4 0 0
    ∷ of_bed (bed (0 ∷ []) ∷ []) ⇒ ready []
    ∷ of_bed (bed (0 ∷ []) ∷ []) ⇒ refusal 4 0 0
    ∷ flush_at 64 ⇒ ready (only 0 0x3eb4fdf4 ∷ [])
    ∷ [])

-- 5: 33 objects, 3 elements, 9 blocks, 17 updates
abbrev pub counts : Row
counts =
    as_row
    (of_bed (spoilt 4 33 (update 0 (0 ∷ []) 0 (element (block_from 0 0 ∷ []) (object ∷ []) ∷ [])) ∷ []) ⇒ refusal 5 0 0
    ∷ of_bed (spoilt 7 3 (update 0 (0 ∷ []) 0 (element (block_from 0 0 ∷ []) (object ∷ []) ∷ [])) ∷ []) ⇒ refusal 5 0 0
    ∷ of_bed (spoilt 41 9 (update 0 (0 ∷ []) 0 (element (block_from 0 0 ∷ []) (object ∷ []) ∷ [])) ∷ []) ⇒ refusal 5 0 0
    ∷ of_bed (replicate 17 (bed (0 ∷ []))) ⇒ refusal 5 0 0
    ∷ [])

-- 5: a kind, a code, an anchor, a flag, an absent value, an unused place
abbrev pub values : Row
values =
    as_row
    (of_bed (spoilt 0 5 (update 0 (0 ∷ []) 0 (element (block_from 0 0 ∷ []) (object ∷ []) ∷ [])) ∷ []) ⇒ refusal 5 0 0
    ∷ of_bed (spoilt 8 18 (update 0 (0 ∷ []) 0 (element (block_from 0 0 ∷ []) (object ∷ []) ∷ [])) ∷ []) ⇒ refusal 5 0 0
    ∷ of_bed (spoilt 121 3 (update 0 (0 ∷ []) 0 (element (block_from 0 0 ∷ []) (object ∷ []) ∷ [])) ∷ []) ⇒ refusal 5 0 0
    ∷ of_bed (spoilt 122 64 (update 0 (0 ∷ []) 0 (element (block_from 0 0 ∷ []) (object ∷ []) ∷ [])) ∷ []) ⇒ refusal 5 0 0
    ∷ of_bed (spoilt 140 1 (update 0 (0 ∷ []) 0 (element (block_from 0 0 ∷ []) (object ∷ []) ∷ [])) ∷ []) ⇒ refusal 5 0 0
    ∷ of_bed (spoilt 123 1 (update 0 (0 ∷ []) 0 (element (block_from 0 0 ∷ []) (object ∷ []) ∷ [])) ∷ []) ⇒ refusal 5 0 0
    ∷ [])

-- 6: gain above 8, below 0, NaN; size above 1; offset, ramp, depth; the last passes
abbrev pub ranges : Row
ranges =
    as_row
    (of_bed (update 0 (0 ∷ []) 0 (element (block_from 0 0 ∷ []) (gain 0x41000001 object ∷ []) ∷ []) ∷ []) ⇒ refusal 6 0 0
    ∷ of_bed (update 0 (0 ∷ []) 0 (element (block_from 0 0 ∷ []) (gain 0x80000001 object ∷ []) ∷ []) ∷ []) ⇒ refusal 6 0 0
    ∷ of_bed (update 0 (0 ∷ []) 0 (element (block_from 0 0 ∷ []) (gain 0x7fc00000 object ∷ []) ∷ []) ∷ []) ⇒ refusal 6 0 0
    ∷ of_bed (update 0 (0 ∷ []) 0 (element (block_from 0 0 ∷ []) (with_size 0x3f800001 object ∷ []) ∷ []) ∷ []) ⇒ refusal 6 0 0
    ∷ of_bed (update 0 (0 ∷ []) 0 (element (block_from 1048577 0 ∷ []) (object ∷ []) ∷ []) ∷ []) ⇒ refusal 6 0 0
    ∷ of_bed (update 0 (0 ∷ []) 0 (element (block_from 0 (minus 1048577) ∷ []) (object ∷ []) ∷ []) ∷ []) ⇒ refusal 6 0 0
    ∷ of_bed (update 0 (0 ∷ []) 0 (element (block_from 0 0 ∷ []) (depth 0x3f400000 object ∷ []) ∷ []) ∷ []) ⇒ refusal 6 0 0
    ∷ of_bed (update 0 (0 ∷ []) 0 (element (block_from 0 0 ∷ []) (with_size 0x3f800000 (gain 0x41000000 object) ∷ []) ∷ []) ∷ []) ⇒ ready []
    ∷ [])

-- 6: a bed's send above 1, below 0, NaN; -0.0 and 1 pass
abbrev pub send_ranges : Row
send_ranges =
    as_row
    (of_bed (spoilt 159 63 (spoilt 158 128 (spoilt 156 1 (update 0 (0 ∷ []) 0 (element (block_from 0 0 ∷ []) (object ∷ []) ∷ [])))) ∷ []) ⇒ refusal 6 0 0
    ∷ of_bed (spoilt 159 128 (spoilt 156 1 (update 0 (0 ∷ []) 0 (element (block_from 0 0 ∷ []) (object ∷ []) ∷ []))) ∷ []) ⇒ refusal 6 0 0
    ∷ of_bed (spoilt 159 127 (spoilt 158 192 (update 0 (0 ∷ []) 0 (element (block_from 0 0 ∷ []) (object ∷ []) ∷ []))) ∷ []) ⇒ refusal 6 0 0
    ∷ of_bed (spoilt 159 128 (update 0 (0 ∷ []) 0 (element (block_from 0 0 ∷ []) (object ∷ []) ∷ [])) ∷ []) ⇒ ready []
    ∷ of_bed (spoilt 159 63 (spoilt 158 128 (update 0 (0 ∷ []) 0 (element (block_from 0 0 ∷ []) (object ∷ []) ∷ []))) ∷ []) ⇒ ready []
    ∷ [])

-- 5 before 6
abbrev pub both : Row
both =
    as_row
    (of_bed (spoilt 121 3 (update 0 (0 ∷ []) 0 (element (block_from 0 0 ∷ []) (gain 0x41100000 object ∷ []) ∷ [])) ∷ []) ⇒ refusal 5 0 0
    ∷ [])

-- 8: the f32 above 16, NaN, an infinity; -16 passes
abbrev pub bad_samples : Row
bad_samples =
    as_row
    (sent 1 (0 ∷ []) 0 (0x41800001 ∷ []) (bed (0 ∷ []) ∷ []) ⇒ refusal 8 0 0
    ∷ sent 1 (0 ∷ []) 0 (0x7fc00000 ∷ []) (bed (0 ∷ []) ∷ []) ⇒ refusal 8 0 0
    ∷ sent 1 (0 ∷ []) 0 (0xff800000 ∷ []) (bed (0 ∷ []) ∷ []) ⇒ refusal 8 0 0
    ∷ sent 1 (0 ∷ []) 0 (0xc1800000 ∷ []) (bed (0 ∷ []) ∷ []) ⇒ ready []
    ∷ [])

-- 1, 2, 3, 5, 6 and 8 in one call, mended one after another
abbrev pub lowest_first : Row
lowest_first =
    as_row
    (short (sent_by 64 7 1 (18 ∷ []) 0 (0x41880000 ∷ []) (spoilt 121 3 (update 0 (0 ∷ []) 0 (element (block_from 0 0 ∷ []) (gain 0x41100000 object ∷ []) ∷ [])) ∷ []))
    ⇒ refusal 1 0 0
    ∷ sent_by 64 7 1 (18 ∷ []) 0 (0x41880000 ∷ []) (spoilt 121 3 (update 0 (0 ∷ []) 0 (element (block_from 0 0 ∷ []) (gain 0x41100000 object ∷ []) ∷ [])) ∷ []) ⇒ refusal 2 0 0
    ∷ sent_by 64 7 1 (0 ∷ []) 0 (0x41880000 ∷ []) (spoilt 121 3 (update 0 (0 ∷ []) 0 (element (block_from 0 0 ∷ []) (gain 0x41100000 object ∷ []) ∷ [])) ∷ []) ⇒ refusal 3 0 0
    ∷ sent 1 (0 ∷ []) 0 (0x41880000 ∷ []) (spoilt 121 3 (update 0 (0 ∷ []) 0 (element (block_from 0 0 ∷ []) (gain 0x41100000 object ∷ []) ∷ [])) ∷ []) ⇒ refusal 5 0 0
    ∷ sent 1 (0 ∷ []) 0 (0x41880000 ∷ []) (update 0 (0 ∷ []) 0 (element (block_from 0 0 ∷ []) (gain 0x41100000 object ∷ []) ∷ []) ∷ []) ⇒ refusal 6 0 0
    ∷ sent 1 (0 ∷ []) 0 (0x41880000 ∷ []) (bed (0 ∷ []) ∷ []) ⇒ refusal 8 0 0
    ∷ of_bed (bed (0 ∷ []) ∷ []) ⇒ ready []
    ∷ [])

-- 9, expected and provided; before 11
abbrev pub rate_changed : Row
rate_changed =
    as_row
    (of_bed (bed (0 ∷ []) ∷ []) ⇒ ready []
    ∷ sent_by 64 44100 1 (0 ∷ []) 0 (0x3f000000 ∷ []) [] ⇒ refusal 9 48000 44100
    ∷ sent_by 64 96000 1 (0 ∷ []) 1 (0x3f000000 ∷ 0x3f000000 ∷ []) [] ⇒ refusal 9 48000 96000
    ∷ [])

-- 10: document 01's example; before 12
abbrev pub no_update : Row
no_update =
    as_row
    (sent 1 (2 ∷ []) 0 (0x3f800000 ∷ []) [] ⇒ refusal 10 0 0
    ∷ flush_at 64 ⇒ none
    ∷ sent 0 (0 ∷ []) 0 [] [] ⇒ refusal 10 0 0
    ∷ [])

-- 11, expected and provided: an update at offset 0, one at 1, the present state
abbrev pub objects_differ : Row
objects_differ =
    as_row
    (of_bed (update 0 [] 1 [] ∷ []) ⇒ refusal 11 1 0
    ∷ sent 2 (0 ∷ []) 0 (0x3f000000 ∷ 0x3f000000 ∷ []) (bed (0 ∷ []) ∷ update 1 [] 1 [] ∷ []) ⇒ refusal 11 1 0
    ∷ of_bed (bed (0 ∷ []) ∷ []) ⇒ ready []
    ∷ sent 1 (0 ∷ []) 1 (0x3f000000 ∷ 0x3f000000 ∷ []) [] ⇒ refusal 11 0 1
    ∷ [])

-- 12: behind 11 for an update at offset 0, before 11 for the present state
abbrev pub no_samples : Row
no_samples =
    as_row
    (sent 0 (0 ∷ []) 0 [] (bed (0 ∷ []) ∷ []) ⇒ refusal 12 0 0
    ∷ sent 0 (0 ∷ []) 0 [] (update 0 [] 1 [] ∷ []) ⇒ refusal 11 1 0
    ∷ of_bed (bed (0 ∷ []) ∷ []) ⇒ ready []
    ∷ sent 0 (0 ∷ []) 1 [] [] ⇒ refusal 12 0 0
    ∷ [])

-- 13: two bass beds, one in time, one before 14, one of the present state
abbrev pub no_input : Row
no_input =
    as_row
    (sent 1 (2 ∷ []) 0 (0x3f000000 ∷ []) (bed (3 ∷ 2 ∷ 17 ∷ []) ∷ []) ⇒ refusal 13 2 0
    ∷ sent 2 (0 ∷ []) 0 (0x3f000000 ∷ 0x3f000000 ∷ []) (bed (0 ∷ []) ∷ update 1 (2 ∷ []) 0 [] ∷ []) ⇒ refusal 13 1 0
    ∷ of_bed (bed (6 ∷ []) ∷ []) ⇒ refusal 13 1 0
    ∷ of_bed (bed (0 ∷ []) ∷ []) ⇒ ready []
    ∷ sent 1 (2 ∷ []) 0 (0x3f000000 ∷ []) [] ⇒ refusal 13 1 0
    ∷ [])

-- 14: the code 6
abbrev pub rear_centre : Row
rear_centre =
    as_row
    (sent 1 (6 ∷ []) 0 (0x3f000000 ∷ []) (bed (6 ∷ []) ∷ []) ⇒ refusal 14 6 0
    ∷ [])

abbrev pub refusals : List Row
refusals =
    no_room ∷ too_many ∷ rates ∷ end_of_stream ∷ counts ∷ values ∷ ranges ∷ send_ranges ∷ both ∷ bad_samples ∷ lowest_first ∷ rate_changed ∷ no_update ∷ objects_differ ∷
    no_samples ∷ no_input ∷ rear_centre ∷ []

-- ---- outputs

-- a flush gives what waits, a second says none
abbrev pub flush_waits : Row
flush_waits =
    as_row
    (of_bed (bed (0 ∷ []) ∷ []) ⇒ ready []
    ∷ flush_at 64 ⇒ ready (only 0 0x3eb4fdf4 ∷ [])
    ∷ flush_at 64 ⇒ none
    ∷ [])

-- after a reset nothing waits, and all is as from the start
abbrev pub after_reset : Row
after_reset =
    as_row
    (sent 1 (3 ∷ 8 ∷ []) 1 (0x41800000 ∷ 0x41800000 ∷ 0x41800000 ∷ []) (update 0 (3 ∷ 8 ∷ []) 1 (at_once 0 (object ∷ object ∷ at 0x3dcccccd 0x3e4ccccd 0x3dcccccd ∷ []) ∷ []) ∷ [])
    ⇒ ready []
    ∷ flush_at 64 ⇒ ready ((0x3f5e2a26 ∷ 0 ∷ 0 ∷ 0x3791aa4b ∷ 0 ∷ 0x3f666666 ∷ 0x3f000c5c ∷ 0x3e2abb25 ∷ 0x3ea4688c ∷ 0x3ddb3611 ∷ 0 ∷ 0 ∷ []) ∷ [])
    ∷ sent 1 (3 ∷ 8 ∷ []) 1 (0x41800000 ∷ 0x41800000 ∷ 0x41800000 ∷ []) [] ⇒ ready []
    ∷ reset ⇒ renewed
    ∷ flush_at 64 ⇒ none
    ∷ sent 1 (3 ∷ 8 ∷ []) 1 (0x3f000000 ∷ 0x3f000000 ∷ 0x3f000000 ∷ []) [] ⇒ refusal 10 0 0
    ∷ sent_by 64 96000 1 (3 ∷ 8 ∷ []) 1 (0x3f000000 ∷ 0x3f000000 ∷ 0x3f000000 ∷ []) (update 0 (3 ∷ 8 ∷ []) 1 [] ∷ []) ⇒ ready []
    ∷ flush_at 64 ⇒ ready ((0 ∷ 0 ∷ 0x3e75ce32 ∷ 0x35e5e5d3 ∷ 0 ∷ 0x3eb4fdf4 ∷ 0x3e79ea5d ∷ 0x3e79ea5d ∷ 0 ∷ 0 ∷ 0 ∷ 0 ∷ []) ∷ [])
    ∷ [])

-- a bed and then two objects on one channel: any other order rounds otherwise
abbrev pub sum : Row
sum =
    as_row
    (sent 1 (2 ∷ []) 2 (0x3dcccccd ∷ 0x3dcccccd ∷ 0xbe99999a ∷ []) (update 0 (2 ∷ []) 2 (at_once 0 (object ∷ at 0x3f000000 0 0 ∷ at 0x3f000000 0 0 ∷ []) ∷ []) ∷ []) ⇒ ready []
    ∷ flush_at 64 ⇒ ready (only 2 0xbdc79c90 ∷ [])
    ∷ [])

abbrev pub outputs : List Row
outputs =
    flush_waits ∷ after_reset ∷ sum ∷ []

-- ---- block_rows

-- a loud block lowers the gain, which grows by length / rate and limits the next
abbrev pub loud_block : Row
loud_block =
    as_row
    (sent 1 (0 ∷ []) 0 (0xc1800000 ∷ []) (bed (0 ∷ []) ∷ []) ⇒ ready []
    ∷ flush_at 64 ⇒ ready (only 0 0xbf666666 ∷ [])
    ∷ sent 1 (0 ∷ []) 0 (0x3f800000 ∷ []) (bed (0 ∷ []) ∷ []) ⇒ ready []
    ∷ flush_at 64 ⇒ ready (only 0 0x3d6675d8 ∷ [])
    ∷ sent 1 (0 ∷ []) 0 (0x41800000 ∷ []) (bed (0 ∷ []) ∷ []) ⇒ ready []
    ∷ of_bed (bed (0 ∷ []) ∷ []) ⇒ ready []
    ∷ flush_at 64 ⇒ ready (only 0 0x3f668549 ∷ only 0 0x3ce68549 ∷ [])
    ∷ sent 1 (0 ∷ []) 0 (0x3f800000 ∷ []) (bed (0 ∷ []) ∷ []) ⇒ ready []
    ∷ flush_at 64 ⇒ ready (only 0 0x3d66a42c ∷ [])
    ∷ [])

-- the gain never passes 1
abbrev pub full_gain : Row
full_gain =
    as_row
    (of_bed (bed (0 ∷ []) ∷ []) ⇒ ready []
    ∷ flush_at 64 ⇒ ready (only 0 0x3eb4fdf4 ∷ [])
    ∷ of_bed (bed (0 ∷ []) ∷ []) ⇒ ready []
    ∷ flush_at 64 ⇒ ready (only 0 0x3eb4fdf4 ∷ [])
    ∷ [])

-- 100 samples: 64 ready, 36 by a flush, then none; a block at offset 0 is applied at 64
abbrev pub hundred : Row
hundred =
    as_row
    (sent_by 128 48000 100 (0 ∷ []) 0 (0x3f000000 ∷ quiet 62 ++ 0x3f000000 ∷ 0x3f000000 ∷ quiet 34 ++ 0x3f000000 ∷ []) (update 0 (0 ∷ []) 0 (element (block_from 0 0 ∷ [])
    (gain 0x3e800000 object ∷ []) ∷ []) ∷ []) ⇒ ready (only 0 0x3eb4fdf4 ∷ silence 62 ++ only 0 0x3eb4fdf4 ∷ [])
    ∷ flush_at 64 ⇒ ready (only 0 0x3e000000 ∷ silence 34 ++ only 0 0x3e000000 ∷ [])
    ∷ flush_at 64 ⇒ none
    ∷ [])

-- the second whole block is limited by the grown gain, and so is the third
abbrev pub second_block : Row
second_block =
    as_row
    (sent 64 (0 ∷ []) 0 (0 ∷ 0x41800000 ∷ quiet 61 ++ 0x41000000 ∷ []) (bed (0 ∷ []) ∷ []) ⇒ ready (quiet 12 ∷ only 0 0x3f666666 ∷ silence 61 ++ only 0 0x3ee66666 ∷ [])
    ∷ sent 64 (0 ∷ []) 0 (0x3f800000 ∷ quiet 62 ++ 0xc1800000 ∷ []) [] ⇒ ready (only 0 0x3d6a42db ∷ silence 62 ++ only 0 0xbf6a42db ∷ [])
    ∷ sent 64 (0 ∷ []) 0 (quiet 63 ++ 0x3f800000 ∷ []) [] ⇒ ready (silence 63 ++ only 0 0x3d6e1f51 ∷ [])
    ∷ [])

abbrev pub block_rows : List Row
block_rows =
    loud_block ∷ full_gain ∷ hundred ∷ second_block ∷ []

-- ---- bed_rows

-- the beds that are panned, one alone after another
abbrev pub folded_beds : Row
folded_beds =
    as_row
    (sent 4 (11 ∷ 12 ∷ 15 ∷ 16 ∷ []) 0 (diagonal_words 4 0x3f000000) (bed (11 ∷ 12 ∷ 15 ∷ 16 ∷ []) ∷ []) ⇒ ready []
    ∷ flush_at 64 ⇒ ready ((0 ∷ 0 ∷ 0 ∷ 0 ∷ 0 ∷ 0 ∷ 0 ∷ 0 ∷ 0x3eb0b789 ∷ 0 ∷ 0x3e75ce32 ∷ 0 ∷ []) ∷ (0 ∷ 0 ∷ 0 ∷ 0 ∷ 0 ∷ 0 ∷ 0 ∷ 0 ∷ 0 ∷ 0x3eb0b789 ∷ 0 ∷ 0x3e75ce32 ∷ []) ∷
    (0x3ebe6bbf ∷ 0 ∷ 0 ∷ 0 ∷ 0 ∷ 0 ∷ 0x3e48bcb0 ∷ 0 ∷ 0 ∷ 0 ∷ 0 ∷ 0 ∷ []) ∷ (0 ∷ 0x3ebe6bbf ∷ 0 ∷ 0 ∷ 0 ∷ 0 ∷ 0 ∷ 0x3e48bcb0 ∷ 0 ∷ 0 ∷ 0 ∷ 0 ∷ []) ∷ [])
    ∷ [])

-- all beds at once, their inputs in another order
abbrev pub all_beds : Row
all_beds =
    as_row
    (sent 1 (17 ∷ 16 ∷ 15 ∷ 14 ∷ 13 ∷ 12 ∷ 11 ∷ 10 ∷ 9 ∷ 8 ∷ 7 ∷ 5 ∷ 4 ∷ 3 ∷ 2 ∷ 1 ∷ 0 ∷ []) 0 (0x3d000000 ∷ 0x3d800000 ∷ 0x3dc00000 ∷ 0x3e000000 ∷ 0x3e200000 ∷ 0x3e400000 ∷
    0x3e600000 ∷ 0x3e800000 ∷ 0x3e900000 ∷ 0x3ea00000 ∷ 0x3eb00000 ∷ 0x3ec00000 ∷ 0x3ed00000 ∷ 0x3ee00000 ∷ 0x3ef00000 ∷ 0x3f000000 ∷ 0x3f080000 ∷ [])
    (bed (0 ∷ 1 ∷ 2 ∷ 3 ∷ 4 ∷ 5 ∷ 7 ∷ 8 ∷ 9 ∷ 10 ∷ 11 ∷ 12 ∷ 13 ∷ 14 ∷ 15 ∷ 16 ∷ 17 ∷ []) ∷ []) ⇒ ready []
    ∷ flush_at 64
    ⇒ ready ((0x3ee40207 ∷ 0x3ecccb6c ∷ 0x3ea9ae15 ∷ 0x36d68d80 ∷ 0x3e78dd30 ∷ 0x3e623d71 ∷ 0x3ea5e006 ∷ 0x3e944a42 ∷ 0x3eb31f25 ∷ 0x3e9cc3ce ∷ 0x3e5ca8ee ∷ 0x3e36ac4d ∷ []) ∷ [])
    ∷ [])

-- both bass beds take the one bass input
abbrev pub one_bass : Row
one_bass =
    as_row
    (sent 1 (17 ∷ []) 0 (0x3f000000 ∷ []) (bed (3 ∷ 17 ∷ []) ∷ []) ⇒ ready []
    ∷ flush_at 64 ⇒ ready (only 3 0x3764db32 ∷ [])
    ∷ [])

-- a bass bed takes the input of its own code where there is one
abbrev pub own_bass : Row
own_bass =
    as_row
    (sent 1 (3 ∷ 17 ∷ []) 0 (0x3f000000 ∷ 0x3e800000 ∷ []) (bed (17 ∷ []) ∷ []) ⇒ ready []
    ∷ flush_at 64 ⇒ ready (only 3 0x3664db32 ∷ [])
    ∷ [])

-- the low-pass at the lowest rate, at the highest and between them
abbrev pub bass_rates : Row
bass_rates =
    as_row
    (sent_by 64 8000 3 (3 ∷ []) 0 (0x3f000000 ∷ 0 ∷ 0xbe800000 ∷ []) (bed (3 ∷ []) ∷ []) ⇒ ready []
    ∷ flush_at 64 ⇒ ready (only 3 0x3973e0a5 ∷ only 3 0x3a6bc314 ∷ only 3 0x3ad0a202 ∷ [])
    ∷ reset ⇒ renewed
    ∷ sent_by 64 22051 3 (3 ∷ []) 0 (0x3f000000 ∷ 0 ∷ 0xbe800000 ∷ []) (bed (3 ∷ []) ∷ []) ⇒ ready []
    ∷ flush_at 64 ⇒ ready (only 3 0x3805c9ca ∷ only 3 0x39042bd3 ∷ only 3 0x3972cec5 ∷ [])
    ∷ reset ⇒ renewed
    ∷ sent_by 64 44100 3 (3 ∷ []) 0 (0x3f000000 ∷ 0 ∷ 0xbe800000 ∷ []) (bed (3 ∷ []) ∷ []) ⇒ ready []
    ∷ flush_at 64 ⇒ ready (only 3 0x370769cc ∷ only 3 0x38069843 ∷ only 3 0x3879d141 ∷ [])
    ∷ reset ⇒ renewed
    ∷ sent_by 64 96000 3 (3 ∷ []) 0 (0x3f000000 ∷ 0 ∷ 0xbe800000 ∷ []) (bed (3 ∷ []) ∷ []) ⇒ ready []
    ∷ flush_at 64 ⇒ ready (only 3 0x35e5e5d3 ∷ only 3 0x36e54266 ∷ only 3 0x3755ef5a ∷ [])
    ∷ reset ⇒ renewed
    ∷ sent_by 64 192000 3 (3 ∷ []) 0 (0x3f000000 ∷ 0 ∷ 0xbe800000 ∷ []) (bed (3 ∷ []) ∷ []) ⇒ ready []
    ∷ flush_at 64 ⇒ ready (only 3 0x34e616a6 ∷ only 3 0x35e5c4de ∷ only 3 0x3656e8e5 ∷ [])
    ∷ reset ⇒ renewed
    ∷ [])

-- a gain stays while the number of beds does, and starts again with another
abbrev pub bed_gains_is : Row
bed_gains_is =
    as_row
    (sent 1 (0 ∷ 1 ∷ []) 0 (0x3f000000 ∷ 0x3e800000 ∷ []) (update 0 (0 ∷ 1 ∷ []) 0 (at_once 0 (gain 0x3e800000 object ∷ object ∷ []) ∷ []) ∷ []) ⇒ ready []
    ∷ sent 1 (0 ∷ 1 ∷ []) 0 (0x3f000000 ∷ 0x3e800000 ∷ []) (bed (1 ∷ 0 ∷ []) ∷ []) ⇒ ready []
    ∷ sent 1 (0 ∷ 1 ∷ []) 0 (0x3f000000 ∷ 0x3e800000 ∷ []) (bed (0 ∷ []) ∷ []) ⇒ ready []
    ∷ flush_at 64 ⇒ ready ((0x3e000000 ∷ 0x3e34fdf4 ∷ 0 ∷ 0 ∷ 0 ∷ 0 ∷ 0 ∷ 0 ∷ 0 ∷ 0 ∷ 0 ∷ 0 ∷ []) ∷ (0x3eb4fdf4 ∷ 0x3d800000 ∷ 0 ∷ 0 ∷ 0 ∷ 0 ∷ 0 ∷ 0 ∷ 0 ∷ 0 ∷ 0 ∷ 0 ∷ []) ∷
    only 0 0x3eb4fdf4 ∷ [])
    ∷ [])

abbrev pub bed_rows : List Row
bed_rows =
    folded_beds ∷ all_beds ∷ one_bass ∷ own_bass ∷ bass_rates ∷ bed_gains_is ∷ []

-- ---- object_rows

-- one object alone after another: in the room, at the screen, at the speakers
abbrev pub anchors : Row
anchors =
    as_row
    (sent 3 [] 3 (diagonal_words 3 0x3f000000) (update 0 [] 3 (at_once 0 (at 0x3e99999a 0x3ecccccd 0x3e4ccccd ∷
    screen_anchor (screen 0x3f000000 (at 0x3f4ccccd 0x3e99999a 0x3f333333)) ∷ on_speakers (at 0x3e99999a 0x3ecccccd 0x3e4ccccd) ∷ []) ∷ []) ∷ []) ⇒ ready []
    ∷ flush_at 64 ⇒ ready ((0x3e44980c ∷ 0 ∷ 0x3e2c429a ∷ 0 ∷ 0 ∷ 0 ∷ 0x3e6c902d ∷ 0x3e1addf2 ∷ 0x3e10dd62 ∷ 0x3dbdac2b ∷ 0x3d94f97b ∷ 0x3d1cecca ∷ []) ∷
    (0 ∷ 0x3e00858b ∷ 0x3d89f112 ∷ 0 ∷ 0 ∷ 0 ∷ 0x3d644ae6 ∷ 0x3dd38b12 ∷ 0x3e326cb7 ∷ 0x3ea55584 ∷ 0x3cf5bb4d ∷ 0x3dad2814 ∷ []) ∷
    (0 ∷ 0 ∷ 0x3e75ce32 ∷ 0 ∷ 0 ∷ 0 ∷ 0x3e79ea5d ∷ 0x3e79ea5d ∷ 0 ∷ 0 ∷ 0 ∷ 0 ∷ []) ∷ [])
    ∷ [])

-- the four depth factors
abbrev pub depths : Row
depths =
    as_row
    (sent 4 [] 4 (diagonal_words 4 0x3f000000) (update 0 [] 4 (at_once 0 (screen_anchor (depth 0x3e800000 (screen 0x3f000000 (at 0x3f4ccccd 0x3e99999a 0x3f333333))) ∷
    screen_anchor (depth 0x3f000000 (screen 0x3f000000 (at 0x3f4ccccd 0x3e99999a 0x3f333333))) ∷ screen_anchor (screen 0x3f000000 (at 0x3f4ccccd 0x3e99999a 0x3f333333)) ∷
    screen_anchor (depth 0x40000000 (screen 0x3f000000 (at 0x3f4ccccd 0x3e99999a 0x3f333333))) ∷ []) ∷ []) ∷ []) ⇒ ready []
    ∷ flush_at 64 ⇒ ready ((0 ∷ 0x3e0b1cbc ∷ 0x3d8d4019 ∷ 0 ∷ 0 ∷ 0 ∷ 0x3d7095d0 ∷ 0x3de33b96 ∷ 0x3e2cbe61 ∷ 0x3ea3280a ∷ 0x3ce72aa7 ∷ 0x3dab0b4f ∷ []) ∷
    (0 ∷ 0x3e068888 ∷ 0x3d8c03da ∷ 0 ∷ 0 ∷ 0 ∷ 0x3d6b67f1 ∷ 0x3ddc7b49 ∷ 0x3e2f3a1b ∷ 0x3ea41e29 ∷ 0x3ced8d94 ∷ 0x3dabfa7b ∷ []) ∷
    (0 ∷ 0x3e00858b ∷ 0x3d89f112 ∷ 0 ∷ 0 ∷ 0 ∷ 0x3d644ae6 ∷ 0x3dd38b12 ∷ 0x3e326cb7 ∷ 0x3ea55584 ∷ 0x3cf5bb4d ∷ 0x3dad2814 ∷ []) ∷
    (0 ∷ 0x3df69f4a ∷ 0x3d87bdcb ∷ 0 ∷ 0 ∷ 0 ∷ 0x3d5dd692 ∷ 0x3dcbb9d8 ∷ 0x3e352298 ∷ 0x3ea6589e ∷ 0x3cfca0b9 ∷ 0x3dae2233 ∷ []) ∷ [])
    ∷ [])

-- a distance, and an infinite one of either sign
abbrev pub distances : Row
distances =
    as_row
    (sent 3 [] 3 (diagonal_words 3 0x3f000000) (update 0 [] 3 (at_once 0 (distance 0x3fc00000 (at 0x3e99999a 0x3ecccccd 0x3e4ccccd) ∷
    distance 0x7f800000 (at 0x3e99999a 0x3ecccccd 0x3e4ccccd) ∷ distance 0xff800000 (at 0x3e99999a 0x3ecccccd 0x3e4ccccd) ∷ []) ∷ []) ∷ []) ⇒ ready []
    ∷ flush_at 64 ⇒ ready ((0 ∷ 0 ∷ 0 ∷ 0 ∷ 0x3df49cdf ∷ 0x3e815a48 ∷ 0x3d95837c ∷ 0x3df26342 ∷ 0x3d1f2908 ∷ 0x3d810369 ∷ 0x3deddbce ∷ 0x3e7b8fe1 ∷ []) ∷
    (0 ∷ 0x3cbc89b9 ∷ 0x3e706411 ∷ 0 ∷ 0 ∷ 0 ∷ 0x3e79e609 ∷ 0x3e7b9623 ∷ 0x3ca260d1 ∷ 0x3ca37996 ∷ 0x3c663746 ∷ 0x3c686b06 ∷ []) ∷
    (0 ∷ 0x3cbc89b9 ∷ 0x3e706411 ∷ 0 ∷ 0 ∷ 0 ∷ 0x3e79e609 ∷ 0x3e7b9623 ∷ 0x3ca260d1 ∷ 0x3ca37996 ∷ 0x3c663746 ∷ 0x3c686b06 ∷ []) ∷ [])
    ∷ [])

-- sizes 0.25 and 1, a size at gain 0
abbrev pub sizes : Row
sizes =
    as_row
    (sent 3 [] 3 (diagonal_words 3 0x3f000000) (update 0 [] 3 (at_once 0 (with_size 0x3e800000 (at 0x3e99999a 0x3ecccccd 0x3e4ccccd) ∷
    with_size 0x3f800000 (gain 0x3f000000 (at 0x3e99999a 0x3ecccccd 0x3e4ccccd)) ∷ with_size 0x3e800000 (gain 0 (at 0x3e99999a 0x3ecccccd 0x3e4ccccd)) ∷ []) ∷ []) ∷ []) ⇒ ready []
    ∷ flush_at 64 ⇒ ready ((0x3e5e80d3 ∷ 0x3d50fdd7 ∷ 0x3e496df8 ∷ 0 ∷ 0x3d50fdd7 ∷ 0x3d50fdd7 ∷ 0x3e808f0e ∷ 0x3e3a5ddb ∷ 0x3e31b458 ∷ 0x3e0660e5 ∷ 0x3de982f2 ∷ 0x3dac7240 ∷ []) ∷
    (0x3d93cd3a ∷ 0x3d93cd3a ∷ 0x3d93cd3a ∷ 0 ∷ 0x3d93cd3a ∷ 0x3d93cd3a ∷ 0x3d93cd3a ∷ 0x3d93cd3a ∷ 0x3d93cd3a ∷ 0x3d93cd3a ∷ 0x3d93cd3a ∷ 0x3d93cd3a ∷ []) ∷ quiet 12 ∷ [])
    ∷ [])

-- a NaN, infinities, none given, one that is not valid
abbrev pub odd_positions : Row
odd_positions =
    as_row
    (sent 4 [] 4 (diagonal_words 4 0x3f000000) (update 0 [] 4 (at_once 0 (at 0x7fc00000 0x7fc00000 0x7fc00000 ∷ at 0x7f800000 0x3f000000 0xff800000 ∷ valid_position object ∷
    place 0x3e99999a 0x3ecccccd 0x3e4ccccd object ∷ []) ∷ []) ∷ []) ⇒ ready []
    ∷ flush_at 64 ⇒ ready (only 4 0x3ed740d4 ∷ (0 ∷ 0x3e75ce32 ∷ 0 ∷ 0 ∷ 0 ∷ 0 ∷ 0 ∷ 0x3eb0b789 ∷ 0 ∷ 0 ∷ 0 ∷ 0 ∷ []) ∷ only 0 0x3ed740d4 ∷
    (0 ∷ 0 ∷ 0x3e75ce32 ∷ 0 ∷ 0 ∷ 0 ∷ 0x3e79ea5d ∷ 0x3e79ea5d ∷ 0 ∷ 0 ∷ 0 ∷ 0 ∷ []) ∷ [])
    ∷ [])

-- an ISF object that is no bed: the dynamic object comes behind it
abbrev pub isf : Row
isf =
    as_row
    (sent 1 (0 ∷ []) 1 (0 ∷ 0x3f000000 ∷ []) (spoilt 5 2 (update 0 (0 ∷ []) 2 (at_once 0 (object ∷ at 0x3dcccccd 0x3e4ccccd 0x3dcccccd ∷
    at 0x3e99999a 0x3ecccccd 0x3e4ccccd ∷ []) ∷ [])) ∷ []) ⇒ ready []
    ∷ flush_at 64 ⇒ ready ((0x3e44980c ∷ 0 ∷ 0x3e2c429a ∷ 0 ∷ 0 ∷ 0 ∷ 0x3e6c902d ∷ 0x3e1addf2 ∷ 0x3e10dd62 ∷ 0x3dbdac2b ∷ 0x3d94f97b ∷ 0x3d1cecca ∷ []) ∷ [])
    ∷ [])

abbrev pub object_rows : List Row
object_rows =
    anchors ∷ depths ∷ distances ∷ sizes ∷ odd_positions ∷ isf ∷ []

-- ---- updates

-- a block at offset 0 is not applied at timecode 0, in a second push either
abbrev pub offset_0 : Row
offset_0 =
    as_row
    (of_bed (update 0 (0 ∷ []) 0 (element (block_from 0 0 ∷ []) (gain 0x41000000 object ∷ []) ∷ []) ∷ []) ⇒ ready []
    ∷ of_bed (update 0 (0 ∷ []) 0 (element (block_from 0 0 ∷ []) (gain 0x41000000 object ∷ []) ∷ []) ∷ []) ⇒ ready []
    ∷ flush_at 64 ⇒ ready (only 0 0x3eb4fdf4 ∷ only 0 0x3eb4fdf4 ∷ [])
    ∷ [])

-- an update at a second push's offset 0 starts a slot there
abbrev pub new_slot : Row
new_slot =
    as_row
    (of_object (update 0 [] 1 (at_once 0 (at 0x3dcccccd 0x3e4ccccd 0x3dcccccd ∷ []) ∷ []) ∷ []) ⇒ ready []
    ∷ of_object (update 0 [] 1 (at_once 0 (at 0x3f666666 0x3ecccccd 0x3f4ccccd ∷ []) ∷ []) ∷ []) ⇒ ready []
    ∷ flush_at 64 ⇒ ready ((0x3eae85ce ∷ 0 ∷ 0 ∷ 0 ∷ 0 ∷ 0 ∷ 0x3e492d97 ∷ 0x3d861e64 ∷ 0x3e0126e5 ∷ 0x3d2c33dc ∷ 0 ∷ 0 ∷ []) ∷
    (0 ∷ 0x3e02b16e ∷ 0 ∷ 0 ∷ 0 ∷ 0 ∷ 0x3d32d332 ∷ 0x3e061e64 ∷ 0x3ddb03d6 ∷ 0x3ea442df ∷ 0 ∷ 0x3e285fb9 ∷ []) ∷ [])
    ∷ [])

-- an update in mid-frame changes the beds at once, and starts no slot
abbrev pub mid_frame : Row
mid_frame =
    as_row
    (sent 3 (0 ∷ 1 ∷ []) 0 (0x3f000000 ∷ 0x3f000000 ∷ 0x3f000000 ∷ 0x3e800000 ∷ 0x3e800000 ∷ 0x3e800000 ∷ []) (bed (0 ∷ []) ∷
    update 1 (1 ∷ []) 0 (at_once 0 (gain 0x3e800000 object ∷ []) ∷ []) ∷ []) ⇒ ready []
    ∷ flush_at 64 ⇒ ready (only 0 0x3eb4fdf4 ∷ only 1 0x3e34fdf4 ∷ only 1 0x3e34fdf4 ∷ [])
    ∷ [])

-- samples before the first update are silent; it starts a slot in mid-frame
abbrev pub leading_silence : Row
leading_silence =
    as_row
    (sent 3 (0 ∷ []) 0 (0x3f000000 ∷ 0x3f000000 ∷ 0x3f000000 ∷ []) (update 1 (0 ∷ []) 0 (at_once 0 (gain 0x3e800000 object ∷ []) ∷ []) ∷ []) ⇒ ready []
    ∷ flush_at 64 ⇒ ready (quiet 12 ∷ only 0 0x3e000000 ∷ only 0 0x3e000000 ∷ [])
    ∷ [])

-- an update at the frame's end is never applied: silence; then 9 before 10
abbrev pub dropped : Row
dropped =
    as_row
    (of_bed (update 1 (0 ∷ []) 0 [] ∷ []) ⇒ ready []
    ∷ sent_by 64 96000 1 (0 ∷ []) 0 (0x3f000000 ∷ []) [] ⇒ refusal 9 48000 96000
    ∷ of_bed [] ⇒ refusal 10 0 0
    ∷ flush_at 64 ⇒ ready (quiet 12 ∷ [])
    ∷ [])

-- updates are taken by offset, those of one offset in the order sent
abbrev pub in_order : Row
in_order =
    as_row
    (sent 2 (0 ∷ 1 ∷ 2 ∷ []) 0 (0x3f000000 ∷ 0x3f000000 ∷ 0x3e800000 ∷ 0x3e800000 ∷ 0x3e000000 ∷ 0x3e000000 ∷ []) (update 1 (1 ∷ []) 0 [] ∷ update 1 (2 ∷ []) 0 [] ∷
    bed (0 ∷ []) ∷ []) ⇒ ready []
    ∷ flush_at 64 ⇒ ready (only 0 0x3eb4fdf4 ∷ only 2 0x3db4fdf4 ∷ [])
    ∷ [])

-- of two elements that have begun the last is taken, though its block is not due
abbrev pub two_elements : Row
two_elements =
    as_row
    (of_object (update 0 [] 1 (at_once 0 (at 0x3dcccccd 0x3e4ccccd 0x3dcccccd ∷ []) ∷ element (block_from 0 0 ∷ []) (at 0x3f666666 0x3ecccccd 0x3f4ccccd ∷ []) ∷ []) ∷ [])
    ⇒ ready []
    ∷ flush_at 64 ⇒ ready ((0 ∷ 0 ∷ 0x3e75ce32 ∷ 0 ∷ 0 ∷ 0 ∷ 0x3e79ea5d ∷ 0x3e79ea5d ∷ 0 ∷ 0 ∷ 0 ∷ 0 ∷ []) ∷ [])
    ∷ [])

-- an element whose first offset is below 0 does nothing
abbrev pub below_0 : Row
below_0 =
    as_row
    (of_object (update 0 [] 1 (element (block_from (minus 1) 0 ∷ []) (at 0x3f666666 0x3ecccccd 0x3f4ccccd ∷ []) ∷ []) ∷ []) ⇒ ready []
    ∷ flush_at 64 ⇒ ready ((0 ∷ 0 ∷ 0x3e75ce32 ∷ 0 ∷ 0 ∷ 0 ∷ 0x3e79ea5d ∷ 0x3e79ea5d ∷ 0 ∷ 0 ∷ 0 ∷ 0 ∷ []) ∷ [])
    ∷ [])

-- a differential position, twice
abbrev pub differences : Row
differences =
    as_row
    (of_object (update 0 [] 1 (at_once 0 (at 0x3dcccccd 0x3e4ccccd 0x3dcccccd ∷ []) ∷ []) ∷ []) ⇒ ready []
    ∷ of_object (update 0 [] 1 (at_once 0 (differential (at 0x3e800000 0x3dcccccd 0) ∷ []) ∷ []) ∷ []) ⇒ ready []
    ∷ of_object (update 0 [] 1 (at_once 0 (differential (at 0x3e800000 0x3dcccccd 0) ∷ []) ∷ []) ∷ []) ⇒ ready []
    ∷ flush_at 64 ⇒ ready ((0x3eae85ce ∷ 0 ∷ 0 ∷ 0 ∷ 0 ∷ 0 ∷ 0x3e492d97 ∷ 0x3d861e64 ∷ 0x3e0126e5 ∷ 0x3d2c33dc ∷ 0 ∷ 0 ∷ []) ∷
    (0x3e4d4dd1 ∷ 0 ∷ 0x3e6f294b ∷ 0 ∷ 0 ∷ 0 ∷ 0x3e51648d ∷ 0x3e19a6fd ∷ 0x3dd53c34 ∷ 0x3d9c78ca ∷ 0x3cda47b1 ∷ 0x3c8ac7f9 ∷ []) ∷
    (0x3e4d4dd1 ∷ 0 ∷ 0x3e6f294b ∷ 0 ∷ 0 ∷ 0 ∷ 0x3e51648d ∷ 0x3e19a6fd ∷ 0x3dd53c34 ∷ 0x3d9c78ca ∷ 0x3cda47b1 ∷ 0x3c8ac7f9 ∷ []) ∷ [])
    ∷ [])

-- with another number of objects all start again
abbrev pub another_number : Row
another_number =
    as_row
    (of_object (update 0 [] 1 (at_once 0 (gain 0x3e800000 (at 0x3dcccccd 0x3e4ccccd 0x3dcccccd) ∷ []) ∷ []) ∷ []) ⇒ ready []
    ∷ sent 1 [] 2 (0x3f000000 ∷ 0 ∷ []) (update 0 [] 2 [] ∷ []) ⇒ ready []
    ∷ flush_at 64 ⇒ ready ((0x3e4f8f2c ∷ 0 ∷ 0 ∷ 0 ∷ 0 ∷ 0 ∷ 0x3def42ae ∷ 0x3d1f81c9 ∷ 0x3d999999 ∷ 0x3ccccccd ∷ 0 ∷ 0 ∷ []) ∷
    (0 ∷ 0 ∷ 0x3e75ce32 ∷ 0 ∷ 0 ∷ 0 ∷ 0x3e79ea5d ∷ 0x3e79ea5d ∷ 0 ∷ 0 ∷ 0 ∷ 0 ∷ []) ∷ [])
    ∷ [])

-- a kept element keeps flag, target and ramp: half of the way, then the rest
abbrev pub kept_element : Row
kept_element =
    as_row
    (of_object (update 0 [] 1 (at_once 0 (at 0x3dcccccd 0x3e4ccccd 0x3dcccccd ∷ []) ∷ []) ∷ []) ⇒ ready []
    ∷ of_object (update 0 [] 1 (at_once 129 (at 0x3f666666 0x3ecccccd 0x3f4ccccd ∷ []) ∷ []) ∷ []) ⇒ ready []
    ∷ of_object (update 0 [] 1 (element (block_from 0 0 ∷ block_from 5 0 ∷ []) (object ∷ object ∷ []) ∷ []) ∷ []) ⇒ ready []
    ∷ flush_at 64 ⇒ ready ((0x3eae85ce ∷ 0 ∷ 0 ∷ 0 ∷ 0 ∷ 0 ∷ 0x3e492d97 ∷ 0x3d861e64 ∷ 0x3e0126e5 ∷ 0x3d2c33dc ∷ 0 ∷ 0 ∷ []) ∷
    (0x38766634 ∷ 0 ∷ 0x3e766634 ∷ 0 ∷ 0 ∷ 0 ∷ 0x3e0f90c6 ∷ 0x3e0f90c6 ∷ 0x3e465d40 ∷ 0x3e465d3f ∷ 0x3d41ff3b ∷ 0x3d41ff3b ∷ []) ∷
    (0 ∷ 0x3e02b16e ∷ 0 ∷ 0 ∷ 0 ∷ 0 ∷ 0x3d32d332 ∷ 0x3e061e64 ∷ 0x3ddb03d6 ∷ 0x3ea442df ∷ 0 ∷ 0x3e285fb9 ∷ []) ∷ [])
    ∷ [])

-- where the flag is not set at the previous slot: straight to the target
abbrev pub no_flag : Row
no_flag =
    as_row
    (of_object (update 0 [] 1 (at_once 0 (at 0x3dcccccd 0x3e4ccccd 0x3dcccccd ∷ []) ∷ []) ∷ []) ⇒ ready []
    ∷ of_object (update 0 [] 1 (at_once 0 (object ∷ []) ∷ []) ∷ []) ⇒ ready []
    ∷ of_object (update 0 [] 1 (at_once 129 (at 0x3f666666 0x3ecccccd 0x3f4ccccd ∷ []) ∷ []) ∷ []) ⇒ ready []
    ∷ flush_at 64 ⇒ ready ((0x3eae85ce ∷ 0 ∷ 0 ∷ 0 ∷ 0 ∷ 0 ∷ 0x3e492d97 ∷ 0x3d861e64 ∷ 0x3e0126e5 ∷ 0x3d2c33dc ∷ 0 ∷ 0 ∷ []) ∷
    (0x3eae85ce ∷ 0 ∷ 0 ∷ 0 ∷ 0 ∷ 0 ∷ 0x3e492d97 ∷ 0x3d861e64 ∷ 0x3e0126e5 ∷ 0x3d2c33dc ∷ 0 ∷ 0 ∷ []) ∷
    (0 ∷ 0x3e02b16e ∷ 0 ∷ 0 ∷ 0 ∷ 0 ∷ 0x3d32d332 ∷ 0x3e061e64 ∷ 0x3ddb03d6 ∷ 0x3ea442df ∷ 0 ∷ 0x3e285fb9 ∷ []) ∷ [])
    ∷ [])

-- a new element has no flag: straight to the target; and no ramp: there it stays
abbrev pub new_element : Row
new_element =
    as_row
    (of_object (update 0 [] 1 (at_once 0 (at 0x3dcccccd 0x3e4ccccd 0x3dcccccd ∷ []) ∷ []) ∷ []) ⇒ ready []
    ∷ of_object (update 0 [] 1 (element (block_from 0 0 ∷ block_from (minus 1) 129 ∷ block_from 5 0 ∷ []) (object ∷ at 0x3f666666 0x3ecccccd 0x3f4ccccd ∷ object ∷ []) ∷ []) ∷ [])
    ⇒ ready []
    ∷ of_object (update 0 [] 1 (element (block_from 0 0 ∷ block_from 5 0 ∷ []) (object ∷ object ∷ []) ∷ []) ∷ []) ⇒ ready []
    ∷ flush_at 64 ⇒ ready ((0x3eae85ce ∷ 0 ∷ 0 ∷ 0 ∷ 0 ∷ 0 ∷ 0x3e492d97 ∷ 0x3d861e64 ∷ 0x3e0126e5 ∷ 0x3d2c33dc ∷ 0 ∷ 0 ∷ []) ∷
    (0 ∷ 0x3e02b16e ∷ 0 ∷ 0 ∷ 0 ∷ 0 ∷ 0x3d32d332 ∷ 0x3e061e64 ∷ 0x3ddb03d6 ∷ 0x3ea442df ∷ 0 ∷ 0x3e285fb9 ∷ []) ∷
    (0 ∷ 0x3e02b16e ∷ 0 ∷ 0 ∷ 0 ∷ 0 ∷ 0x3d32d332 ∷ 0x3e061e64 ∷ 0x3ddb03d6 ∷ 0x3ea442df ∷ 0 ∷ 0x3e285fb9 ∷ []) ∷ [])
    ∷ [])

-- an object alone on the bass feed; its send stays without a block, and ends with one
abbrev pub sent_alone : Row
sent_alone =
    as_row
    (of_object (spoilt 239 63 (update 0 [] 1 (at_once 0 (gain 0x3f000000 (at 0x3dcccccd 0x3e4ccccd 0x3dcccccd) ∷ []) ∷ [])) ∷ []) ⇒ ready []
    ∷ of_object [] ⇒ ready []
    ∷ of_object (update 0 [] 1 (at_once 0 (gain 0x3f000000 (at 0x3dcccccd 0x3e4ccccd 0x3dcccccd) ∷ []) ∷ []) ∷ []) ⇒ ready []
    ∷ flush_at 64 ⇒ ready ((0x3e92c43e ∷ 0 ∷ 0 ∷ 0x36ffe85f ∷ 0 ∷ 0 ∷ 0x3e292ec5 ∷ 0x3d6193b1 ∷ 0x3dd93924 ∷ 0x3d10d0c2 ∷ 0 ∷ 0 ∷ []) ∷
    (0x3e92c43e ∷ 0 ∷ 0 ∷ 0x381f3b53 ∷ 0 ∷ 0 ∷ 0x3e292ec5 ∷ 0x3d6193b1 ∷ 0x3dd93924 ∷ 0x3d10d0c2 ∷ 0 ∷ 0 ∷ []) ∷
    (0x3e92c43e ∷ 0 ∷ 0 ∷ 0x38bdcd94 ∷ 0 ∷ 0 ∷ 0x3e292ec5 ∷ 0x3d6193b1 ∷ 0x3dd93924 ∷ 0x3d10d0c2 ∷ 0 ∷ 0 ∷ []) ∷ [])
    ∷ [])

-- gain x send is rounded, then sample x that
abbrev pub sent_rounded : Row
sent_rounded =
    as_row
    (sent 1 [] 1 (0x3f333333 ∷ []) (spoilt 239 63 (spoilt 238 64 (update 0 [] 1 (at_once 0 (at 0x3dcccccd 0x3e4ccccd 0x3dcccccd ∷ []) ∷ []))) ∷ []) ⇒ ready []
    ∷ flush_at 64 ⇒ ready ((0x3ef454ed ∷ 0 ∷ 0 ∷ 0x37bdf91c ∷ 0 ∷ 0 ∷ 0x3e8cd31d ∷ 0x3dbbc425 ∷ 0x3e34d00d ∷ 0x3d711567 ∷ 0 ∷ 0 ∷ []) ∷ [])
    ∷ [])

-- a bass bed and an object, the bed's own send without effect; other objects start at 0
abbrev pub sent_with_a_bed : Row
sent_with_a_bed =
    as_row
    (sent 1 (3 ∷ []) 1 (0x3e800000 ∷ 0x3f000000 ∷ []) (spoilt 319 63 (spoilt 318 64 (spoilt 239 63 (spoilt 238 128 (update 0 (3 ∷ []) 1 (at_once 0 (object ∷
    at 0x3dcccccd 0x3e4ccccd 0x3dcccccd ∷ []) ∷ []))))) ∷ []) ⇒ ready []
    ∷ sent 1 [] 2 (0x3f000000 ∷ 0x3e800000 ∷ []) (update 0 [] 2 [] ∷ []) ⇒ ready []
    ∷ flush_at 64 ⇒ ready ((0x3eae85ce ∷ 0 ∷ 0 ∷ 0x37a44d56 ∷ 0 ∷ 0 ∷ 0x3e492d97 ∷ 0x3d861e64 ∷ 0x3e0126e5 ∷ 0x3d2c33dc ∷ 0 ∷ 0 ∷ []) ∷
    (0 ∷ 0 ∷ 0x3eb85aa6 ∷ 0x38a363c1 ∷ 0 ∷ 0 ∷ 0x3ebb6fc6 ∷ 0x3ebb6fc6 ∷ 0 ∷ 0 ∷ 0 ∷ 0 ∷ []) ∷ [])
    ∷ [])

-- an object behind two bass beds that cancel each other
abbrev pub sent_last : Row
sent_last =
    as_row
    (sent 1 (3 ∷ 17 ∷ []) 1 (0x41800000 ∷ 0xc1800000 ∷ 0x3a83126f ∷ []) (spoilt 399 63 (spoilt 398 128 (update 0 (3 ∷ 17 ∷ []) 1 (at_once 0 (object ∷ object ∷
    at 0x3dcccccd 0x3e4ccccd 0x3dcccccd ∷ []) ∷ []))) ∷ []) ⇒ ready []
    ∷ flush_at 64 ⇒ ready ((0x3a32b613 ∷ 0 ∷ 0 ∷ 0x333944dd ∷ 0 ∷ 0 ∷ 0x39ce01a1 ∷ 0x3909566b ∷ 0x39844068 ∷ 0x38b055e0 ∷ 0 ∷ 0 ∷ []) ∷ [])
    ∷ [])

-- an object becomes a bed, and then an object again: each time all start afresh, stored positions too
abbrev pub lifted : Row
lifted =
    as_row
    (sent 1 [] 2 (0x3f000000 ∷ 0 ∷ []) (update 0 [] 2 (at_once 129 (at 0x3f666666 0x3ecccccd 0x3f4ccccd ∷ object ∷ []) ∷ []) ∷ []) ⇒ ready []
    ∷ sent 1 (0 ∷ []) 1 (0 ∷ 0x3f000000 ∷ []) (update 0 (0 ∷ []) 1 (element (block_from 0 0 ∷ block_from 5 0 ∷ []) (object ∷ at 0x3f666666 0x3ecccccd 0x3f4ccccd ∷ object ∷
    object ∷ []) ∷ []) ∷ []) ⇒ ready []
    ∷ sent 1 [] 2 (0x3f000000 ∷ 0x3e800000 ∷ []) (update 0 [] 2 (at_once 0 (valid_position object ∷ at 0x3dcccccd 0x3e4ccccd 0x3dcccccd ∷ []) ∷ []) ∷ []) ⇒ ready []
    ∷ flush_at 64 ⇒ ready ((0 ∷ 0x3e02b16e ∷ 0 ∷ 0 ∷ 0 ∷ 0 ∷ 0x3d32d332 ∷ 0x3e061e64 ∷ 0x3ddb03d6 ∷ 0x3ea442df ∷ 0 ∷ 0x3e285fb9 ∷ []) ∷
    (0 ∷ 0 ∷ 0x3e75ce32 ∷ 0 ∷ 0 ∷ 0 ∷ 0x3e79ea5d ∷ 0x3e79ea5d ∷ 0 ∷ 0 ∷ 0 ∷ 0 ∷ []) ∷
    (0x3f1741de ∷ 0 ∷ 0 ∷ 0 ∷ 0 ∷ 0 ∷ 0x3dc92d97 ∷ 0x3d061e64 ∷ 0x3d8126e5 ∷ 0x3cac33dc ∷ 0 ∷ 0 ∷ []) ∷ [])
    ∷ [])

abbrev pub updates : List Row
updates =
    offset_0 ∷ new_slot ∷ mid_frame ∷ leading_silence ∷ dropped ∷ in_order ∷ two_elements ∷ below_0 ∷ differences ∷ another_number ∷ kept_element ∷ no_flag ∷ new_element ∷
    sent_alone ∷ sent_rounded ∷ sent_with_a_bed ∷ sent_last ∷ lifted ∷ []

-- ---- slots

-- an object that is heard elsewhere from the second slot on
abbrev pub second_slot : Row
second_slot =
    as_row
    (sent_by 192 48000 65 [] 1 (0x3f000000 ∷ quiet 62 ++ 0x3f000000 ∷ 0x3f000000 ∷ []) (update 0 [] 1 (element (block_from 0 0 ∷ [])
    (at 0x3f666666 0x3ecccccd 0x3f4ccccd ∷ []) ∷ []) ∷ []) ⇒ ready ((0 ∷ 0 ∷ 0x3e75ce32 ∷ 0 ∷ 0 ∷ 0 ∷ 0x3e79ea5d ∷ 0x3e79ea5d ∷ 0 ∷ 0 ∷ 0 ∷ 0 ∷ []) ∷ silence 62 ++
    (0 ∷ 0 ∷ 0x3e75ce32 ∷ 0 ∷ 0 ∷ 0 ∷ 0x3e79ea5d ∷ 0x3e79ea5d ∷ 0 ∷ 0 ∷ 0 ∷ 0 ∷ []) ∷ [])
    ∷ flush_at 64 ⇒ ready ((0 ∷ 0x3e02b16e ∷ 0 ∷ 0 ∷ 0 ∷ 0 ∷ 0x3d32d332 ∷ 0x3e061e64 ∷ 0x3ddb03d6 ∷ 0x3ea442df ∷ 0 ∷ 0x3e285fb9 ∷ []) ∷ [])
    ∷ [])

-- a ramp over slots: half of the way at 64, the rest at 128
abbrev pub ramp : Row
ramp =
    as_row
    (sent_by 192 48000 129 [] 1 (0x3f000000 ∷ quiet 63 ++ 0x3f000000 ∷ quiet 63 ++ 0x3f000000 ∷ [])
    (update 0 [] 1 (element (block_from 0 0 ∷ block_from (minus 1) 0 ∷ block_from 10 182 ∷ []) (object ∷ at 0x3dcccccd 0x3e4ccccd 0x3dcccccd ∷
    at 0x3f666666 0x3ecccccd 0x3f4ccccd ∷ []) ∷ []) ∷ []) ⇒ ready ((0x3eae85ce ∷ 0 ∷ 0 ∷ 0 ∷ 0 ∷ 0 ∷ 0x3e492d97 ∷ 0x3d861e64 ∷ 0x3e0126e5 ∷ 0x3d2c33dc ∷ 0 ∷ 0 ∷ []) ∷ silence 63 ++
    (0x38766634 ∷ 0 ∷ 0x3e766634 ∷ 0 ∷ 0 ∷ 0 ∷ 0x3e0f90c6 ∷ 0x3e0f90c6 ∷ 0x3e465d40 ∷ 0x3e465d3f ∷ 0x3d41ff3b ∷ 0x3d41ff3b ∷ []) ∷ silence 63)
    ∷ flush_at 64 ⇒ ready ((0 ∷ 0x3e02b16e ∷ 0 ∷ 0 ∷ 0 ∷ 0 ∷ 0x3d32d332 ∷ 0x3e061e64 ∷ 0x3ddb03d6 ∷ 0x3ea442df ∷ 0 ∷ 0x3e285fb9 ∷ []) ∷ [])
    ∷ [])

abbrev pub slots : List Row
slots =
    second_slot ∷ ramp ∷ []

-- ---- halls

-- 15: a layout code above 3; the renderer stays as it was
abbrev pub no_layout : Row
no_layout =
    as_row
    (of_bed (bed (0 ∷ []) ∷ []) ⇒ ready []
    ∷ make 4 ⇒ refusal 15 0 0
    ∷ make 4294967295 ⇒ refusal 15 0 0
    ∷ flush_at 64 ⇒ ready (only 0 0x3eb4fdf4 ∷ [])
    ∷ [])

-- a making call starts anew: nothing waits, and any rate is the first
abbrev pub made_again : Row
made_again =
    as_row
    (of_bed (bed (0 ∷ []) ∷ []) ⇒ ready []
    ∷ make 0 ⇒ renewed
    ∷ flush_at 64 ⇒ none
    ∷ sent_by 64 96000 1 (0 ∷ []) 0 (0x3f000000 ∷ []) (bed (0 ∷ []) ∷ []) ⇒ ready []
    ∷ [])

-- a reset keeps the layout: beds whose speakers are absent, before and after
abbrev pub same_layout : Row
same_layout =
    as_row
    (make 3 ⇒ renewed
    ∷ sent 6 (7 ∷ 8 ∷ 9 ∷ 10 ∷ 13 ∷ 14 ∷ []) 0 (diagonal_words 6 0x3f000000) (bed (7 ∷ 8 ∷ 9 ∷ 10 ∷ 13 ∷ 14 ∷ []) ∷ []) ⇒ ready []
    ∷ reset ⇒ renewed
    ∷ sent 6 (7 ∷ 8 ∷ 9 ∷ 10 ∷ 13 ∷ 14 ∷ []) 0 (diagonal_words 6 0x3f000000) (bed (7 ∷ 8 ∷ 9 ∷ 10 ∷ 13 ∷ 14 ∷ []) ∷ []) ⇒ ready []
    ∷ flush_at 64 ⇒ ready (only 6 0x3ed740d4 ∷ only 7 0x3ed740d4 ∷ only 0 0x3ed740d4 ∷ only 1 0x3ed740d4 ∷ only 6 0x3ed740d4 ∷ only 7 0x3ed740d4 ∷ [])
    ∷ [])

-- each bed that has no speaker is panned, the others are not
abbrev pub lacked_beds : Row
lacked_beds =
    as_row
    (make 1 ⇒ renewed
    ∷ sent 6 (7 ∷ 8 ∷ 9 ∷ 10 ∷ 13 ∷ 14 ∷ []) 0 (diagonal_words 6 0x3f000000) (bed (7 ∷ 8 ∷ 9 ∷ 10 ∷ 13 ∷ 14 ∷ []) ∷ []) ⇒ ready []
    ∷ flush_at 64 ⇒ ready (only 6 0x3ed740d4 ∷ only 7 0x3ed740d4 ∷ only 8 0x3eb4fdf4 ∷ only 9 0x3eb4fdf4 ∷ only 10 0x3eb4fdf4 ∷ only 11 0x3eb4fdf4 ∷ [])
    ∷ make 2 ⇒ renewed
    ∷ sent 6 (7 ∷ 8 ∷ 9 ∷ 10 ∷ 13 ∷ 14 ∷ []) 0 (diagonal_words 6 0x3f000000) (bed (7 ∷ 8 ∷ 9 ∷ 10 ∷ 13 ∷ 14 ∷ []) ∷ []) ⇒ ready []
    ∷ flush_at 64 ⇒ ready (only 4 0x3eb4fdf4 ∷ only 5 0x3eb4fdf4 ∷ only 0 0x3ed740d4 ∷ only 1 0x3ed740d4 ∷ only 4 0x3ed740d4 ∷ only 5 0x3ed740d4 ∷ [])
    ∷ [])

-- all beds at once in each layout
abbrev pub beds_together : Row
beds_together =
    as_row
    (make 1 ⇒ renewed
    ∷ sent 1 (0 ∷ 1 ∷ 2 ∷ 3 ∷ 4 ∷ 5 ∷ 7 ∷ 8 ∷ 9 ∷ 10 ∷ 11 ∷ 12 ∷ 13 ∷ 14 ∷ 15 ∷ 16 ∷ 17 ∷ []) 0 (0x3d000000 ∷ 0x3d800000 ∷ 0x3dc00000 ∷ 0x3e000000 ∷ 0x3e200000 ∷ 0x3e400000 ∷
    0x3e600000 ∷ 0x3e800000 ∷ 0x3e900000 ∷ 0x3ea00000 ∷ 0x3eb00000 ∷ 0x3ec00000 ∷ 0x3ed00000 ∷ 0x3ee00000 ∷ 0x3ef00000 ∷ 0x3f000000 ∷ 0x3f080000 ∷ [])
    (bed (0 ∷ 1 ∷ 2 ∷ 3 ∷ 4 ∷ 5 ∷ 7 ∷ 8 ∷ 9 ∷ 10 ∷ 11 ∷ 12 ∷ 13 ∷ 14 ∷ 15 ∷ 16 ∷ 17 ∷ []) ∷ []) ⇒ ready []
    ∷ flush_at 64 ⇒ ready ((0x3ebdd4e2 ∷ 0x3ed50b7e ∷ 0x3d87be77 ∷ 0x37162fd9 ∷ 0 ∷ 0 ∷ 0x3ef4d42c ∷ 0x3f09eeff ∷ 0x3edf4d07 ∷ 0x3ef5a860 ∷ 0x3ee78d37 ∷ 0x3efa8b89 ∷ []) ∷ [])
    ∷ make 2 ⇒ renewed
    ∷ sent 1 (0 ∷ 1 ∷ 2 ∷ 3 ∷ 4 ∷ 5 ∷ 7 ∷ 8 ∷ 9 ∷ 10 ∷ 11 ∷ 12 ∷ 13 ∷ 14 ∷ 15 ∷ 16 ∷ 17 ∷ []) 0 (0x3d000000 ∷ 0x3d800000 ∷ 0x3dc00000 ∷ 0x3e000000 ∷ 0x3e200000 ∷ 0x3e400000 ∷
    0x3e600000 ∷ 0x3e800000 ∷ 0x3e900000 ∷ 0x3ea00000 ∷ 0x3eb00000 ∷ 0x3ec00000 ∷ 0x3ed00000 ∷ 0x3ee00000 ∷ 0x3ef00000 ∷ 0x3f000000 ∷ 0x3f080000 ∷ [])
    (bed (0 ∷ 1 ∷ 2 ∷ 3 ∷ 4 ∷ 5 ∷ 7 ∷ 8 ∷ 9 ∷ 10 ∷ 11 ∷ 12 ∷ 13 ∷ 14 ∷ 15 ∷ 16 ∷ 17 ∷ []) ∷ []) ⇒ ready []
    ∷ flush_at 64 ⇒ ready ((0x3f45b41d ∷ 0x3f5be0aa ∷ 0x3d87be77 ∷ 0x37162fd9 ∷ 0x3efe13c7 ∷ 0x3f0b6bda ∷ 0x3f0812fe ∷ 0x3f16639d ∷ 0 ∷ 0 ∷ 0 ∷ 0 ∷ []) ∷ [])
    ∷ make 3 ⇒ renewed
    ∷ sent 1 (0 ∷ 1 ∷ 2 ∷ 3 ∷ 4 ∷ 5 ∷ 7 ∷ 8 ∷ 9 ∷ 10 ∷ 11 ∷ 12 ∷ 13 ∷ 14 ∷ 15 ∷ 16 ∷ 17 ∷ []) 0 (0x3d000000 ∷ 0x3d800000 ∷ 0x3dc00000 ∷ 0x3e000000 ∷ 0x3e200000 ∷ 0x3e400000 ∷
    0x3e600000 ∷ 0x3e800000 ∷ 0x3e900000 ∷ 0x3ea00000 ∷ 0x3eb00000 ∷ 0x3ec00000 ∷ 0x3ed00000 ∷ 0x3ee00000 ∷ 0x3ef00000 ∷ 0x3f000000 ∷ 0x3f080000 ∷ [])
    (bed (0 ∷ 1 ∷ 2 ∷ 3 ∷ 4 ∷ 5 ∷ 7 ∷ 8 ∷ 9 ∷ 10 ∷ 11 ∷ 12 ∷ 13 ∷ 14 ∷ 15 ∷ 16 ∷ 17 ∷ []) ∷ []) ⇒ ready []
    ∷ flush_at 64 ⇒ ready ((0x3f18a9b3 ∷ 0x3f29c906 ∷ 0x3d51a347 ∷ 0x36e7f160 ∷ 0 ∷ 0 ∷ 0x3f50f538 ∷ 0x3f666666 ∷ 0 ∷ 0 ∷ 0 ∷ 0 ∷ []) ∷ [])
    ∷ [])

-- low and high objects in each layout, and sizes, one alone after another
abbrev pub hall_objects : Row
hall_objects =
    as_row
    (make 1 ⇒ renewed
    ∷ sent 4 [] 4 (diagonal_words 4 0x3f000000) (update 0 [] 4 (at_once 0 (at 0x3e99999a 0x3ecccccd 0x3e4ccccd ∷ at 0x3e4ccccd 0x3f666666 0x3f333333 ∷
    with_size 0x3e800000 (at 0x3e99999a 0x3ecccccd 0x3e4ccccd) ∷ with_size 0x3f800000 (gain 0x3f000000 (at 0x3f666666 0x3ecccccd 0x3f4ccccd)) ∷ []) ∷ []) ∷ []) ⇒ ready []
    ∷ flush_at 64 ⇒ ready ((0x3e44980c ∷ 0 ∷ 0x3e2c429a ∷ 0 ∷ 0 ∷ 0 ∷ 0x3e6c902d ∷ 0x3e1addf2 ∷ 0x3e10dd62 ∷ 0x3dbdac2b ∷ 0x3d94f97b ∷ 0x3d1cecca ∷ []) ∷
    (0 ∷ 0 ∷ 0 ∷ 0 ∷ 0 ∷ 0 ∷ 0x3e52e77c ∷ 0x3dd2e77c ∷ 0x3dec902f ∷ 0x3d6c902f ∷ 0x3ea10c46 ∷ 0x3db8672e ∷ []) ∷
    (0x3e637d72 ∷ 0x3d64f054 ∷ 0x3e4e6a97 ∷ 0 ∷ 0 ∷ 0 ∷ 0x3e830d5e ∷ 0x3e3f5a7a ∷ 0x3e36b0f7 ∷ 0x3e0b5d84 ∷ 0x3df37c31 ∷ 0x3db66b7e ∷ []) ∷
    (0x3da1e89b ∷ 0x3da1e89b ∷ 0x3da1e89b ∷ 0 ∷ 0 ∷ 0 ∷ 0x3da1e89b ∷ 0x3da1e89b ∷ 0x3da1e89b ∷ 0x3da1e89b ∷ 0x3da1e89b ∷ 0x3da1e89b ∷ []) ∷ [])
    ∷ make 2 ⇒ renewed
    ∷ sent 4 [] 4 (diagonal_words 4 0x3f000000) (update 0 [] 4 (at_once 0 (at 0x3e99999a 0x3ecccccd 0x3e4ccccd ∷ at 0x3e4ccccd 0x3f666666 0x3f333333 ∷
    with_size 0x3e800000 (at 0x3e99999a 0x3ecccccd 0x3e4ccccd) ∷ with_size 0x3f800000 (gain 0x3f000000 (at 0x3f666666 0x3ecccccd 0x3f4ccccd)) ∷ []) ∷ []) ∷ []) ⇒ ready []
    ∷ flush_at 64 ⇒ ready ((0x3e5bcc76 ∷ 0 ∷ 0x3e4097bb ∷ 0 ∷ 0 ∷ 0 ∷ 0x3e843e2b ∷ 0x3e2d2583 ∷ 0 ∷ 0 ∷ 0 ∷ 0 ∷ []) ∷
    (0 ∷ 0 ∷ 0 ∷ 0 ∷ 0x3ea1f9b2 ∷ 0x3db97707 ∷ 0x3e6fa75e ∷ 0x3defa75d ∷ 0 ∷ 0 ∷ 0 ∷ 0 ∷ []) ∷
    (0x3e7e5772 ∷ 0x3d7ff61b ∷ 0x3e66c7d0 ∷ 0 ∷ 0x3d7ff61b ∷ 0x3d7ff61b ∷ 0x3e928555 ∷ 0x3e55f08c ∷ 0 ∷ 0 ∷ 0 ∷ 0 ∷ []) ∷
    (0x3db504f3 ∷ 0x3db504f3 ∷ 0x3db504f3 ∷ 0 ∷ 0x3db504f3 ∷ 0x3db504f3 ∷ 0x3db504f3 ∷ 0x3db504f3 ∷ 0 ∷ 0 ∷ 0 ∷ 0 ∷ []) ∷ [])
    ∷ make 3 ⇒ renewed
    ∷ sent 4 [] 4 (diagonal_words 4 0x3f000000) (update 0 [] 4 (at_once 0 (at 0x3e99999a 0x3ecccccd 0x3e4ccccd ∷ at 0x3e4ccccd 0x3f666666 0x3f333333 ∷
    with_size 0x3e800000 (at 0x3e99999a 0x3ecccccd 0x3e4ccccd) ∷ with_size 0x3f800000 (gain 0x3f000000 (at 0x3f666666 0x3ecccccd 0x3f4ccccd)) ∷ []) ∷ []) ∷ []) ⇒ ready []
    ∷ flush_at 64 ⇒ ready ((0x3e5bcc76 ∷ 0 ∷ 0x3e4097bb ∷ 0 ∷ 0 ∷ 0 ∷ 0x3e843e2b ∷ 0x3e2d2583 ∷ 0 ∷ 0 ∷ 0 ∷ 0 ∷ []) ∷
    (0 ∷ 0 ∷ 0 ∷ 0 ∷ 0 ∷ 0 ∷ 0x3ec08742 ∷ 0x3e408741 ∷ 0 ∷ 0 ∷ 0 ∷ 0 ∷ []) ∷ (0x3e841ed6 ∷ 0x3d93c784 ∷ 0x3e70ae0b ∷ 0 ∷ 0 ∷ 0 ∷ 0x3e977872 ∷ 0x3e5fd6c7 ∷ 0 ∷ 0 ∷ 0 ∷ 0 ∷ []) ∷
    (0x3dd105ec ∷ 0x3dd105ec ∷ 0x3dd105ec ∷ 0 ∷ 0 ∷ 0 ∷ 0x3dd105ec ∷ 0x3dd105ec ∷ 0 ∷ 0 ∷ 0 ∷ 0 ∷ []) ∷ [])
    ∷ [])

abbrev pub halls : List Row
halls =
    no_layout ∷ made_again ∷ same_layout ∷ lacked_beds ∷ beds_together ∷ hall_objects ∷ []

-- ---- tables

-- 16, 17 and 18, behind 15; the renderer stays as it was
abbrev pub no_table : Row
no_table =
    as_row
    (of_bed (bed (0 ∷ []) ∷ []) ⇒ ready []
    ∷ make_with 4 (words (0xbf800000 ∷ [])) ⇒ refusal 15 0 0
    ∷ make_with 0 (words (0xbf800000 ∷ 0xbf800000 ∷ 0x3f800000 ∷ 0x3f800000 ∷ 0xbf800000 ∷ 0x3f800000 ∷ 0 ∷ 0xbf800000 ∷ 0x3f800000 ∷ 0 ∷ 0xbf800000 ∷ 0x3f800000 ∷ 0xbf800000 ∷
    0xbf800000 ∷ 0xbf800000 ∷ 0x3f800000 ∷ 0xbf800000 ∷ 0xbf800000 ∷ 0xbf800000 ∷ 0xbf800000 ∷ 0 ∷ 0x3f800000 ∷ 0xbf800000 ∷ 0 ∷ 0xbf800000 ∷ 0 ∷ 0 ∷ 0x3f800000 ∷ 0 ∷ 0 ∷
    0xbf800000 ∷ 0x3f800000 ∷ 0 ∷ 0x3f800000 ∷ 0x3f800000 ∷ [])) ⇒ refusal 16 0 0
    ∷ make_with 0 (words (0xbf800000 ∷ 0xbf800000 ∷ 0x3f800000 ∷ 0x3f800000 ∷ 0xbf800000 ∷ 0x3f800000 ∷ 0 ∷ 0xbf800000 ∷ 0x3f800000 ∷ 0 ∷ 0xbf800000 ∷ 0x3f800000 ∷ 0xbf800000 ∷
    0xbf800000 ∷ 0xbf800000 ∷ 0x3f800000 ∷ 0xbf800000 ∷ 0xbf800000 ∷ 0xbf800000 ∷ 0xbf800000 ∷ 0 ∷ 0x3f800000 ∷ 0xbf800000 ∷ 0 ∷ 0xbf800000 ∷ 0 ∷ 0 ∷ 0x3f800000 ∷ 0 ∷ 0 ∷
    0xbf800000 ∷ 0x3f800000 ∷ 0 ∷ 0x3f800000 ∷ 0x3f800000 ∷ 0 ∷ 0 ∷ [])) ⇒ refusal 16 0 0
    ∷ make_with 3 (words (0xbf800000 ∷ 0xbf800000 ∷ 0x3f800000 ∷ 0x3f800000 ∷ 0xbf800000 ∷ 0x3f800000 ∷ 0 ∷ 0xbf800000 ∷ 0x3f800000 ∷ 0 ∷ 0 ∷ 0x3fc00000 ∷ 0xbf800000 ∷ 0xbf800000 ∷
    0xbf800000 ∷ 0x3f800000 ∷ 0xbf800000 ∷ 0xbf800000 ∷ 0xbf800000 ∷ 0xbf800000 ∷ 0 ∷ 0x3f800000 ∷ 0xbf800000 ∷ 0 ∷ 0xbf800000 ∷ 0 ∷ 0 ∷ 0x3f800000 ∷ 0 ∷ 0 ∷ 0xbf800000 ∷
    0x3f800000 ∷ 0 ∷ 0xbf800000 ∷ 0x3f800000 ∷ 0x80000000 ∷ [])) ⇒ refusal 17 0 0
    ∷ make_with 3 (words (0xbf800000 ∷ 0xbf800000 ∷ 0x3f800000 ∷ 0x3f800000 ∷ 0xbf800000 ∷ 0x3f800000 ∷ 0 ∷ 0xbf800000 ∷ 0x3f800000 ∷ 0 ∷ 0xbf800000 ∷ 0x3f800000 ∷ 0xbf800000 ∷
    0xbf800000 ∷ 0xbf800000 ∷ 0x3f800000 ∷ 0xbf800000 ∷ 0xbf800000 ∷ 0xbf800000 ∷ 0xbf800000 ∷ 0 ∷ 0x3f800000 ∷ 0xbf800000 ∷ 0 ∷ 0xbf800000 ∷ 0 ∷ 0 ∷ 0x3f800000 ∷ 0 ∷ 0 ∷
    0xbf800000 ∷ 0x3f800000 ∷ 0 ∷ 0xbf800000 ∷ 0x3f800000 ∷ 0x80000000 ∷ [])) ⇒ refusal 18 0 0
    ∷ flush_at 64 ⇒ ready (only 0 0x3eb4fdf4 ∷ [])
    ∷ [])

-- low and high objects, and sizes, in a hall of three heights, with the rear pair and without it
abbrev pub own_table : Row
own_table =
    as_row
    (make_with 0 (words (0xbf800000 ∷ 0xbf800000 ∷ 0x3f800000 ∷ 0x3f800000 ∷ 0xbf800000 ∷ 0x3f800000 ∷ 0 ∷ 0xbf800000 ∷ 0x3f800000 ∷ 0 ∷ 0xbf800000 ∷ 0x3f800000 ∷ 0xbf800000 ∷
    0xbf800000 ∷ 0xbf800000 ∷ 0x3f800000 ∷ 0xbf800000 ∷ 0xbf800000 ∷ 0xbf800000 ∷ 0xbf800000 ∷ 0 ∷ 0x3f800000 ∷ 0xbf800000 ∷ 0 ∷ 0xbf800000 ∷ 0 ∷ 0 ∷ 0x3f800000 ∷ 0 ∷ 0 ∷
    0xbf800000 ∷ 0x3f800000 ∷ 0 ∷ 0x3f800000 ∷ 0x3f800000 ∷ 0 ∷ [])) ⇒ renewed
    ∷ sent 4 [] 4 (diagonal_words 4 0x3f000000) (update 0 [] 4 (at_once 0 (at 0x3e99999a 0x3ecccccd 0x3e4ccccd ∷ at 0x3e4ccccd 0x3f666666 0x3f333333 ∷
    with_size 0x3e800000 (at 0x3e99999a 0x3ecccccd 0x3e4ccccd) ∷ with_size 0x3f800000 (gain 0x3f000000 (at 0x3f666666 0x3ecccccd 0x3f4ccccd)) ∷ []) ∷ []) ∷ []) ⇒ ready []
    ∷ flush_at 64 ⇒ ready ((0 ∷ 0 ∷ 0 ∷ 0 ∷ 0 ∷ 0 ∷ 0 ∷ 0 ∷ 0x3ea114ad ∷ 0x3e52e77c ∷ 0x3e2114ad ∷ 0x3dd2e77c ∷ []) ∷
    (0 ∷ 0 ∷ 0 ∷ 0 ∷ 0 ∷ 0 ∷ 0 ∷ 0 ∷ 0x3e52e77c ∷ 0x3dd2e77c ∷ 0x3ea114ad ∷ 0x3e2114ad ∷ []) ∷
    (0x3d50fdd7 ∷ 0x3d50fdd7 ∷ 0x3d50fdd7 ∷ 0 ∷ 0x3d50fdd7 ∷ 0x3d50fdd7 ∷ 0x3d50fdd7 ∷ 0x3d50fdd7 ∷ 0x3ea59fbe ∷ 0x3e6ae576 ∷ 0x3e3fbf79 ∷ 0x3e0f9276 ∷ []) ∷
    (0x3d93cd3a ∷ 0x3d93cd3a ∷ 0x3d93cd3a ∷ 0 ∷ 0x3d93cd3a ∷ 0x3d93cd3a ∷ 0x3d93cd3a ∷ 0x3d93cd3a ∷ 0x3d93cd3a ∷ 0x3d93cd3a ∷ 0x3d93cd3a ∷ 0x3d93cd3a ∷ []) ∷ [])
    ∷ make_with 1 (words (0xbf800000 ∷ 0xbf800000 ∷ 0x3f800000 ∷ 0x3f800000 ∷ 0xbf800000 ∷ 0x3f800000 ∷ 0 ∷ 0xbf800000 ∷ 0x3f800000 ∷ 0 ∷ 0xbf800000 ∷ 0x3f800000 ∷ 0xbf800000 ∷
    0xbf800000 ∷ 0xbf800000 ∷ 0x3f800000 ∷ 0xbf800000 ∷ 0xbf800000 ∷ 0xbf800000 ∷ 0xbf800000 ∷ 0 ∷ 0x3f800000 ∷ 0xbf800000 ∷ 0 ∷ 0xbf800000 ∷ 0 ∷ 0 ∷ 0x3f800000 ∷ 0 ∷ 0 ∷
    0xbf800000 ∷ 0x3f800000 ∷ 0 ∷ 0x3f800000 ∷ 0x3f800000 ∷ 0 ∷ [])) ⇒ renewed
    ∷ sent 4 [] 4 (diagonal_words 4 0x3f000000) (update 0 [] 4 (at_once 0 (at 0x3e99999a 0x3ecccccd 0x3e4ccccd ∷ at 0x3e4ccccd 0x3f666666 0x3f333333 ∷
    with_size 0x3e800000 (at 0x3e99999a 0x3ecccccd 0x3e4ccccd) ∷ with_size 0x3f800000 (gain 0x3f000000 (at 0x3f666666 0x3ecccccd 0x3f4ccccd)) ∷ []) ∷ []) ∷ []) ⇒ ready []
    ∷ flush_at 64 ⇒ ready ((0 ∷ 0 ∷ 0 ∷ 0 ∷ 0 ∷ 0 ∷ 0 ∷ 0 ∷ 0x3ea114ad ∷ 0x3e52e77c ∷ 0x3e2114ad ∷ 0x3dd2e77c ∷ []) ∷
    (0 ∷ 0 ∷ 0 ∷ 0 ∷ 0 ∷ 0 ∷ 0 ∷ 0 ∷ 0x3e52e77c ∷ 0x3dd2e77c ∷ 0x3ea114ad ∷ 0x3e2114ad ∷ []) ∷
    (0x3d64f054 ∷ 0x3d64f054 ∷ 0x3d64f054 ∷ 0 ∷ 0 ∷ 0 ∷ 0x3d64f054 ∷ 0x3d64f054 ∷ 0x3ea81e0e ∷ 0x3e6fe215 ∷ 0x3e44bc18 ∷ 0x3e148f15 ∷ []) ∷
    (0x3da1e89b ∷ 0x3da1e89b ∷ 0x3da1e89b ∷ 0 ∷ 0 ∷ 0 ∷ 0x3da1e89b ∷ 0x3da1e89b ∷ 0x3da1e89b ∷ 0x3da1e89b ∷ 0x3da1e89b ∷ 0x3da1e89b ∷ []) ∷ [])
    ∷ [])

-- the same where no two speakers have one height
abbrev pub any_heights : Row
any_heights =
    as_row
    (make_with 0 (words (0xbf333333 ∷ 0xbdcccccd ∷ 0x3f733333 ∷ 0x3f3851ec ∷ 0xbd4ccccd ∷ 0x3f666666 ∷ 0 ∷ 0x3dcccccd ∷ 0x3f800000 ∷ 0x3e99999a ∷ 0xbf666666 ∷ 0x3f4ccccd ∷
    0xbf19999a ∷ 0x3d4ccccd ∷ 0xbf666666 ∷ 0x3f266666 ∷ 0 ∷ 0xbf733333 ∷ 0xbf733333 ∷ 0x3e19999a ∷ 0xbe99999a ∷ 0x3f800000 ∷ 0x3e4ccccd ∷ 0xbe800000 ∷ 0xbf4ccccd ∷ 0x3f666666 ∷
    0x3ecccccd ∷ 0x3f59999a ∷ 0x3f733333 ∷ 0x3f000000 ∷ 0xbf333333 ∷ 0x3f59999a ∷ 0xbf4ccccd ∷ 0x3f400000 ∷ 0x3f800000 ∷ 0xbf333333 ∷ [])) ⇒ renewed
    ∷ sent 4 [] 4 (diagonal_words 4 0x3f000000) (update 0 [] 4 (at_once 0 (at 0x3e99999a 0x3ecccccd 0x3e4ccccd ∷ at 0x3e4ccccd 0x3f666666 0x3f333333 ∷
    with_size 0x3e800000 (at 0x3e99999a 0x3ecccccd 0x3e4ccccd) ∷ with_size 0x3f800000 (gain 0x3f000000 (at 0x3f666666 0x3ecccccd 0x3f4ccccd)) ∷ []) ∷ []) ∷ []) ⇒ ready []
    ∷ flush_at 64 ⇒ ready (only 7 0x3ed740d4 ∷ (0 ∷ 0 ∷ 0 ∷ 0 ∷ 0 ∷ 0 ∷ 0 ∷ 0x3e4ecf03 ∷ 0 ∷ 0 ∷ 0x3ebcca21 ∷ 0 ∷ []) ∷
    (0x3d50fdd7 ∷ 0x3d50fdd7 ∷ 0x3d50fdd7 ∷ 0 ∷ 0x3d50fdd7 ∷ 0x3d50fdd7 ∷ 0x3d50fdd7 ∷ 0x3ed489e9 ∷ 0x3d50fdd7 ∷ 0x3d50fdd7 ∷ 0x3d50fdd7 ∷ 0x3d50fdd7 ∷ []) ∷
    (0x3d93cd3a ∷ 0x3d93cd3a ∷ 0x3d93cd3a ∷ 0 ∷ 0x3d93cd3a ∷ 0x3d93cd3a ∷ 0x3d93cd3a ∷ 0x3d93cd3a ∷ 0x3d93cd3a ∷ 0x3d93cd3a ∷ 0x3d93cd3a ∷ 0x3d93cd3a ∷ []) ∷ [])
    ∷ [])

-- a reset keeps the table: beds whose speakers are absent, before and after
abbrev pub same_table : Row
same_table =
    as_row
    (make_with 3 (words (0xbf333333 ∷ 0xbdcccccd ∷ 0x3f733333 ∷ 0x3f3851ec ∷ 0xbd4ccccd ∷ 0x3f666666 ∷ 0 ∷ 0x3dcccccd ∷ 0x3f800000 ∷ 0x3e99999a ∷ 0xbf666666 ∷ 0x3f4ccccd ∷
    0xbf19999a ∷ 0x3d4ccccd ∷ 0xbf666666 ∷ 0x3f266666 ∷ 0 ∷ 0xbf733333 ∷ 0xbf733333 ∷ 0x3e19999a ∷ 0xbe99999a ∷ 0x3f800000 ∷ 0x3e4ccccd ∷ 0xbe800000 ∷ 0xbf4ccccd ∷ 0x3f666666 ∷
    0x3ecccccd ∷ 0x3f59999a ∷ 0x3f733333 ∷ 0x3f000000 ∷ 0xbf333333 ∷ 0x3f59999a ∷ 0xbf4ccccd ∷ 0x3f400000 ∷ 0x3f800000 ∷ 0xbf333333 ∷ [])) ⇒ renewed
    ∷ sent 6 (7 ∷ 8 ∷ 9 ∷ 10 ∷ 13 ∷ 14 ∷ []) 0 (diagonal_words 6 0x3f000000) (bed (7 ∷ 8 ∷ 9 ∷ 10 ∷ 13 ∷ 14 ∷ []) ∷ []) ⇒ ready []
    ∷ reset ⇒ renewed
    ∷ sent 6 (7 ∷ 8 ∷ 9 ∷ 10 ∷ 13 ∷ 14 ∷ []) 0 (diagonal_words 6 0x3f000000) (bed (7 ∷ 8 ∷ 9 ∷ 10 ∷ 13 ∷ 14 ∷ []) ∷ []) ⇒ ready []
    ∷ flush_at 64 ⇒ ready ((0 ∷ 0x3eafc0e7 ∷ 0x3e788d92 ∷ 0 ∷ 0 ∷ 0 ∷ 0 ∷ 0 ∷ 0 ∷ 0 ∷ 0 ∷ 0 ∷ []) ∷ (0 ∷ 0x3eafc0e7 ∷ 0x3e788d92 ∷ 0 ∷ 0 ∷ 0 ∷ 0 ∷ 0 ∷ 0 ∷ 0 ∷ 0 ∷ 0 ∷ []) ∷
    only 7 0x3ed740d4 ∷ only 7 0x3ed740d4 ∷ only 7 0x3ed740d4 ∷ only 7 0x3ed740d4 ∷ [])
    ∷ [])

-- the built-in values loaded, and the built-in table: the same
abbrev pub built_in_again : Row
built_in_again =
    as_row
    (make_with 1 (words (0xbf3504f3 ∷ 0 ∷ 0x3f800000 ∷ 0x3f3504f3 ∷ 0 ∷ 0x3f800000 ∷ 0 ∷ 0 ∷ 0x3f800000 ∷ 0 ∷ 0 ∷ 0x3f800000 ∷ 0xbf3504f3 ∷ 0 ∷ 0xbf800000 ∷ 0x3f3504f3 ∷ 0 ∷
    0xbf800000 ∷ 0xbf800000 ∷ 0 ∷ 0xbef7a627 ∷ 0x3f800000 ∷ 0 ∷ 0xbef7a627 ∷ 0xbf800000 ∷ 0x3f800000 ∷ 0x3ef7a627 ∷ 0x3f800000 ∷ 0x3f800000 ∷ 0x3ef7a627 ∷ 0xbf3504f3 ∷ 0x3f800000 ∷
    0xbf800000 ∷ 0x3f3504f3 ∷ 0x3f800000 ∷ 0xbf800000 ∷ [])) ⇒ renewed
    ∷ sent 4 [] 4 (diagonal_words 4 0x3f000000) (update 0 [] 4 (at_once 0 (at 0x3e99999a 0x3ecccccd 0x3e4ccccd ∷ at 0x3e4ccccd 0x3f666666 0x3f333333 ∷
    with_size 0x3e800000 (at 0x3e99999a 0x3ecccccd 0x3e4ccccd) ∷ with_size 0x3f800000 (gain 0x3f000000 (at 0x3f666666 0x3ecccccd 0x3f4ccccd)) ∷ []) ∷ []) ∷ []) ⇒ ready []
    ∷ flush_at 64 ⇒ ready ((0x3e44980c ∷ 0 ∷ 0x3e2c429a ∷ 0 ∷ 0 ∷ 0 ∷ 0x3e6c902d ∷ 0x3e1addf2 ∷ 0x3e10dd62 ∷ 0x3dbdac2b ∷ 0x3d94f97b ∷ 0x3d1cecca ∷ []) ∷
    (0 ∷ 0 ∷ 0 ∷ 0 ∷ 0 ∷ 0 ∷ 0x3e52e77c ∷ 0x3dd2e77c ∷ 0x3dec902f ∷ 0x3d6c902f ∷ 0x3ea10c46 ∷ 0x3db8672e ∷ []) ∷
    (0x3e637d72 ∷ 0x3d64f054 ∷ 0x3e4e6a97 ∷ 0 ∷ 0 ∷ 0 ∷ 0x3e830d5e ∷ 0x3e3f5a7a ∷ 0x3e36b0f7 ∷ 0x3e0b5d84 ∷ 0x3df37c31 ∷ 0x3db66b7e ∷ []) ∷
    (0x3da1e89b ∷ 0x3da1e89b ∷ 0x3da1e89b ∷ 0 ∷ 0 ∷ 0 ∷ 0x3da1e89b ∷ 0x3da1e89b ∷ 0x3da1e89b ∷ 0x3da1e89b ∷ 0x3da1e89b ∷ 0x3da1e89b ∷ []) ∷ [])
    ∷ make 1 ⇒ renewed
    ∷ sent 4 [] 4 (diagonal_words 4 0x3f000000) (update 0 [] 4 (at_once 0 (at 0x3e99999a 0x3ecccccd 0x3e4ccccd ∷ at 0x3e4ccccd 0x3f666666 0x3f333333 ∷
    with_size 0x3e800000 (at 0x3e99999a 0x3ecccccd 0x3e4ccccd) ∷ with_size 0x3f800000 (gain 0x3f000000 (at 0x3f666666 0x3ecccccd 0x3f4ccccd)) ∷ []) ∷ []) ∷ []) ⇒ ready []
    ∷ flush_at 64 ⇒ ready ((0x3e44980c ∷ 0 ∷ 0x3e2c429a ∷ 0 ∷ 0 ∷ 0 ∷ 0x3e6c902d ∷ 0x3e1addf2 ∷ 0x3e10dd62 ∷ 0x3dbdac2b ∷ 0x3d94f97b ∷ 0x3d1cecca ∷ []) ∷
    (0 ∷ 0 ∷ 0 ∷ 0 ∷ 0 ∷ 0 ∷ 0x3e52e77c ∷ 0x3dd2e77c ∷ 0x3dec902f ∷ 0x3d6c902f ∷ 0x3ea10c46 ∷ 0x3db8672e ∷ []) ∷
    (0x3e637d72 ∷ 0x3d64f054 ∷ 0x3e4e6a97 ∷ 0 ∷ 0 ∷ 0 ∷ 0x3e830d5e ∷ 0x3e3f5a7a ∷ 0x3e36b0f7 ∷ 0x3e0b5d84 ∷ 0x3df37c31 ∷ 0x3db66b7e ∷ []) ∷
    (0x3da1e89b ∷ 0x3da1e89b ∷ 0x3da1e89b ∷ 0 ∷ 0 ∷ 0 ∷ 0x3da1e89b ∷ 0x3da1e89b ∷ 0x3da1e89b ∷ 0x3da1e89b ∷ 0x3da1e89b ∷ 0x3da1e89b ∷ []) ∷ [])
    ∷ [])

abbrev pub tables : List Row
tables =
    no_table ∷ own_table ∷ any_heights ∷ same_table ∷ built_in_again ∷ []

-- ---- hold_rows

-- held from the next slot on; a second hold says nothing new; released it goes on, half of the way left, with what remains of the ramp
abbrev pub held_and_released : Row
held_and_released =
    as_row
    (of_object (update 0 [] 1 (at_once 0 (gain 0x3f800000 (at 0 0 0) ∷ []) ∷ []) ∷ []) ⇒ ready []
    ∷ hold 0 ⇒ noted true
    ∷ hold 0 ⇒ noted false
    ∷ of_object (update 0 [] 1 (at_once 193 (at 0x3f800000 0 0 ∷ []) ∷ []) ∷ []) ⇒ ready []
    ∷ release 0 ⇒ noted true
    ∷ release 0 ⇒ noted false
    ∷ of_object (update 0 [] 1 (element (block_from 0 0 ∷ block_from 5 0 ∷ []) (object ∷ object ∷ []) ∷ []) ∷ []) ⇒ ready []
    ∷ flush_at 64 ⇒ ready (only 0 0x3f000000 ∷ only 0 0x3f000000 ∷ only 2 0x3f000000 ∷ [])
    ∷ [])

-- the same without the hold: a third of the way, and half of the rest
abbrev pub not_held : Row
not_held =
    as_row
    (of_object (update 0 [] 1 (at_once 0 (gain 0x3f800000 (at 0 0 0) ∷ []) ∷ []) ∷ []) ⇒ ready []
    ∷ of_object (update 0 [] 1 (at_once 193 (at 0x3f800000 0 0 ∷ []) ∷ []) ∷ []) ⇒ ready []
    ∷ of_object (update 0 [] 1 (element (block_from 0 0 ∷ block_from 5 0 ∷ []) (object ∷ object ∷ []) ∷ []) ∷ []) ⇒ ready []
    ∷ flush_at 64 ⇒ ready (only 0 0x3f000000 ∷ (0x3eafc44c ∷ 0 ∷ 0x3eba1fab ∷ 0 ∷ 0 ∷ 0 ∷ 0 ∷ 0 ∷ 0 ∷ 0 ∷ 0 ∷ 0 ∷ []) ∷
    (0 ∷ 0x3eafc44c ∷ 0x3eba1fab ∷ 0 ∷ 0 ∷ 0 ∷ 0 ∷ 0 ∷ 0 ∷ 0 ∷ 0 ∷ 0 ∷ []) ∷ [])
    ∷ [])

-- held it stays where no ramp is left, and where there is none; released it is at its target
abbrev pub held_past_the_ramp : Row
held_past_the_ramp =
    as_row
    (of_object (update 0 [] 1 (at_once 0 (gain 0x3f800000 (at 0 0 0) ∷ []) ∷ []) ∷ []) ⇒ ready []
    ∷ hold 0 ⇒ noted true
    ∷ of_object (update 0 [] 1 (at_once 65 (at 0x3f800000 0 0 ∷ []) ∷ []) ∷ []) ⇒ ready []
    ∷ of_object (update 0 [] 1 (element (block_from 0 0 ∷ block_from 5 0 ∷ []) (object ∷ object ∷ []) ∷ []) ∷ []) ⇒ ready []
    ∷ of_object (update 0 [] 1 (at_once 0 (at 0x3f800000 0 0 ∷ []) ∷ []) ∷ []) ⇒ ready []
    ∷ release 0 ⇒ noted true
    ∷ of_object (update 0 [] 1 (element (block_from 0 0 ∷ block_from 5 0 ∷ []) (object ∷ object ∷ []) ∷ []) ∷ []) ⇒ ready []
    ∷ flush_at 64 ⇒ ready (only 0 0x3f000000 ∷ only 0 0x3f000000 ∷ only 0 0x3f000000 ∷ only 0 0x3f000000 ∷ only 1 0x3f000000 ∷ [])
    ∷ [])

-- before one slot a release undoes a hold, and a hold a release
abbrev pub undone : Row
undone =
    as_row
    (of_object (update 0 [] 1 (at_once 0 (gain 0x3f800000 (at 0 0 0) ∷ []) ∷ []) ∷ []) ⇒ ready []
    ∷ hold 0 ⇒ noted true
    ∷ release 0 ⇒ noted true
    ∷ of_object (update 0 [] 1 (at_once 193 (at 0x3f800000 0 0 ∷ []) ∷ []) ∷ []) ⇒ ready []
    ∷ hold 0 ⇒ noted true
    ∷ of_object (update 0 [] 1 (element (block_from 0 0 ∷ block_from 5 0 ∷ []) (object ∷ object ∷ []) ∷ []) ∷ []) ⇒ ready []
    ∷ release 0 ⇒ noted true
    ∷ hold 0 ⇒ noted true
    ∷ of_object (update 0 [] 1 (element (block_from 0 0 ∷ block_from 5 0 ∷ []) (object ∷ object ∷ []) ∷ []) ∷ []) ⇒ ready []
    ∷ flush_at 64 ⇒ ready (only 0 0x3f000000 ∷ (0x3eafc44c ∷ 0 ∷ 0x3eba1fab ∷ 0 ∷ 0 ∷ 0 ∷ 0 ∷ 0 ∷ 0 ∷ 0 ∷ 0 ∷ 0 ∷ []) ∷
    (0x3eafc44c ∷ 0 ∷ 0x3eba1fab ∷ 0 ∷ 0 ∷ 0 ∷ 0 ∷ 0 ∷ 0 ∷ 0 ∷ 0 ∷ 0 ∷ []) ∷ (0x3eafc44c ∷ 0 ∷ 0x3eba1fab ∷ 0 ∷ 0 ∷ 0 ∷ 0 ∷ 0 ∷ 0 ∷ 0 ∷ 0 ∷ 0 ∷ []) ∷ [])
    ∷ [])

-- 24: before the first update, from the number of dynamic objects on
abbrev pub no_object : Row
no_object =
    as_row
    (hold 0 ⇒ refusal 24 0 0
    ∷ release 0 ⇒ refusal 24 0 0
    ∷ sent 1 (0 ∷ []) 1 (0 ∷ 0x3f000000 ∷ []) (update 0 (0 ∷ []) 1 [] ∷ []) ⇒ ready []
    ∷ hold 1 ⇒ refusal 24 0 0
    ∷ hold 4294967295 ⇒ refusal 24 0 0
    ∷ hold 0 ⇒ noted true
    ∷ release 1 ⇒ refusal 24 0 0
    ∷ [])

-- another number of objects, a reset and a making call end all holds
abbrev pub holds_end : Row
holds_end =
    as_row
    (of_object (update 0 [] 1 (at_once 0 (gain 0x3f800000 (at 0 0 0) ∷ []) ∷ []) ∷ []) ⇒ ready []
    ∷ hold 0 ⇒ noted true
    ∷ sent 1 [] 2 (0x3f000000 ∷ 0 ∷ []) (update 0 [] 2 [] ∷ []) ⇒ ready []
    ∷ release 0 ⇒ noted false
    ∷ hold 1 ⇒ noted true
    ∷ reset ⇒ renewed
    ∷ release 1 ⇒ refusal 24 0 0
    ∷ of_object (update 0 [] 1 (at_once 0 (gain 0x3f800000 (at 0 0 0) ∷ []) ∷ []) ∷ []) ⇒ ready []
    ∷ release 0 ⇒ noted false
    ∷ hold 0 ⇒ noted true
    ∷ make 0 ⇒ renewed
    ∷ of_object (update 0 [] 1 (at_once 0 (gain 0x3f800000 (at 0 0 0) ∷ []) ∷ []) ∷ []) ⇒ ready []
    ∷ release 0 ⇒ noted false
    ∷ [])

abbrev pub hold_rows : List Row
hold_rows =
    held_and_released ∷ not_held ∷ held_past_the_ramp ∷ undone ∷ no_object ∷ holds_end ∷ []

-- ---- searches

-- the first places: rear left, rear right, between them; where they are absent, left surround
abbrev pub where_to_put : Row
where_to_put =
    as_row
    (find 16 ⇒ found 0xbf800000 0 0xbf800000
    ∷ find 32 ⇒ found 0x3f380000 0 0xbf800000
    ∷ find 48 ⇒ found 0xbf300000 0 0xbf800000
    ∷ make 1 ⇒ renewed
    ∷ find 64 ⇒ found 0xbf800000 0 0xbf800000
    ∷ [])

abbrev pub searches : List Row
searches =
    where_to_put ∷ []

-- ---- ahead_rows

-- an update of kind 9 is applied in the frame where its sample falls, though that brings none
abbrev pub falls_ahead : Row
falls_ahead =
    as_row
    (of_object (far 2 (update 0 [] 1 (at_once 0 (at 0 0 0 ∷ []) ∷ [])) ∷ update 0 [] 1 [] ∷ []) ⇒ ready []
    ∷ of_object [] ⇒ ready []
    ∷ of_object [] ⇒ ready []
    ∷ flush_at 64 ⇒ ready ((0 ∷ 0 ∷ 0x3e75ce32 ∷ 0 ∷ 0 ∷ 0 ∷ 0x3e79ea5d ∷ 0x3e79ea5d ∷ 0 ∷ 0 ∷ 0 ∷ 0 ∷ []) ∷
    (0 ∷ 0 ∷ 0x3e75ce32 ∷ 0 ∷ 0 ∷ 0 ∷ 0x3e79ea5d ∷ 0x3e79ea5d ∷ 0 ∷ 0 ∷ 0 ∷ 0 ∷ []) ∷ only 0 0x3ed740d4 ∷ [])
    ∷ [])

-- one that waited comes before the frame's own of the same offset, one of kind 1 past the end never
abbrev pub own_behind : Row
own_behind =
    as_row
    (of_object (far 1 (update 0 [] 1 (at_once 0 (at 0 0 0 ∷ []) ∷ [])) ∷ update 0 [] 1 [] ∷ update 1 [] 1 [] ∷ []) ⇒ ready []
    ∷ of_object (update 0 [] 1 (at_once 0 (at 0x3f800000 0 0 ∷ []) ∷ []) ∷ []) ⇒ ready []
    ∷ flush_at 64 ⇒ ready ((0 ∷ 0 ∷ 0x3e75ce32 ∷ 0 ∷ 0 ∷ 0 ∷ 0x3e79ea5d ∷ 0x3e79ea5d ∷ 0 ∷ 0 ∷ 0 ∷ 0 ∷ []) ∷ only 1 0x3ed740d4 ∷ [])
    ∷ [])

-- 25: nine would wait, and one more than eight; a reset leaves none
abbrev pub too_many_ahead : Row
too_many_ahead =
    as_row
    (of_object (replicate 9 (far 5 (update 0 [] 1 [])) ++ update 0 [] 1 [] ∷ []) ⇒ refusal 25 0 0
    ∷ of_object (replicate 8 (far 5 (update 0 [] 1 [])) ++ update 0 [] 1 [] ∷ []) ⇒ ready []
    ∷ of_object (far 1 (update 0 [] 1 []) ∷ []) ⇒ refusal 25 0 0
    ∷ of_object (far 0 (update 0 [] 1 []) ∷ []) ⇒ ready []
    ∷ reset ⇒ renewed
    ∷ of_object (far 1 (update 0 [] 1 []) ∷ update 0 [] 1 [] ∷ []) ⇒ ready []
    ∷ [])

-- 10: a first frame whose one update only waits
abbrev pub none_falls : Row
none_falls =
    as_row
    (of_object (far 1 (update 0 [] 1 []) ∷ []) ⇒ refusal 10 0 0
    ∷ of_object (far 0 (update 0 [] 1 []) ∷ []) ⇒ ready []
    ∷ [])

abbrev pub ahead_rows : List Row
ahead_rows =
    falls_ahead ∷ own_behind ∷ too_many_ahead ∷ none_falls ∷ []

-- ---- all

abbrev pub groups : List (List Row)
groups =
    refusals ∷ outputs ∷ block_rows ∷ bed_rows ∷ object_rows ∷ updates ∷ slots ∷ halls ∷ tables ∷ hold_rows ∷ searches ∷ ahead_rows ∷ []

abbrev pub rows : List Row
rows = concat groups
