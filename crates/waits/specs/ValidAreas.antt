-- R-12: which areas are within their ranges, in a block at a stream position. "Up to eight, of at most 1,200 records in all, may wait .., their positions from the stream's own to
-- below 2^40 + 2^32". The records are as laid out, and each block and depth factor is as refusal 6 lets it pass; document 01: the block's "floats of any bits". Assumes nothing.
use Rattle.std.specs.Prelude.{ℕ, Bool, ◌&&◌, List, leb, ltb}
use Rattle.fields.specs.RecordBytes.{all}
use Rattle.fields.specs.Update.{is_far}
use Rattle.records.specs.Laid.{update_at, is_updates}
use Rattle.records.specs.ValuesInRange.{all_fit}
use Rattle.waits.specs.Area.{most_waiting, most_records, waiting_count, records_ahead, position_ahead, kept_records}

-- 2^40 + 2^32
abbrev pub end_of_positions : ℕ
end_of_positions = 1103806595072

abbrev pub positions_ahead : ℕ → List ℕ → Bool
positions_ahead position ws = all (λ i. leb position (position_ahead ws i) && ltb (position_ahead ws i) end_of_positions) (waiting_count ws)

-- the records are updates of kind 9, as many as wait
abbrev pub all_far : List ℕ → Bool
all_far ws = is_updates (kept_records ws) (waiting_count ws) && all (λ i. is_far (kept_records ws) (update_at (kept_records ws) i)) (waiting_count ws)

unfoldable pub area_valid : ℕ → List ℕ → Bool
area_valid position ws =
    leb (waiting_count ws) most_waiting && leb (records_ahead ws) most_records && positions_ahead position ws && all_far ws
    && all_fit (kept_records ws)
