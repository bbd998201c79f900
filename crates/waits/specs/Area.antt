-- R-12: the area of updates that lie ahead, the end of the state block: how many wait, of how many records in all, eight positions, and their records, one update behind the
-- other, as they were sent. Bytes past those in use are free. Assumes nothing.
use Rattle.std.specs.Prelude.{ℕ, ◌+◌, ◌*◌, ◌-◌, suc, List, take, drop}
use Rattle.words.specs.Words.{word, long}
use Rattle.records.specs.Runs.{each}
use Rattle.records.specs.Laid.{update_at}

-- "Up to eight, of at most 1,200 records in all"
abbrev pub most_waiting : ℕ
most_waiting = 8

abbrev pub most_records : ℕ
most_records = 1200

-- ---- where what stands

abbrev pub positions_at : ℕ
positions_at = 8

abbrev pub records_at : ℕ
records_at = positions_at + 8 * most_waiting

-- 48,072
abbrev pub area_bytes : ℕ
area_bytes = records_at + 40 * most_records

-- ---- what it says

abbrev pub waiting_count : List ℕ → ℕ
waiting_count ws = word ws 0

abbrev pub records_ahead : List ℕ → ℕ
records_ahead ws = word ws 4

-- the stream's sample where update i falls
abbrev pub position_ahead : List ℕ → ℕ → ℕ
position_ahead ws i = long ws (positions_at + 8 * i)

-- the records: metadata like any other
abbrev pub kept_records : List ℕ → List ℕ
kept_records ws = take (40 * records_ahead ws) (drop records_at ws)

-- ---- the updates that wait

-- the stream's sample where it falls, and its records
pub record Wait : Type 0 where
  pub position : ℕ
  pub records : List ℕ

-- the records of update i of a list that is laid out
abbrev pub records_of : List ℕ → ℕ → List ℕ
records_of m i = take (40 * (update_at m (suc i) - update_at m i)) (drop (40 * update_at m i) m)

abbrev pub wait_at : List ℕ → ℕ → Wait
wait_at ws i = record { position = position_ahead ws i; records = records_of (kept_records ws) i }

unfoldable pub waits_of : List ℕ → List Wait
unfolding each
waits_of ws = each (wait_at ws) (waiting_count ws)
