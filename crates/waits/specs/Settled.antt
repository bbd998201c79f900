-- R-12: what waits after a frame of n samples that begins at the stream's sample `start`. "A kind 9 update at or past the frame's end waits and is applied in the frame where its sample
-- falls, before that frame's own updates of the same offset; waiting ones keep their order." Assumes nothing.
use Rattle.std.specs.Prelude.{ℕ, zero, suc, ◌+◌, ◌-◌, ◌*◌, ◌/◌, Bool, ◌&&◌, cond, List, [], ◌∷◌, ◌++◌, leb, ltb, length, take, drop}
use Rattle.words.specs.Words.{with_word, with_long}
use Rattle.fields.specs.Update.{is_far, offset}
use Rattle.records.specs.Falls.{no_sample}
use Rattle.records.specs.Laid.{update_at, count}
use Rattle.waits.specs.Area.{most_waiting, most_records, positions_at, records_at, position_ahead, Wait, records_of, waits_of}

-- ---- where a waiting one falls

-- "is applied in the frame where its sample falls": the offset there of update i
unfoldable pub falls_at : ℕ → ℕ → List ℕ → ℕ → ℕ
falls_at start n ws i = cond (ltb (position_ahead ws i) (start + n)) (position_ahead ws i - start) no_sample

-- ---- which wait after the frame

-- one that waited and does not fall
abbrev pub stays : ℕ → ℕ → Wait → Bool
stays start n w = leb (start + n) w.position

abbrev pub staying : ℕ → ℕ → List Wait → List Wait
staying start n [] = []
staying start n (w ∷ ws) = cond (stays start n w) (w ∷ staying start n ws) (staying start n ws)

-- an own one that waits
abbrev pub comes : ℕ → List ℕ → ℕ → Bool
comes n m i = is_far m (update_at m i) && leb n (offset m (update_at m i))

abbrev pub come_at : ℕ → List ℕ → ℕ → Wait
come_at start m i = record { position = start + offset m (update_at m i); records = records_of m i }

-- of the k own updates from i on, those that wait
unfoldable pub coming : ℕ → ℕ → List ℕ → ℕ → ℕ → List Wait
coming start n m zero i = []
coming start n m (suc k) i = cond (comes n m i) (come_at start m i ∷ coming start n m k (suc i)) (coming start n m k (suc i))

-- those that stay, in their order, then the frame's own, as sent
unfoldable pub waits_next : ℕ → ℕ → List ℕ → List ℕ → List Wait
unfolding coming
waits_next start n ws m = staying start n (waits_of ws) ++ coming start n m (count m) 0

-- ---- how many may

abbrev pub all_records : List Wait → List ℕ
all_records [] = []
all_records (w ∷ ws) = w.records ++ all_records ws

-- "Up to eight, of at most 1,200 records in all, may wait after those due in the frame have left"
unfoldable pub fits : ℕ → ℕ → List ℕ → List ℕ → Bool
unfolding waits_next
fits start n ws m = let vs = waits_next start n ws m in leb (length vs) most_waiting && leb (length (all_records vs)) (40 * most_records)

-- ---- the area that has them

abbrev pub with_positions : List ℕ → ℕ → List Wait → List ℕ
with_positions ws i [] = ws
with_positions ws i (v ∷ vs) = with_positions (with_long ws (positions_at + 8 * i) v.position) (suc i) vs

-- ws with the bytes xs from `at` on
abbrev pub with_run : List ℕ → ℕ → List ℕ → List ℕ
with_run ws at xs = take at ws ++ (xs ++ drop (at + length xs) ws)

-- ws with the waits vs: their positions from entry i on, their records from byte `at` on
abbrev pub laid_from : List ℕ → ℕ → ℕ → List Wait → List ℕ
laid_from ws i at vs = with_run (with_positions ws i vs) at (all_records vs)

unfoldable pub with_waiting : List Wait → List ℕ → List ℕ
with_waiting vs ws = laid_from (with_word (with_word ws 0 (length vs)) 4 (length (all_records vs) / 40)) 0 records_at vs

unfoldable pub area_settled : ℕ → ℕ → List ℕ → List ℕ → List ℕ
unfolding waits_next with_waiting
area_settled start n ws m = with_waiting (waits_next start n ws m) ws
