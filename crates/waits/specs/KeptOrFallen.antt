-- R-12: "A kind 9 update at or past the frame's end waits and is applied in the frame where its sample falls .. waiting ones keep their order." After an accepted frame of n samples
-- that begins at the stream's sample `start`: each update that waited either falls at its own sample, or still waits; each of the frame's own updates either falls, or is dropped,
-- as its offset says, or waits; and none is lost, is there twice or has changed its place. Assumes nothing.
use Rattle.std.specs.Prelude.{ℕ, ◌+◌, ◌<◌, ◌≤◌, ◌≡◌, ◌⊎◌, true, false, List, ◌++◌}
use Rattle.fields.specs.Update.{offset}
use Rattle.records.specs.Falls.{no_sample, offset_in}
use Rattle.records.specs.Laid.{update_at, count}
use Rattle.waits.specs.Area.{waiting_count, position_ahead, wait_at, waits_of}
use Rattle.waits.specs.Settled.{falls_at, stays, staying, comes, coming, area_settled}

-- update i of those that wait in ws: it falls at its own sample, in the frame, and does not stay; or it lies past the frame, has no offset in it, and stays
abbrev pub FallsOrStays : ℕ → ℕ → List ℕ → ℕ → Type 0
FallsOrStays start n ws i =
    ((falls_at start n ws i < n) × (start + falls_at start n ws i ≡ position_ahead ws i) × (stays start n (wait_at ws i) ≡ false))
    ⊎ ((start + n ≤ position_ahead ws i) × (falls_at start n ws i ≡ no_sample) × (stays start n (wait_at ws i) ≡ true))

-- the frame's own update i: it has the offset that it says, and does not wait; or it is of kind 9, at or past the frame's end, has no offset in the frame, and waits
abbrev pub FallsOrWaits : ℕ → List ℕ → ℕ → Type 0
FallsOrWaits n m i =
    ((offset_in n m (update_at m i) ≡ offset m (update_at m i)) × (comes n m i ≡ false))
    ⊎ ((n ≤ offset m (update_at m i)) × (offset_in n m (update_at m i) ≡ no_sample) × (comes n m i ≡ true))

pub record KeptOrFallen (start n : ℕ) (ws m : List ℕ) : Type 0 where
  pub waiting : (i : ℕ) → i < waiting_count ws → FallsOrStays start n ws i
  pub own : (i : ℕ) → i < count m → FallsOrWaits n m i
  -- what waits afterwards, positions and records as they are read from the area: those that stay, in their order, then the own ones that wait, as sent
  pub next : waits_of (area_settled start n ws m) ≡ staying start n (waits_of ws) ++ coming start n m (count m) 0
