-- A reader may skip this file: what the code makes of an area for a frame. Assumes nothing.
use Rattle.std.specs.Prelude.{ℕ, ◌<◌, ◌≤◌, ◌≡◌, List, length}
use Rattle.records.specs.LayoutAnswers.{sent_place, offset_at, IsLayout}
use Rattle.records.specs.declared.metadata.Metadata.{Metadata}
use Rattle.records.specs.declared.sent.Layout.{Layout}
use Rattle.waits.specs.Area.{Wait, waiting_count, position_ahead, kept_records}
use Rattle.waits.specs.Settled.{falls_at, all_records}
use Rattle.waits.specs.declared.load.Load.{Load}

-- m is the updates that wait in ws, with their offsets in the frame of n samples from `start` on
pub record FallAt (start n : ℕ) (ws : List ℕ) (m : Metadata) : Type 0 where
  pub records : m.records.now ≡ kept_records ws
  pub count : m.layout.count ≡ waiting_count ws
  pub offsets : (i : ℕ) → i < waiting_count ws → offset_at m.layout i ≡ falls_at start n ws i

-- l is the layout of the updates that wait in ws, which lie ahead of `start`
pub record WaitingLayout (start : ℕ) (ws : List ℕ) (l : Layout) : Type 0 where
  pub few : l.count ≤ 8
  pub ahead : (i : ℕ) → i < l.count → (start ≤ position_ahead ws i) × (position_ahead ws i ≤ 2199023255552)

-- l has the places of the updates that wait in ws
pub record PlacesOf (ws : List ℕ) (l : Layout) : Type 0 where
  pub count : l.count ≡ waiting_count ws
  pub laid : IsLayout (kept_records ws) l

-- l is k, but for the offsets, which are those in the frame of n samples from `start` on
pub record FallingLayout (start n : ℕ) (ws : List ℕ) (k l : Layout) : Type 0 where
  pub count : l.count ≡ k.count
  pub places : (i : ℕ) → sent_place l i ≡ sent_place k i
  pub offsets : (i : ℕ) → i < k.count → offset_at l i ≡ falls_at start n ws i
  pub past : (i : ℕ) → k.count ≤ i → offset_at l i ≡ offset_at k i

-- how many updates vs are, of how many bytes
pub record LoadOf (l : Load) (vs : List Wait) : Type 0 where
  pub count : l.count ≡ length vs
  pub bytes : l.bytes ≡ length (all_records vs)
