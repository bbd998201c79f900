-- Metadata that has been placed in its frame gives the rules' updates: of a frame's own records, and of those that wait (R-12). Assumes nothing.
use Prim.Native.Nat.{ℕ, ◌<◌}
use mathlib.Core.Path.{◌≡◌, ap, ◌∙◌}
use mathlib.Core.List.{List}
use Rattle.records.specs.Falls.{offset_in}
use Rattle.records.specs.Runs.{each}
use Rattle.records.specs.Laid.{update_at, count}
use Rattle.records.specs.LayoutAnswers.{offset_at, IsLayout, Placed}
use Rattle.records.specs.declared.metadata.Metadata.{Metadata}
use Rattle.updates.specs.Said.{update_of}
use Rattle.waits.specs.Area.{waiting_count, kept_records}
use Rattle.waits.specs.Settled.{falls_at}
use Rattle.waits.specs.Answers.{FallAt}
use Rattle.theorem.specs.Instance.{Sent, sent_at, ahead_at, sent_from}
use Rattle.theorem.proofs.TimedShapes.{each_same}

-- update i of the records m at an offset
abbrev sent_so : List ℕ → (ℕ → ℕ) → ℕ → Sent
sent_so m f i = record { offset = f i; said = update_of m (update_at m i) }

same_offsets : (m : List ℕ) (f g : ℕ → ℕ) (n : ℕ) → ((i : ℕ) → i < n → f i ≡ g i) → each (sent_so m f) n ≡ each (sent_so m g) n
same_offsets m f g n h = each_same (sent_so m f) (sent_so m g) n (λ i l. ap (λ (k : ℕ). record { offset = k; said = update_of m (update_at m i) }) (h i l))

-- a frame's own, in a frame of n samples
pub own_sent : (n : ℕ) (m : Metadata) → IsLayout m.records.now m.layout → Placed n m.records.now m.layout → sent_from m ≡ each (sent_at n m.records.now) (count m.records.now)
own_sent n m l p =
    let w = m.records.now in
    ap (each (sent_so w (offset_at m.layout))) l.counted
    ∙ same_offsets w (offset_at m.layout) (λ i. offset_in n w (update_at w i)) (count w) p

-- those that wait, in a frame of n samples from `start` on
pub kept_sent : (start n : ℕ) (ws : List ℕ) (m : Metadata) → FallAt start n ws m → sent_from m ≡ each (ahead_at start n ws) (waiting_count ws)
kept_sent start n ws m h =
    ap (λ (w : List ℕ). each (sent_so w (offset_at m.layout)) m.layout.count) h.records
    ∙ ap (each (sent_so (kept_records ws) (offset_at m.layout))) h.count
    ∙ same_offsets (kept_records ws) (offset_at m.layout) (falls_at start n ws) (waiting_count ws) h.offsets
