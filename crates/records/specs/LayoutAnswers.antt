-- A reader may skip this file: what the functions that read a layout answer, by `laid_out`, `count` and `update_at` of specs/Laid. Assumes nothing.
use Rattle.std.specs.Prelude.{ℕ, ◌≤◌, ◌<◌, ◌≡◌, Bool, true, false, List, get_or, Option, Some, None}
use Rattle.clock.specs.Start.{frame_start}
use Rattle.records.specs.Falls.{offset_in}
use Rattle.records.specs.Laid.{update_at, laid_out, count}
use Rattle.records.specs.declared.sent.Layout.{Layout}
use Rattle.records.specs.declared.sent.Sent.{Sent}

-- the record after a part that is whole
unfoldable pub end_if : Bool → ℕ → Option ℕ
end_if true r = Some r
end_if false r = None

abbrev pub no_sent : Sent
no_sent = record { place = 0; offset = frame_start }

-- the record and the sample offset of update i, as a layout has them
abbrev pub sent_place : Layout → ℕ → ℕ
sent_place l i = (get_or l.sent i no_sent).place

abbrev pub offset_at : Layout → ℕ → ℕ
offset_at l i = (get_or l.sent i no_sent).offset.0

-- m is laid out, and l is its layout, whatever the offsets; past its updates stand zeros
pub record IsLayout (m : List ℕ) (l : Layout) : Type 0 where
  pub laid : laid_out m ≡ true
  pub counted : l.count ≡ count m
  pub few : count m ≤ 16
  pub places : (i : ℕ) → i < count m → sent_place l i ≡ update_at m i
  pub past : (i : ℕ) → count m ≤ i → (sent_place l i ≡ 0) × (offset_at l i ≡ 0)

-- l has the offsets of the updates of m in a frame of n samples
abbrev pub Placed : ℕ → List ℕ → Layout → Type 0
Placed n m l = (i : ℕ) → i < count m → offset_at l i ≡ offset_in n m (update_at m i)

-- the layout of m in a frame of n samples, or none where m is not laid out
abbrev pub HasLayout : ℕ → List ℕ → Option Layout → Type 0
HasLayout n m (Some l) = IsLayout m l × Placed n m l
HasLayout n m None = laid_out m ≡ false
