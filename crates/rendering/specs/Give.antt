-- A reader may skip this file: the pending samples given out as one block. Assumes nothing.
use Rattle.std.specs.Prelude.{ℕ, ◌+◌, ◌*◌, ◌≤◌, ◌<◌, ◌≡◌, Bool, false, List, T, length, get_or, take, drop, Float}
use Rattle.std.specs.Float.{binary32, nan}
use Rattle.std.specs.Float.Ieee.{fits}
use Rattle.ieee.specs.Bounds.{All}
use Rattle.formats.specs.Areas.{row_count, row_places}
use Rattle.limiter.specs.Limiter.{block_gain, scaled_block, grown}
use Rattle.limiter.specs.ChannelPlaces.{channels, with_channels}
use Rattle.limiter.specs.Meters.{unmet, block_meters, meets, meets_all}
use Rattle.rules.specs.Parts.{0·0}
use Rattle.rules.specs.Samples.{After, flushed}
use Rattle.rules.specs.BlockCalls.{written}
use Rattle.theorem.specs.Instance.{hall}
use Rattle.store.specs.Steps.{emptied_by}
use Rattle.rendering.specs.declared.Rendering.{Rendering}
use Rattle.rendering.specs.Held.{held}
use Rattle.rendering.specs.Out.{behind}

-- what is asked: room for the pending samples behind those that are ready
pub record CanGive (w : Rendering) (out : List ℕ) (stride : ℕ) : Type 0 where
  pub pending : w.renderer.pending ≤ 64
  pub rate : w.renderer.rate ≤ 16777216
  pub room : w.ready + w.renderer.pending ≤ stride
  pub short : stride ≤ 4096
  pub output : 48 * stride ≤ length out

-- "one shorter block": the rules' `flushed`, behind the samples that are ready
pub record Gave (w : Rendering) (state : List ℕ) (stride : ℕ) (out : List ℕ) (r : Rendering) (out' : List ℕ) : Type 0 where
  pub next : held r.renderer state ≡ (flushed hall (held w.renderer state)).next
  pub given : out' ≡ behind w.ready (flushed hall (held w.renderer state)).given stride out
  pub ready : r.ready ≡ w.ready + w.renderer.pending
  pub meters : r.meters ≡ meets_all w.meters (flushed hall (held w.renderer state)).meters

-- a flush of n pending samples: d is what the rules say that it leaves and gives out
pub record IsDrained (d : After hall) (n stride : ℕ) (state out : List ℕ) (r : Rendering) (out' : List ℕ) : Type 0 where
  pub next : held r.renderer state ≡ d.next
  pub given : out' ≡ written d.given stride out
  pub ready : r.ready ≡ n
  pub meters : r.meters ≡ meets_all unmet d.meters

-- ---- a whole block that is still in rows

-- what is asked: room for the rows' samples behind those that are ready
pub record CanGiveRows (w : Rendering) (out : List ℕ) (stride : ℕ) : Type 0 where
  pub rate : w.renderer.rate ≤ 16777216
  pub room : w.ready + 64 ≤ stride
  pub short : stride ≤ 4096
  pub output : 48 * stride ≤ length out

-- an absent channel's row is +0.0, so the one peak over all rows is that of the channels that are there
abbrev pub AbsentSilent : List Bool → List Float → Type 0
AbsentSilent here rows = (c : ℕ) → c < row_count → get_or here c false ≡ false → All (λ (x : Float). x ≡ 0·0) (take row_places (drop (row_places * c) rows))

-- the rows' channels, of those that are there
abbrev pub row_channels : List Bool → List Float → List (List Float)
row_channels here rows = channels here row_places rows

-- the rows, which are f32s, limited as one block behind the samples that are ready
pub record GaveRows (here : List Bool) (w : Rendering) (rows : List Float) (stride : ℕ) (out : List ℕ) (r : Rendering) (out' : List ℕ) : Type 0 where
  pub fit : (i : ℕ) → T (fits binary32 (get_or rows i nan))
  pub renderer : r.renderer ≡ emptied_by w.renderer (record { gain = grown 64 w.renderer.rate (block_gain w.renderer.limiter.gain (row_channels here rows)) })
  pub given : out' ≡ with_channels (scaled_block (block_gain w.renderer.limiter.gain (row_channels here rows)) (row_channels here rows)) (4 * stride) (4 * w.ready) out
  pub ready : r.ready ≡ w.ready + 64
  pub meters : r.meters ≡ meets w.meters (block_meters w.renderer.limiter.gain (row_channels here rows))
