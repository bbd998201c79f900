-- What the timed state keeps along updates and slots: gains from 0 to 8, sizes and sends from 0 to 1, f32 values (`Sound`), and document 01's ranges (`Within`). Assumes nothing.
use Prim.Native.Nat.{ℕ, ◌-◌, ◌≤◌, ◌<◌}
use mathlib.Core.Path.{◌≡◌}
use mathlib.Core.List.{List}
use lib.Dec.{T}
use lib.ListN.{length, get_or}
use lib.Ieee.{Float, nan}
use Rattle.std.specs.Prelude.{Option, Some, None}
use Rattle.words.specs.Words.{Bytes}
use Rattle.panning.specs.Choice.{0·0, 1·0}
use Rattle.panning.specs.Table.{between, 8·0, Position}
use Rattle.timed.specs.Infos.{gain_at, size_at, send_at}
use Rattle.timed.specs.Objects.{no_source, no_track}
use Rattle.timed.specs.State.{Timed, element_of}
use Rattle.timed.specs.declared.state.DynamicSourceState.{DynamicSourceState}
use Rattle.store.specs.Ranged.{StateRanged, InfosRanged}
use Rattle.timed.specs.InfoSizes.{all_bytes}

-- absent, or from 0 to `most`
abbrev pub UpTo : Float → Option Float → Type 0
UpTo most None = Unit {0}
UpTo most (Some x) = T (between 0·0 most x)

pub record SourceSound (s : DynamicSourceState) : Type 0 where
  pub gain : T (between 0·0 8·0 s.gain)
  pub size : T (between 0·0 1·0 s.size)
  pub place : Position s.place
  pub send : T (between 0·0 1·0 s.send)

-- every gain, size and send that refusal 6 let pass
pub record InfosSound (is : List ℕ) : Type 0 where
  pub long : length is ≡ all_bytes
  pub bytes : Bytes is
  pub gain : (k : ℕ) → k < 512 → UpTo 8·0 (gain_at is k)
  pub size : (k : ℕ) → k < 512 → UpTo 1·0 (size_at is k)
  pub send : (k : ℕ) → k < 512 → T (between 0·0 1·0 (send_at is k))

pub record Sound (m : Timed) : Type 0 where
  pub beds : m.state.beds ≤ 18
  pub objects : m.state.objects - m.state.isf ≤ 16
  pub codes : length m.state.codes ≡ 18
  pub states : length m.state.states ≡ 2
  pub gains : (k : ℕ) → k < 18 → T (between 0·0 8·0 (get_or m.state.gains k nan))
  pub dynamic : length m.state.sources ≡ 16
  pub sources : (d : ℕ) → d < 16 → SourceSound (get_or m.state.sources d no_source)
  -- each element's tables, full and of f32 values
  pub tracks : (e : ℕ) → e < 2 → length (element_of m.state e).tracks ≡ 16
  pub targets : (e d : ℕ) → e < 2 → d < 16 → Position (get_or (element_of m.state e).tracks d no_track).future
  pub infos : InfosSound m.infos

-- the ranges at a stream position
pub record Within (n : ℕ) (m : Timed) : Type 0 where
  pub state : StateRanged n m.state
  pub infos : InfosRanged m.infos
