-- A reader may skip this file: a chunk of a frame on a state block: what it asks and what it leaves. Assumes nothing.
use Rattle.std.specs.Prelude.{ℕ, ◌+◌, ◌-◌, ◌*◌, ◌≤◌, ◌<◌, ◌≡◌, true, List, get_or, take, drop, Float}
use Rattle.std.specs.Float.{nan}
use Rattle.formats.specs.Areas.{row_count, row_places}
use Rattle.rules.specs.Parts.{0·0}
use Rattle.rules.specs.Mix.{Moment}
use Rattle.rules.specs.Samples.{Frame, moment}
use Rattle.theorem.specs.Instance.{Sent, hall}
use Rattle.store.specs.declared.renderer.Renderer714.{Renderer714}
use Rattle.store.specs.Layout.{infos_of, setup_in}
use Rattle.store.specs.Steps.{settled_by}
use Rattle.render.specs.Run.{filter_after, row_run}
use Rattle.rendering.specs.declared.Rendering.{Rendering}

-- what is asked: k samples of a frame whose objects are the state's dynamic ones
pub record CanPass (s : Renderer714) (objects k : ℕ) : Type 0 where
  pub beds : s.state.beds ≤ 18
  pub dynamic : s.state.initialized ≡ true → s.state.objects - s.state.isf ≡ objects
  pub pending : s.pending + k ≤ 64
  pub phase : s.clock.phase ≤ 64
  pub position : s.clock.position.0 ≤ 1099511627776
  pub start : s.clock.start.0 ≤ 1099511627776

-- a frame of a push: its rate and its updates, bed codes, objects, PCM and samples a channel
abbrev pub frame_here : ℕ → List Sent → List ℕ → ℕ → List ℕ → ℕ → Frame Sent
frame_here rate us codes objects pcm n = record { rate = rate; samples = n; codes = codes; objects = objects; pcm = pcm; updates = us }

module _ (f : Frame Sent) (t k : ℕ) (s : Renderer714) (b : List ℕ) where
  abbrev pub moment_here : ℕ → Moment
  moment_here t = moment hall f t (setup_in b) (record { state = s.state; infos = infos_of b })

-- the k samples from t on of the moments m, in the rows, each with +0.0 past them: they wait on r, which was w
pub record Waits (m : ℕ → Moment) (w : Rendering) (t k : ℕ) (rows : List Float) (r : Rendering) : Type 0 where
  pub columns : (c : ℕ) → c < row_count → take k (drop (row_places * c) rows) ≡ row_run m w.renderer.filter c t k
  pub rest : (c i : ℕ) → c < row_count → k ≤ i → i < row_places → get_or rows (row_places * c + i) nan ≡ 0·0
  pub renderer : r.renderer ≡ settled_by w.renderer (filter_after m w.renderer.filter t k) k
  pub ready : r.ready ≡ w.ready
  pub meters : r.meters ≡ w.meters
