-- A reader may skip this file: a turn of the frame's loop on a state block: what it asks and what it leaves. Assumes nothing.
use Rattle.std.specs.Prelude.{ℕ, ◌+◌, ◌≡◌, cond, List, eqb}
use Rattle.timed.specs.State.{Timed}
use Rattle.limiter.specs.Meters.{meets_all}
use Rattle.rules.specs.Samples.{Frame, Renderer, sounding, settled}
use Rattle.store.specs.declared.renderer.Renderer714.{Renderer714}
use Rattle.store.specs.Layout.{setup_in}
use Rattle.theorem.specs.Instance.{Sent, hall}
use Rattle.render.specs.Run.{filter_after, row_run}
use Rattle.rendering.specs.declared.Rendering.{Rendering}
use Rattle.rendering.specs.Held.{held, IsNext}
use Rattle.rendering.specs.Out.{behind}
use Rattle.rendering.specs.Pass.{moment_here}
use Rattle.frame.specs.Chunk.{chunk}

-- where nothing is pending a block was given out
abbrev pub ready_after : ℕ → ℕ → ℕ
ready_after ready pending = cond (eqb pending 0) (ready + 64) ready

module _ (f : Frame Sent) (t k : ℕ) (s : Renderer714) (b : List ℕ) where
  -- the renderer after the chunk, before a whole block is given out
  abbrev pub settled_at : Renderer Timed (List ℕ)
  settled_at = settled hall k (filter_after (moment_here f t k s b) s.filter t k) (sounding (setup_in b) (λ c. row_run (moment_here f t k s b) s.filter c t k)) (held s b)

-- the rules' chunk: what is held after it, what is given out behind the samples that are ready, how many are ready then, and with which meters
pub record Passes (f : Frame Sent) (t k stride : ℕ) (w : Rendering) (state out : List ℕ) (r : Rendering) (state' out' : List ℕ) : Type 0 where
  pub next : IsNext (chunk hall f k t (held w.renderer state)).next state r.renderer state'
  pub given : out' ≡ behind w.ready (chunk hall f k t (held w.renderer state)).given stride out
  pub ready : r.ready ≡ ready_after w.ready r.renderer.pending
  pub meters : r.meters ≡ meets_all w.meters (chunk hall f k t (held w.renderer state)).meters
