-- The lists that a frame's turns share are still those of what sounds where a block is given out, since that keeps the timed state. Assumes nothing.
use Prim.Native.Nat.{ℕ}
use mathlib.Core.Path.{◌≡◌, ap, sym, subst}
use mathlib.Core.Bool.{Bool}
use mathlib.Core.List.{List}
use lib.Ieee.{Float}
use Rattle.panning.specs.Setup.{Setup}
use Rattle.timed.specs.State.{Timed}
use Rattle.timed.specs.declared.state.MetadataRendererState.{MetadataRendererState}
use Rattle.rules.specs.Samples.{Renderer, flushed}
use Rattle.store.specs.declared.renderer.Renderer714.{Renderer714}
use Rattle.render.specs.declared.lists.Lists.{Lists}
use Rattle.chunk.specs.ChunkRows.{Listing}
use Rattle.rendering.specs.declared.Rendering.{Rendering}
use Rattle.rendering.specs.Give.{Gave, GaveRows}

module _ (h : Setup) (objects : ℕ) (codes : List ℕ) (l : Lists) where
  -- the lists stay those of a timed state that stays
  stays : {m n : MetadataRendererState} → n ≡ m → Listing h m objects codes l → Listing h n objects codes l
  stays e k = subst (λ (m : MetadataRendererState). Listing h m objects codes l) (sym e) k

  -- a block is given out of the places
  pub listed_given : {w r : Rendering} {state out out' : List ℕ} {stride : ℕ} → Gave w state stride out r out' → Listing h w.renderer.state objects codes l
      → Listing h r.renderer.state objects codes l
  unfolding flushed
  listed_given g = stays (ap (λ (x : Renderer Timed (List ℕ)). x.meta.state) g.next)

  -- or out of the rows
  pub listed_rows : {here : List Bool} {w r : Rendering} {rows : List Float} {out out' : List ℕ} {stride : ℕ} → GaveRows here w rows stride out r out'
      → Listing h w.renderer.state objects codes l → Listing h r.renderer.state objects codes l
  listed_rows g = stays (ap (λ (s : Renderer714). s.state) g.renderer)
