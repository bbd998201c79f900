-- A reader may skip this file: the renderer that a call works on: its small part by value, infos, places and hall still in the state block. Assumes nothing.
use Rattle.std.specs.Prelude.{ℕ, ◌≡◌, List}
use Rattle.timed.specs.State.{Timed}
use Rattle.rules.specs.Samples.{Renderer}
use Rattle.store.specs.declared.renderer.Renderer714.{Renderer714}
use Rattle.store.specs.Layout.{assembled, infos_of, places_of, setup_in}
use Rattle.chunk.specs.ChunkRows.{small_bytes, hall_bytes_of}
use Rattle.rendering.specs.declared.Rendering.{Rendering}

-- `decode b` is `held` of b's own small part
abbrev pub held : Renderer714 → List ℕ → Renderer Timed (List ℕ)
held s b = assembled s (infos_of b) (places_of b) (setup_in b)

-- the block b₀ became b: s and b hold r, and the bytes of the small part and of the hall are as they were. With r's infos and places that is all of b
pub record IsNext (r : Renderer Timed (List ℕ)) (b₀ : List ℕ) (s : Renderer714) (b : List ℕ) : Type 0 where
  pub holds : held s b ≡ r
  pub small : small_bytes b ≡ small_bytes b₀
  pub hall : hall_bytes_of b ≡ hall_bytes_of b₀

-- the rendering w and the block b₀ became w' and b, which hold r; as many samples are in the output, with the same meters
pub record Leads (r : Renderer Timed (List ℕ)) (w : Rendering) (b₀ : List ℕ) (w' : Rendering) (b : List ℕ) : Type 0 where
  pub next : IsNext r b₀ w'.renderer b
  pub ready : w'.ready ≡ w.ready
  pub meters : w'.meters ≡ w.meters
