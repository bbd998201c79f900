-- A loaded small part, with its block's infos, places and hall, is what the block decodes to. Assumes nothing.
use Prim.Native.Nat.{ℕ}
use mathlib.Core.Path.{◌≡◌, ap}
use mathlib.Core.List.{List}
use Rattle.words.specs.Words.{words_at}
use Rattle.store.specs.declared.renderer.Renderer714.{Renderer714}
use Rattle.store.specs.Fields.{small_of}
use Rattle.store.specs.Layout.{small_width, assembled, infos_of, places_of, setup_in, decode}

pub loaded : (b : List ℕ) (s : Renderer714) → s ≡ small_of (words_at b 0 small_width) → assembled s (infos_of b) (places_of b) (setup_in b) ≡ decode b
unfolding decode
loaded b s e = ap (λ (x : Renderer714). assembled x (infos_of b) (places_of b) (setup_in b)) e
