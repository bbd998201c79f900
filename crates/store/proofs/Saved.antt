-- A block whose small part is saved is the block of that small part with the infos, places and hall that it has. Assumes nothing.
use mathlib.Core.Path.{◌≡◌, refl, sym, ◌∙◌}
use mathlib.Core.List.{List}
use Prim.Native.Nat.{ℕ, ◌*◌}
use lib.ListN.{length}
use Rattle.words.specs.Words.{Bytes, with_words}
use Rattle.store.specs.declared.renderer.Renderer714.{Renderer714}
use Rattle.store.specs.FieldPlaces.{state_at}
use Rattle.store.specs.Fields.{state_format, basics_format, basics_of, small_words}
use Rattle.store.specs.Layout.{small_width, size, assembled, infos_of, places_of, setup_in, encode}
use Rattle.store.proofs.Rows.{rest_of}
use Rattle.store.proofs.SmallPartBack.{lawful_small}
use Rattle.store.proofs.Stores.{small_stored}
use Rattle.store.proofs.Whole.{saved_encode}

small_words_long : (x : Renderer714) → length (small_words x) ≡ small_width
unfolding small_words
small_words_long x = lawful_small.long x

pub whole_stored : (s : List ℕ) (x : Renderer714) → Bytes s → length s ≡ size
    → with_words (with_words s 0 (basics_format.put (basics_of x))) (4 * state_at) (state_format.put x.state) ≡ encode (assembled x (infos_of s) (places_of s) (setup_in s))
whole_stored s x bytes long =
    small_stored s x ∙ saved_encode s (assembled x (infos_of s) (places_of s) (setup_in s)) long (small_words_long x) refl (sym (rest_of s bytes long))
