-- Structs stored field after field. Assumes nothing.
use mathlib.Core.Path.{◌≡◌, refl, sym, ap, ◌∙◌}
use mathlib.Core.List.{List, [], ◌∷◌, ◌++◌, append-nil}
use Prim.Native.Nat.{ℕ, ◌+◌, ◌*◌}
use lib.ListN.{get_or}
use Rattle.words.specs.Words.{with_words}
use Rattle.formats.specs.Format.{u8_to, float, ◌⊗◌, puts, array}
use Rattle.formats.proofs.Theorems.{lawful_u8_to, lawful_float}
use Rattle.formats.proofs.Theorems.{lawful_array}
use Rattle.formats.proofs.Theorems.{runs_at, pair_stored}
use lib.Dec.{lit<}
use Rattle.timed.specs.State.{no_element}
use Rattle.timed.specs.declared.state.ElementRendererState.{ElementRendererState}
use Rattle.timed.specs.declared.state.MetadataRendererState.{MetadataRendererState}
use Rattle.store.specs.declared.renderer.Renderer714.{Renderer714}
use Rattle.store.specs.Fields.{source_format, block_format, track_format, head_format, element_format, counts_format, tables_format, state_format, basics_format}
use Rattle.store.specs.Fields.{element_head, counts_of, tables_of, basics_of, small_words}
use Rattle.store.specs.FieldPlaces.{state_at, tables_at, gains_at, sources_at, first_at}
use Rattle.store.proofs.SmallPartBack.{lawful_source, lawful_block, lawful_head, lawful_element, lawful_counts, lawful_basics}

pub element_stored : (s : List ℕ) (at : ℕ) (e : ElementRendererState)
    → with_words (with_words (with_words s at (head_format.put (element_head e))) (at + 4 * head_format.width) ((array 8 block_format).put e.schedule))
    (at + 4 * head_format.width + 4 * (array 8 block_format).width) ((array 16 track_format).put e.tracks)
    ≡ with_words s at (element_format.put e)
element_stored s at e =
    pair_stored (array 8 block_format) (array 16 track_format) (lawful_array block_format lawful_block 8)
    (with_words s at (head_format.put (element_head e))) (at + 4 * head_format.width) e.schedule e.tracks
    ∙ pair_stored head_format (array 8 block_format ⊗ array 16 track_format) lawful_head s at (element_head e) (e.schedule, e.tracks)

two_elements : (xs : List ElementRendererState)
    → (array 2 element_format).put xs ≡ element_format.put (get_or xs 0 no_element) ++ (element_format.put (get_or xs 1 no_element) ++ [])
unfolding puts
two_elements [] = refl
two_elements (x ∷ []) = refl
two_elements (x ∷ y ∷ xs) = refl

pub elements_stored : (s : List ℕ) (at : ℕ) (xs : List ElementRendererState)
    → with_words (with_words s at (element_format.put (get_or xs 0 no_element))) (at + 4 * element_format.width) (element_format.put (get_or xs 1 no_element))
    ≡ with_words s at ((array 2 element_format).put xs)
elements_stored s at xs =
    let E : ℕ → List ℕ = λ i. element_format.put (get_or xs i no_element) in
    ap (with_words (with_words s at (E 0)) (at + 4 * element_format.width)) (sym (append-nil (E 1)))
    ∙ runs_at s at element_format.width (E 0) (E 1 ++ []) (lawful_element.long (get_or xs 0 no_element))
    ∙ ap (with_words s at) (sym (two_elements xs))

module _ (s : List ℕ) (x : MetadataRendererState) where
  abbrev s1 : List ℕ
  s1 = with_words s (4 * state_at) (counts_format.put (counts_of x))

  abbrev s2 : List ℕ
  s2 = with_words s1 (4 * tables_at) ((array 18 (u8_to 17)).put x.codes)

  abbrev s3 : List ℕ
  s3 = with_words s2 (4 * gains_at) ((array 18 float).put x.gains)

  abbrev s4 : List ℕ
  s4 = with_words s3 (4 * sources_at) ((array 16 source_format).put x.sources)

  pub state_stored : with_words s4 (4 * first_at) ((array 2 element_format).put x.states) ≡ with_words s (4 * state_at) (state_format.put x)
  state_stored =
      pair_stored (array 16 source_format) (array 2 element_format) (lawful_array source_format lawful_source 16) s3 (4 * sources_at) x.sources x.states
      ∙ pair_stored (array 18 float) (array 16 source_format ⊗ array 2 element_format) (lawful_array float lawful_float 18) s2 (4 * gains_at) x.gains (x.sources, x.states)
      ∙ pair_stored (array 18 (u8_to 17)) (array 18 float ⊗ array 16 source_format ⊗ array 2 element_format) (lawful_array (u8_to 17) (lawful_u8_to 17 (lit< tt)) 18)
      s1 (4 * tables_at) x.codes (x.gains, (x.sources, x.states))
      ∙ pair_stored counts_format tables_format lawful_counts s (4 * state_at) (counts_of x) (tables_of x)

pub small_stored : (s : List ℕ) (x : Renderer714)
    → with_words (with_words s 0 (basics_format.put (basics_of x))) (4 * state_at) (state_format.put x.state) ≡ with_words s 0 (small_words x)
unfolding small_words
small_stored s x = pair_stored basics_format state_format lawful_basics s 0 (basics_of x) x.state
