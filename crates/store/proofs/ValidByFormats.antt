-- A block of bytes is valid exactly if it has the right length, its four parts pass the tests of their formats, and the table is one that a hall may have. Assumes nothing.
use mathlib.Core.Path.{◌≡◌, sym, ap, ◌∙◌}
use mathlib.Core.Bool.{Bool, true, ◌&&◌}
use mathlib.Core.List.{List, [], ◌∷◌}
use Prim.Native.Nat.{ℕ, zero, suc, ◌^◌, ◌<◌}
use native.Mathlib.Omega.{arith}
use borrow.Author.Tests.{le-leb}
use lib.Dec.{eqb, leb, lit<}
use lib.ListN.{length, get_or}
use Rattle.words.specs.Words.{Bytes, Words, words_at}
use Rattle.words.proofs.Small.{run_small}
use Rattle.formats.specs.Areas.{info_count, infos_format, row_count, row_places, row_format, places_format, place_count}
use Rattle.formats.proofs.Theorems.{all_same, all_any, heads_format, and_true}
use Rattle.panning.specs.Setup.{table_right}
use Rattle.store.specs.Fields.{hall_format}
use Rattle.store.specs.Layout.{small_width, places_at, hall_at, size, infos_of, table_in}
use Rattle.store.specs.ValidBlocks.{small_part, small_valid, hall_valid, valid}

-- words of any bits pass

word_small : (ws : List ℕ) → Words ws → (i : ℕ) → get_or ws i 0 < 2 ^ 32
word_small [] h i = lit< tt
word_small (w ∷ ws) h zero = h.0
word_small (w ∷ ws) h (suc i) = word_small ws h.1 i

module _ (ws : List ℕ) (h : Words ws) where
  row_passes : (at : ℕ) → row_format.test ws at ≡ true
  row_passes at =
      all_same 1 (λ a. leb (get_or ws a 0) 4294967295) (λ a. true) (λ a. le-leb (get_or ws a 0) 4294967295 (let l = word_small ws h a in omega arith)) row_places at
      ∙ all_any 1 row_places at

  places_pass : (at : ℕ) → places_format.test ws at ≡ true
  places_pass at = all_same row_format.width (row_format.test ws) (λ a. true) row_passes row_count at ∙ all_any row_format.width row_count at

module _ (b : List ℕ) (bs : Bytes b) where
  abbrev rest : Bool
  rest = eqb (length b) size && small_part.test (words_at b 0 small_width) 0 && infos_format.test (words_at (infos_of b) 0 infos_format.width) 0

  pub valid_by_formats : valid b ≡ (rest && places_format.test (words_at b places_at place_count) 0
      && (hall_format.test (words_at b hall_at hall_format.width) 0 && table_right (table_in b)))
  unfolding valid small_valid hall_valid
  valid_by_formats =
      ap (λ (x : Bool). eqb (length b) size && small_valid (words_at b 0 small_width) && x && hall_valid b) (heads_format (infos_of b) info_count)
      ∙ ap (λ (x : Bool). x && hall_valid b) (sym (and_true rest _ (places_pass (words_at b places_at place_count) (run_small b places_at place_count bs) 0)))
