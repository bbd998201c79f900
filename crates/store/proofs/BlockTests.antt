-- What the tests of a block answer: of a table, column by column; of the fields; of the whole. Assumes nothing.
use mathlib.Core.Path.{◌≡◌, refl, sym, ap, ap₂, subst, ◌∙◌}
use mathlib.Core.Bool.{Bool, true, false, ◌&&◌}
use mathlib.Core.List.{List}
use Prim.Native.Nat.{ℕ, ◌+◌, ◌*◌, ◌<◌, ◌≤◌}
use native.Mathlib.Omega.{arith}
use borrow.Author.Tests.{eq-eqb, ne_eqb, le-leb, lt-leb}
use lib.Dec.{T, eqb, leb, leb→le}
use lib.ListN.{length, get_or}
use lib.Ieee.Fits.{and_l, and_r}
use lib.Ieee.Bits.{is_true}
use Rattle.panning.specs.Setup.{table_right}
pub use Rattle.formats.proofs.Theorems.{and_in}
use Rattle.formats.specs.Areas.{info_count}
use Rattle.words.specs.Words.{words_at}
use Rattle.formats.specs.NumberWords.{in_words, long_of}
use Rattle.formats.specs.Format.{all_at, gets, u8_to}
use Rattle.formats.specs.Lawful.{Same}
use Rattle.formats.proofs.Theorems.{word_of_run, word_of_bytes}
use Rattle.formats.proofs.Theorems.{most, all_same, all_both, all_any, and_true, and_false}
use Rattle.store.specs.declared.renderer.Renderer714.{Renderer714}
use Rattle.store.specs.Fields.{longest, source_format, block_format, track_format, element_format, tables_format, small_format, small_of}
use Rattle.store.specs.FieldPlaces.{phase_at, position_at, start_at, pending_at, objects_at, isf_at, beds_at, in_use_at}
use Rattle.store.specs.FieldPlaces.{tables_at, gains_at, sources_at, marks_in, flags_in, remaining_in, first_at, second_at}
use Rattle.store.specs.Layout.{small_width, size, infos_of, layout_of, table_in}
use Rattle.store.specs.ValidBlocks.{clock_in, counts_in, least, element_in, related, small_valid, heads_valid, hall_valid, valid}
use Rattle.store.proofs.SmallPartBack.{lawful_small, lawful_small_part}

module _ (w : List ℕ) where
  -- a column of the table
  abbrev col : ℕ → ℕ → ℕ → Bool
  col = most w

  -- the same, at a place in another form
  place : (limit : ℕ) {m n : ℕ} → m ≡ n → leb (get_or w m 0) limit ≡ leb (get_or w n 0) limit
  place limit e = ap (λ (i : ℕ). leb (get_or w i 0) limit) e

  pub codes_test : (n at : ℕ) → all_at ((u8_to 17).test w) 1 n at ≡ all_at (col 0 17) 1 n at
  codes_test = all_same 1 ((u8_to 17).test w) (col 0 17) (λ a. place 17 (omega arith))

  pub sources_test : (n at : ℕ) → all_at (source_format.test w) source_format.width n at ≡ all_at (col marks_in 7) source_format.width n at
  sources_test = all_same source_format.width (source_format.test w) (col marks_in 7) (λ a. and_true _ true refl ∙ place 7 (omega arith))

  pub tracks_test : (n at : ℕ) → all_at (track_format.test w) track_format.width n at ≡ all_at (col 0 1) track_format.width n at
  tracks_test = all_same track_format.width (track_format.test w) (col 0 1) (λ a. and_true (leb (get_or w a 0) 1) true refl ∙ place 1 (omega arith))

  pub blocks_test : (n at : ℕ) → all_at (block_format.test w) 3 n at ≡ (all_at (col 0 2097152) 3 n at && (all_at (col 1 2097152) 3 n at && all_at (col 2 1) 3 n at))
  blocks_test n at =
      all_same 3 (block_format.test w) (λ a. col 0 2097152 a && (col 1 2097152 a && col 2 1 a))
      (λ a. ap₂ ◌&&◌ (place 2097152 (omega arith)) (ap (λ (x : Bool). leb (get_or w (a + 1) 0) 2097152 && x) (place 1 (omega arith)))) n at
      ∙ all_both 3 (col 0 2097152) (λ a. col 1 2097152 a && col 2 1 a) n at
      ∙ ap (λ (x : Bool). all_at (col 0 2097152) 3 n at && x) (all_both 3 (col 1 2097152) (col 2 1) n at)

  pub elements_test : (at : ℕ) → all_at (element_format.test w) element_format.width 2 at ≡ (element_format.test w at && element_format.test w (at + element_format.width))
  unfolding all_at
  elements_test at = ap (λ (x : Bool). element_format.test w at && x) (and_true (element_format.test w (at + element_format.width)) true refl)

  pub tables_test : tables_format.test w tables_at
      ≡ (all_at (col 0 17) 1 18 tables_at && (all_at (col marks_in 7) source_format.width 16 sources_at && (element_format.test w first_at && element_format.test w second_at)))
  tables_test =
      λ i. codes_test 18 tables_at i && (all_any 1 18 gains_at i && (sources_test 16 sources_at i && elements_test first_at i))

  -- what the fields owe each other, from the words
  pub related_words : related (small_of w)
      ≡ (clock_in (get_or w 0 0) (get_or w phase_at 0) (long_of w position_at) (long_of w start_at) (get_or w pending_at 0)
      && (counts_in (get_or w objects_at 0) (get_or w isf_at 0) (get_or w beds_at 0)
      && (element_in (long_of w position_at) (least 0 (get_or w in_use_at 0) (get_or w objects_at 0) (get_or w isf_at 0)) (get_or w (first_at + flags_in) 0) (long_of w (first_at + remaining_in))
      && element_in (long_of w position_at) (least 1 (get_or w in_use_at 0) (get_or w objects_at 0) (get_or w isf_at 0)) (get_or w (second_at + flags_in) 0) (long_of w (second_at + remaining_in)))))
  unfolding small_of gets
  related_words = refl

  -- the same, from what is computed one after the other
  pub related_from : {position start rate phase pending objects isf elements beds i f first j g second : ℕ} {k n e d : Bool}
      → position ≡ long_of w position_at → start ≡ long_of w start_at → rate ≡ get_or w 0 0 → phase ≡ get_or w phase_at 0 → pending ≡ get_or w pending_at 0
      → k ≡ clock_in rate phase position start pending
      → objects ≡ get_or w objects_at 0 → isf ≡ get_or w isf_at 0 → elements ≡ get_or w in_use_at 0 → beds ≡ get_or w beds_at 0
      → n ≡ counts_in objects isf beds
      → i ≡ least 0 elements objects isf → f ≡ get_or w (first_at + flags_in) 0 → first ≡ long_of w (first_at + remaining_in) → e ≡ element_in position i f first
      → j ≡ least 1 elements objects isf → g ≡ get_or w (second_at + flags_in) 0 → second ≡ long_of w (second_at + remaining_in) → d ≡ element_in position j g second
      → (k && (n && (e && d))) ≡ related (small_of w)
  related_from p s r h q k o b u v n i f x e j g y d =
      (λ t. k t && (n t && (e t && d t)))
      ∙ (λ t. clock_in (r t) (h t) (p t) (s t) (q t) && (counts_in (o t) (b t) (v t) && (element_in (p t) (i t) (f t) (x t) && element_in (p t) (j t) (g t) (y t))))
      ∙ (λ t. clock_in (get_or w 0 0) (get_or w phase_at 0) (long_of w position_at) (long_of w start_at) (get_or w pending_at 0)
      && (counts_in (get_or w objects_at 0) (get_or w isf_at 0) (get_or w beds_at 0)
      && (element_in (long_of w position_at) (least 0 (u t) (o t) (b t)) (get_or w (first_at + flags_in) 0) (long_of w (first_at + remaining_in))
      && element_in (long_of w position_at) (least 1 (u t) (o t) (b t)) (get_or w (second_at + flags_in) 0) (long_of w (second_at + remaining_in)))))
      ∙ sym related_words

-- the numbers of two words, where each field is in its range
pub record Longs (w : List ℕ) : Type 0 where
  pub position : long_of w position_at ≤ longest
  pub start : long_of w start_at ≤ longest
  pub first : long_of w (first_at + remaining_in) ≤ 140737489403904
  pub second : long_of w (second_at + remaining_in) ≤ 140737489403904

pub longs : (w : List ℕ) → small_format.test w 0 ≡ true → Longs w
unfolding gets
longs w e =
    let h = lawful_small.within w 0 (subst T (sym e) tt) in
    let (rate, (phase, (position, (start, rest)))) = h.0 in
    let states = h.1.1.1.1.1.each in
    record { position = position; start = start; first = states.0.0.1.1; second = states.1.0.0.1.1 }

-- the small part, where its fields are in their ranges and where not
pub fields_good : (w : List ℕ) → small_format.test w 0 ≡ true → small_valid w ≡ related (small_of w)
unfolding small_valid small_of
fields_good w e = ap (λ (x : Bool). x && related (small_format.get w 0)) e

pub fields_bad : (w : List ℕ) → small_format.test w 0 ≡ false → small_valid w ≡ false
unfolding small_valid
fields_bad w e = ap (λ (x : Bool). x && related (small_format.get w 0)) e

-- the small part in a block: what is beside its words plays no part
module _ (b : List ℕ) (h : length b ≡ size) where
  words_same : Same (in_words b) 0 (words_at b 0 small_width) 0 small_width
  words_same i l =
      word_of_bytes b (0 + i) (omega arith)
      ∙ sym (word_of_run b 0 small_width (0 + i) (4 * (0 + i)) (omega arith) (omega arith))

  pub small_in_block : small_of (in_words b) ≡ small_of (words_at b 0 small_width)
  unfolding small_of
  small_in_block = lawful_small.beside (in_words b) 0 (words_at b 0 small_width) 0 words_same

  pub position_in_block : long_of (in_words b) position_at ≡ (small_of (words_at b 0 small_width)).clock.position.0
  unfolding small_of
  position_in_block = ap (λ (s : Renderer714). s.clock.position.0) small_in_block

  pub valid_in_block : small_valid (in_words b) ≡ small_valid (words_at b 0 small_width)
  unfolding small_valid
  valid_in_block = lawful_small_part.untouched (in_words b) 0 (words_at b 0 small_width) 0 words_same

module _ (b : List ℕ) where
  pub wrong_length : (length b ≡ size → ⊥) → valid b ≡ false
  unfolding valid
  wrong_length h = ap (λ (x : Bool). x && small_valid (words_at b 0 small_width) && heads_valid (infos_of b) 0 info_count && hall_valid b) (ne_eqb (length b) size h)

  pub bad_heads : heads_valid (infos_of b) 0 info_count ≡ false → valid b ≡ false
  unfolding valid
  bad_heads e = ap (λ (x : Bool). x && hall_valid b) (and_false (eqb (length b) size && small_valid (words_at b 0 small_width)) (heads_valid (infos_of b) 0 info_count) e)

  pub bad_hall : hall_valid b ≡ false → valid b ≡ false
  unfolding valid
  bad_hall e = and_false (eqb (length b) size && small_valid (words_at b 0 small_width) && heads_valid (infos_of b) 0 info_count) (hall_valid b) e

  pub good_beside : length b ≡ size → heads_valid (infos_of b) 0 info_count ≡ true → hall_valid b ≡ true → valid b ≡ small_valid (in_words b)
  unfolding valid
  good_beside h e f =
      and_true (eqb (length b) size && small_valid (words_at b 0 small_width) && heads_valid (infos_of b) 0 info_count) (hall_valid b) f
      ∙ and_true (eqb (length b) size && small_valid (words_at b 0 small_width)) (heads_valid (infos_of b) 0 info_count) e
      ∙ ap (λ (x : Bool). x && small_valid (words_at b 0 small_width)) (eq-eqb (length b) size h)
      ∙ sym (valid_in_block b h)

  -- the layout's code, where it is in its range
  pub layout_most : hall_valid b ≡ true → layout_of b ≤ 3
  unfolding hall_valid
  layout_most e = leb→le (layout_of b) 3 (and_l (leb (layout_of b) 3) (table_right (table_in b)) (subst T (sym e) tt))

  -- the hall, where the code is in its range and where not
  pub hall_good : layout_of b ≤ 3 → hall_valid b ≡ table_right (table_in b)
  unfolding hall_valid
  hall_good h = ap (λ (x : Bool). x && table_right (table_in b)) (le-leb (layout_of b) 3 h)

  pub hall_past : 3 < layout_of b → hall_valid b ≡ false
  unfolding hall_valid
  hall_past h = ap (λ (x : Bool). x && table_right (table_in b)) (lt-leb (layout_of b) 3 h)

  -- the table, where the hall is in its range
  pub table_rights : hall_valid b ≡ true → table_right (table_in b) ≡ true
  unfolding hall_valid
  table_rights e = is_true (table_right (table_in b)) (and_r (leb (layout_of b) 3) (table_right (table_in b)) (subst T (sym e) tt))
