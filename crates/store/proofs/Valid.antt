-- The block of a renderer in range is valid. Assumes nothing.
use mathlib.Core.Path.{sym, subst}
use mathlib.Core.Bool.{◌&&◌}
use mathlib.Core.List.{List}
use Prim.Native.Nat.{ℕ}
use lib.Dec.{T, eqb, leb, le→leb}
use lib.ListN.{length}
use Rattle.words.specs.Words.{words_at}
use Rattle.formats.specs.Areas.{info_count}
use Rattle.formats.proofs.Theorems.{and_in, stands_all, passes}
use Rattle.timed.specs.State.{Timed}
use Rattle.panning.specs.Setup.{Setup, table_right}
use Rattle.rules.specs.Samples.{Renderer}
use Rattle.store.specs.Fields.{small_words}
use Rattle.store.specs.Layout.{small_width, size, small, infos_of, encode}
use Rattle.store.specs.ValidBlocks.{small_part, small_valid, heads_valid, hall_valid, valid}
use Rattle.store.specs.Ranged.{BlockRanged}
use Rattle.store.proofs.SmallPartBack.{lawful_small_part}
use Rattle.store.proofs.Whole.{small_full, words_back, infos_back, setup_back, encode_long}

module _ (r : Renderer Timed (List ℕ)) (h : BlockRanged r) where
  small_valid_is : T (small_valid (small_words (small r)))
  unfolding small_valid small_words
  small_valid_is = passes small_part lawful_small_part (small r) (small_full r h) (small_words (small r)) 0 (stands_all (small_words (small r)))

  pub hall_encode : T (hall_valid (encode r))
  unfolding hall_valid
  hall_encode =
      subst (λ (s : Setup). T (leb s.layout 3 && table_right s.table)) (sym (setup_back r h))
      (and_in (leb r.setup.layout 3) (table_right r.setup.table) (le→leb _ _ h.setup.layout) (subst T (sym h.setup.right) tt))

  pub valid_encode : T (valid (encode r))
  unfolding valid
  valid_encode =
      let b = encode r in
      and_in (eqb (length b) size && small_valid (words_at b 0 small_width) && heads_valid (infos_of b) 0 info_count) (hall_valid b)
      (and_in (eqb (length b) size && small_valid (words_at b 0 small_width)) (heads_valid (infos_of b) 0 info_count)
      (and_in (eqb (length b) size) (small_valid (words_at b 0 small_width)) (subst (λ (n : ℕ). T (eqb n size)) (sym (encode_long r h)) tt)
      (subst (λ (w : List ℕ). T (small_valid w)) (sym (words_back r h)) small_valid_is))
      (subst (λ (is : List ℕ). T (heads_valid is 0 info_count)) (sym (infos_back r h)) h.infos.heads))
      hall_encode
