-- A hall with a table: its places are read, and it is the built-in one where the bytes are no accepted table. Assumes nothing.
use Prim.Native.Nat.{ℕ, suc, ◌<◌, ◌^◌}
use mathlib.Core.Path.{◌≡◌, refl, sym, ap, ◌∙◌}
use mathlib.Core.Bool.{Bool, true, false, cond, ◌&&◌}
use mathlib.Core.List.{List, [], ◌∷◌}
use lib.Dec.{eqb}
use lib.ListN.{length, get_or}
use borrow.Author.Tests.{eq-eqb, ne_eqb}
use Rattle.words.specs.Words.{Words, words_at}
use Rattle.panning.specs.Setup.{table_right, built_in_table}
use Rattle.panning.proofs.Theorems.{built_in_right}
use Rattle.probes.specs.Taken.{table_if}

pub words_each : (t : List ℕ) → ((i : ℕ) → get_or t i 0 < 2 ^ 32) → Words t
words_each [] h = tt
words_each (w ∷ ws) h = (h 0, words_each ws (λ i. h (suc i)))

module _ (b : List ℕ) where
  abbrev by_tests : Bool → Bool → List ℕ
  by_tests long right = cond (long && right) (words_at b 0 36) built_in_table

  pub not_long : (length b ≡ 144 → ⊥) → built_in_table ≡ table_if b
  unfolding table_if
  not_long h = sym (ap (λ (l : Bool). by_tests l (table_right (words_at b 0 36))) (ne_eqb (length b) 144 h))

  module _ (l : length b ≡ 144) where
    pub not_right : table_right (words_at b 0 36) ≡ false → built_in_table ≡ table_if b
    unfolding table_if
    not_right r = sym (ap (λ (t : Bool). by_tests t (table_right (words_at b 0 36))) (eq-eqb (length b) 144 l) ∙ ap (by_tests true) r)

    pub own : table_right (words_at b 0 36) ≡ true → words_at b 0 36 ≡ table_if b
    unfolding table_if
    own r = sym (ap (λ (t : Bool). by_tests t (table_right (words_at b 0 36))) (eq-eqb (length b) 144 l) ∙ ap (by_tests true) r)

  pub right_if : table_right (table_if b) ≡ true
  unfolding table_if
  right_if = by (eqb (length b) 144) (table_right (words_at b 0 36)) refl
    where
      by : (long right : Bool) → table_right (words_at b 0 36) ≡ right → table_right (by_tests long right) ≡ true
      by true true r = r
      by true false r = built_in_right
      by false right r = built_in_right
