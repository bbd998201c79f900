-- Matching, a step at a time: the search and the count from a place on, and the ways of finding. Assumes nothing.
use mathlib.Core.Path.{◌≡◌, refl, sym, ap, ap₂, ◌∙◌}
use mathlib.Core.Bool.{Bool, true, false, cond, ◌||◌}
use mathlib.Core.List.{List}
use Prim.Native.Nat.{ℕ, ◌+◌, ◌<◌}
use native.Mathlib.Omega.{arith}
use native.Mathlib.Numerals.{add-one}
use borrow.Author.Tests.{eq-eqb, ne_eqb}
use lib.Dec.{eqb}
use lib.ListN.{length, get_or, drop}
use lib.Seq.{drop-cons}
use Rattle.std.specs.Prelude.{Option, Some, None}
use Rattle.std.specs.Option.{option_or}
use Rattle.std.specs.List.{position_from}
use Rattle.std.proofs.lemmas.Iterator.Adapters.{position_from-zero}
use Rattle.std.proofs.lemmas.List.Sums.{sum_by-drop_more}
use Rattle.beds.specs.Matching.{low_frequency, matches, first_of, matching, counted}

-- ---- one step of the search and of the count

-- the first place, counted from i, of a or b
abbrev pub first_from : ℕ → ℕ → ℕ → List ℕ → Option ℕ
first_from i a b cs = position_from (λ c. eqb c a || eqb c b) i cs

-- counted from 0 it is that of the search
pub from_start : (a b : ℕ) (cs : List ℕ) → first_of a b cs ≡ first_from 0 a b cs
unfolding first_of
from_start a b cs = position_from-zero (λ c. eqb c a || eqb c b) cs

module _ (a b : ℕ) (cs : List ℕ) (i : ℕ) (h : i < length cs) where
  step : first_from i a b (drop i cs) ≡ cond (eqb (get_or cs i 0) a || eqb (get_or cs i 0) b) (Some i) (first_from (i + 1) a b (drop (i + 1) cs))
  step =
      ap (first_from i a b) (drop-cons cs i 0 h)
      ∙ ap (λ (n : ℕ). cond (eqb (get_or cs i 0) a || eqb (get_or cs i 0) b) (Some i) (first_from (i + 1) a b (drop n cs))) (sym (add-one i))

  pub passed : (get_or cs i 0 ≡ a → ⊥) → (get_or cs i 0 ≡ b → ⊥) → first_from (i + 1) a b (drop (i + 1) cs) ≡ first_from i a b (drop i cs)
  passed m n =
      sym (step ∙ ap₂ (λ (s t : Bool). cond (s || t) (Some i) (first_from (i + 1) a b (drop (i + 1) cs))) (ne_eqb (get_or cs i 0) a m) (ne_eqb (get_or cs i 0) b n))

  pub found_first : get_or cs i 0 ≡ a → Some i ≡ first_from i a b (drop i cs)
  found_first e = sym (step ∙ ap (λ (s : Bool). cond (s || eqb (get_or cs i 0) b) (Some i) (first_from (i + 1) a b (drop (i + 1) cs))) (eq-eqb (get_or cs i 0) a e))

  pub found_second : get_or cs i 0 ≡ b → Some i ≡ first_from i a b (drop i cs)
  found_second e =
      sym (step ∙ ap (λ (t : Bool). cond (eqb (get_or cs i 0) a || t) (Some i) (first_from (i + 1) a b (drop (i + 1) cs))) (eq-eqb (get_or cs i 0) b e)
      ∙ or_true (eqb (get_or cs i 0) a))
    where
      or_true : (t : Bool) → cond (t || true) (Some i) (first_from (i + 1) a b (drop (i + 1) cs)) ≡ Some i
      or_true true = refl
      or_true false = refl

module _ (code : ℕ) (cs : List ℕ) (i : ℕ) (h : i < length cs) where
  pub counted_more : (n m all : ℕ) (t : Bool) → matches code (get_or cs i 0) ≡ t → m ≡ n + cond t 1 0 → n + counted code (drop i cs) ≡ all → m + counted code (drop (i + 1) cs) ≡ all
  counted_more n m all t p q r =
      let e : counted code (drop i cs) ≡ cond (matches code (get_or cs i 0)) 1 0 + counted code (drop (i + 1) cs) =
      sum_by-drop_more (λ x. cond (matches code x) 1 0) cs i 0 h in
      let f : counted code (drop i cs) ≡ cond t 1 0 + counted code (drop (i + 1) cs) = e ∙ ap (λ (b : Bool). cond b 1 0 + counted code (drop (i + 1) cs)) p in
      omega arith

-- ---- the ways of finding

module _ (code : ℕ) (cs : List ℕ) where
  pub by_exact : {i : ℕ} → first_of code code cs ≡ Some i → Some i ≡ matching code cs
  unfolding matching
  by_exact e = sym (ap (λ (f : Option ℕ). option_or f (cond (low_frequency code) (first_of 3 17 cs) None)) e)

  pub by_else : {t : Bool} → first_of code code cs ≡ None → low_frequency code ≡ t → cond t (first_of 3 17 cs) None ≡ matching code cs
  unfolding matching
  by_else e t = sym (ap (λ (f : Option ℕ). option_or f (cond (low_frequency code) (first_of 3 17 cs) None)) e ∙ ap (λ (b : Bool). cond b (first_of 3 17 cs) None) t)
