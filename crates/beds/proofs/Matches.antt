-- What `matching` finds: a place within the inputs whose code matches, and nothing exactly where the count is 0. Assumes nothing.
use mathlib.Core.Path.{◌≡◌, refl, sym, ap, ◌∙◌}
use mathlib.Core.Bool.{Bool, true, false, cond, ◌&&◌, ◌||◌}
use mathlib.Core.List.{List, [], ◌∷◌}
use Prim.Native.Nat.{ℕ, suc, ◌<◌, ◌≤◌}
use native.Mathlib.Omega.{arith}
use borrow.Author.Tests.{eqb-false, eqb-true, ltb-false, ne_eqb, eq-eqb}
use lib.Dec.{eqb, ltb}
use lib.ListN.{length, get_or}
use Rattle.std.specs.Prelude.{Option, Some, None}
use Rattle.std.specs.Option.{option_or}
use Rattle.std.specs.List.{position, position_or_len}
use Rattle.std.proofs.lemmas.Option.{none-some}
use Rattle.std.proofs.lemmas.List.Quantifiers.{position-Some}
use Rattle.std.proofs.lemmas.List.Sums.{sum_by-cons, get_or-le-sum_by, fails_before_first}
use Rattle.beds.specs.Matching.{low_frequency, matches, first_of, matching, counted}

-- ---- the count

-- where each code's match is refuted, the count is 0
none_counted : (code : ℕ) (cs : List ℕ) → ((k : ℕ) → k < length cs → matches code (get_or cs k 0) ≡ false) → counted code cs ≡ 0
none_counted code [] h = refl
none_counted code (c ∷ cs) h =
    let e : matches code c ≡ false = h 0 (omega arith) in
    let r : counted code cs ≡ 0 = none_counted code cs (λ k l. h (suc k) (omega arith)) in
    sum_by-cons (λ x. cond (matches code x) 1 0) c cs ∙ rw (e, r)

-- a code that matches is counted
one_counted : (code : ℕ) (cs : List ℕ) (k : ℕ) → k < length cs → matches code (get_or cs k 0) ≡ true → 0 < counted code cs
one_counted code cs k h e = rw e at (get_or-le-sum_by (λ x. cond (matches code x) 1 0) cs k 0 h)

-- ---- the search

-- where no place is found, each fails the test
none_passes : (p : ℕ → Bool) (cs : List ℕ) → position p cs ≡ None → (k : ℕ) → k < length cs → p (get_or cs k 0) ≡ false
none_passes p cs e k h = go (ltb (position_or_len p cs) (length cs)) refl e
  where
    go : (t : Bool) → ltb (position_or_len p cs) (length cs) ≡ t → cond t (Some (position_or_len p cs)) None ≡ None → p (get_or cs k 0) ≡ false
    go true q n = absurd (none-some _ (sym n))
    go false q n =
        let b : length cs ≤ position_or_len p cs = ltb-false _ _ q in
        fails_before_first p cs k 0 (omega arith)

-- what holds of the answer: a place among the inputs whose code matches, or that none is counted
abbrev pub Judged : ℕ → List ℕ → Option ℕ → Type 0
Judged code cs (Some i) = (i < length cs) × (matches code (get_or cs i 0) ≡ true)
Judged code cs None = counted code cs ≡ 0

-- the test of the search for the code itself, as `matches` writes it
exact : (code c : ℕ) → (eqb c code || eqb c code) ≡ eqb code c
exact code c = go (eqb c code) refl
  where
    go : (t : Bool) → eqb c code ≡ t → (eqb c code || eqb c code) ≡ eqb code c
    go true e = rw (e, eq-eqb code c (sym (eqb-true c code e)))
    go false e = rw (e, ne_eqb code c (λ h. eqb-false c code e (sym h)))

or_both : (x : Bool) {a b : Bool} → a ≡ true → b ≡ true → (x || (a && b)) ≡ true
or_both true p q = refl
or_both false p q = rw (p, q)

and_none : (a : Bool) {b : Bool} → b ≡ false → (a && b) ≡ false
and_none true p = p
and_none false p = refl

module _ (code : ℕ) (cs : List ℕ) where
  -- where the code itself is not found, and not an LFE code where that is wanted
  unlike : (k : ℕ) → first_of code code cs ≡ None → k < length cs → (low_frequency code && low_frequency (get_or cs k 0)) ≡ false → matches code (get_or cs k 0) ≡ false
  unfolding first_of
  unlike k w h f = rw (sym (exact code (get_or cs k 0)) ∙ none_passes _ cs w k h) f

  low : (t : Bool) → low_frequency code ≡ t → first_of code code cs ≡ None → (f : Option ℕ) → first_of 3 17 cs ≡ f → Judged code cs (cond t f None)
  unfolding first_of
  low true e w (Some i) v = let p = position-Some _ cs i 0 v in (p.0, or_both (eqb code (get_or cs i 0)) e p.1)
  low true e w None v = none_counted code cs (λ k h. unlike k w h (and_none (low_frequency code) (none_passes _ cs v k h)))
  low false e w f v = none_counted code cs (λ k h. unlike k w h (ap (λ (b : Bool). b && low_frequency (get_or cs k 0)) e))

  first : (f : Option ℕ) → first_of code code cs ≡ f → Judged code cs (option_or f (cond (low_frequency code) (first_of 3 17 cs) None))
  unfolding first_of
  first (Some i) w = let p = position-Some _ cs i 0 w in (p.0, rw (sym (exact code (get_or cs i 0)) ∙ p.1))
  first None w = low (low_frequency code) refl w (first_of 3 17 cs) refl

  -- Refusal 13's second count is 0.
  pub judged : Judged code cs (matching code cs)
  unfolding matching
  judged = first (first_of code code cs) refl

  -- and nothing is found only there
  pub counted_none : counted code cs ≡ 0 → matching code cs ≡ None
  counted_none e = go (matching code cs) judged
    where
      go : (f : Option ℕ) → Judged code cs f → f ≡ None
      go (Some i) w = let p = one_counted code cs i w.0 w.1 in absurd (omega arith)
      go None w = refl
