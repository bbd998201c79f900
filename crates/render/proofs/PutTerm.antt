-- One term put behind those of a channel: written past the list's end, and within it if it is heard. Assumes nothing.
use mathlib.Core.Path.{◌≡◌, refl, sym, ap, subst, ◌∙◌}
use mathlib.Core.Bool.{Bool, true, false}
use mathlib.Core.List.{List, [], ◌∷◌, ◌++◌, append-nil}
use Prim.Native.Nat.{ℕ, ◌+◌, ◌-◌, ◌*◌, ◌<◌, ◌≤◌}
use native.Mathlib.Omega.{arith}
use borrow.Author.Tests.{eq-eqb, eqb-true, eqb-false, ltb-true, ltb-false}
use lib.Dec.{eqb, ltb}
use lib.ListN.{length, get_or, take, drop, set, length-set, length-drop}
use lib.Ieee.{Float, eq}
use Rattle.std.proofs.lemmas.List.{get_or-set_same, get_or-set_other, take-set, take-set-le, take_more_set, drop-set-lt, drop-set-add}
use Rattle.panning.specs.Terms.{term}
use Rattle.rules.specs.Parts.{0·0}
use Rattle.render.specs.declared.lists.Fed.{Fed}
use Rattle.render.specs.declared.lists.Lists.{Lists}
use Rattle.render.specs.Listed.{Sized, Grown, fed_with, fed_of, list_of}
use Rattle.render.proofs.FedTerms.{fed_on, silent_none, heard_one, term_silent, term_elsewhere, term_here}

-- how many terms one coefficient gives: none or one
pub one_fits : (g : Float) → length (fed_of 0 (g ∷ [])) ≤ 1
one_fits g = go (eq g 0·0) refl
  where
    go : (b : Bool) → eq g 0·0 ≡ b → length (fed_of 0 (g ∷ [])) ≤ 1
    go true e = let p = silent_none 0 g e in omega arith
    go false e = let p = heard_one 0 g e in omega arith

module _ (a : Lists) (s : Sized a) (c i : ℕ) (g : Float) (inside : c < 12) where
  abbrev n : ℕ
  n = get_or a.counts c 0

  abbrev h : ℕ
  h = length (fed_of 0 (g ∷ []))

  -- the lists with it
  abbrev with_term : Lists
  with_term = record { counts = set a.counts c (n + h); terms = set a.terms (50 * c + n) (fed_with i g); full = a.full }

  module _ (left : n < 50) where
    count_here : get_or with_term.counts c 0 ≡ n + h
    count_here = let l : c < length a.counts = let p = s.channels in omega arith in get_or-set_same a.counts c (n + h) 0 l

    count_else : (k : ℕ) → (k ≡ c → ⊥) → get_or with_term.counts k 0 ≡ get_or a.counts k 0
    count_else k d = get_or-set_other a.counts c k (n + h) 0 d

    room : (k : ℕ) → get_or with_term.counts k 0 ≤ 50
    room k = go (eqb k c) refl
      where
        go : (b : Bool) → eqb k c ≡ b → get_or with_term.counts k 0 ≤ 50
        go true e = let p = count_here in let o = one_fits g in let q = eqb-true k c e in subst (λ (j : ℕ). get_or with_term.counts j 0 ≤ 50) (sym q) (omega arith)
        go false e = let p = count_else k (eqb-false k c e) in let r = s.room k in omega arith

    sized : Sized with_term
    sized = record { channels = length-set a.counts c (n + h) ∙ s.channels; terms = length-set a.terms (50 * c + n) (fed_with i g) ∙ s.terms; room = room }

    -- the terms of channel c from its place on
    abbrev places : ℕ → List Fed
    places k = drop (50 * k) a.terms

    places_here : drop (50 * c) with_term.terms ≡ set (places c) n (fed_with i g)
    places_here = drop-set-add (50 * c) a.terms n (fed_with i g)

    -- heard, it is one more term of the list; else it is past the list's end
    list_here : list_of with_term c ≡ list_of a c ++ fed_on i (term c g ∷ []) c
    list_here = go (eq g 0·0) refl
      where
        counted : list_of with_term c ≡ take (n + h) (set (places c) n (fed_with i g))
        counted = ap (λ (m : ℕ). take m (drop (50 * c) with_term.terms)) count_here ∙ ap (take (n + h)) places_here

        inner : n < length (places c)
        inner = let p = s.terms in let q = length-drop (50 * c) a.terms in omega arith

        go : (b : Bool) → eq g 0·0 ≡ b → list_of with_term c ≡ list_of a c ++ fed_on i (term c g ∷ []) c
        go true e =
            let m : n + h ≡ n = let p = silent_none 0 g e in omega arith in
            counted
            ∙ ap (λ (k : ℕ). take k (set (places c) n (fed_with i g))) m
            ∙ take-set (places c) n (fed_with i g)
            ∙ sym (ap (λ (fs : List Fed). list_of a c ++ fs) (term_silent i (term c g) c e) ∙ append-nil (list_of a c))
        go false e =
            let m : n + h ≡ n + 1 = let p = heard_one 0 g e in omega arith in
            counted
            ∙ ap (λ (k : ℕ). take k (set (places c) n (fed_with i g))) m
            ∙ take_more_set (places c) n (fed_with i g) inner
            ∙ sym (ap (λ (fs : List Fed). list_of a c ++ fs) (term_here i (term c g) c (eq-eqb c c refl) e))

    -- another channel's list is elsewhere
    list_else : (k : ℕ) → (k ≡ c → ⊥) → list_of with_term k ≡ list_of a k
    list_else k d = ap (λ (m : ℕ). take m (drop (50 * k) with_term.terms)) (count_else k d) ∙ go (ltb k c) refl
      where
        m : ℕ
        m = get_or a.counts k 0

        go : (b : Bool) → ltb k c ≡ b → take m (drop (50 * k) with_term.terms) ≡ list_of a k
        go true e =
            let l = ltb-true k c e in
            let j = 50 * c + n - 50 * k in
            let q : 50 * k + j ≡ 50 * c + n = omega arith in
            let r = s.room k in
            let o : m ≤ j = omega arith in
            ap (λ (p : ℕ). take m (drop (50 * k) (set a.terms p (fed_with i g)))) (sym q)
            ∙ ap (take m) (drop-set-add (50 * k) a.terms j (fed_with i g))
            ∙ take-set-le m (places k) j (fed_with i g) o
        go false e =
            let l = ltb-false k c e in
            let q : 50 * c + n < 50 * k = omega (arith, d) in
            ap (take m) (drop-set-lt (50 * k) a.terms (50 * c + n) (fed_with i g) q)

    pub put_grown : Grown (λ k. fed_on i (term c g ∷ []) k) a with_term
    put_grown = record { sized = sized; full = λ p. p; lists = λ p k l. go k (eqb k c) refl }
      where
        go : (k : ℕ) → (b : Bool) → eqb k c ≡ b → list_of with_term k ≡ list_of a k ++ fed_on i (term c g ∷ []) k
        go k true e = subst (λ (j : ℕ). list_of with_term j ≡ list_of a j ++ fed_on i (term c g ∷ []) j) (sym (eqb-true k c e)) list_here
        go k false e =
            list_else k (eqb-false k c e)
            ∙ sym (ap (λ (fs : List Fed). list_of a k ++ fs) (term_elsewhere i (term c g) k e) ∙ append-nil (list_of a k))
