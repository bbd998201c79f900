-- The terms that an input feeds on a channel: one after another, without those of zero. Assumes nothing.
use mathlib.Core.Path.{◌≡◌, refl, sym, ap, ◌∙◌}
use mathlib.Core.Bool.{Bool, true, false, cond, not}
use mathlib.Core.List.{List, [], ◌∷◌, ◌++◌}
use Prim.Native.Nat.{ℕ}
use lib.Dec.{eqb}
use lib.ListN.{length}
use lib.Ieee.{Float, of_bits, eq, ne}
use Rattle.panning.specs.Terms.{Term, term, terms, on_channel, audible, paired, spread}
use Rattle.panning.specs.declared.Panned.{Panned}
use Rattle.rules.specs.Parts.{0·0}
use Rattle.render.specs.declared.lists.Fed.{Fed}
use Rattle.render.specs.Listed.{fed_with, fed_of}

-- ---- coefficients

pub fed_none : (i : ℕ) (g : Float) (gs : List Float) → eq g 0·0 ≡ true → fed_of i (g ∷ gs) ≡ fed_of i gs
unfolding fed_of
fed_none i g gs e = rw e

pub fed_some : (i : ℕ) (g : Float) (gs : List Float) → eq g 0·0 ≡ false → fed_of i (g ∷ gs) ≡ fed_with i g ∷ fed_of i gs
unfolding fed_of
fed_some i g gs e = rw e

fed_nil : (i : ℕ) → fed_of i [] ≡ []
unfolding fed_of
fed_nil i = refl

-- how many one coefficient gives
pub silent_none : (i : ℕ) (g : Float) → eq g 0·0 ≡ true → length (fed_of i (g ∷ [])) ≡ 0
silent_none i g e = ap length (fed_none i g [] e ∙ fed_nil i)

pub heard_one : (i : ℕ) (g : Float) → eq g 0·0 ≡ false → length (fed_of i (g ∷ [])) ≡ 1
heard_one i g e = ap length (fed_some i g [] e ∙ ap (λ (fs : List Fed). fed_with i g ∷ fs) (fed_nil i))

fed_then : (i : ℕ) (gs hs : List Float) → fed_of i (gs ++ hs) ≡ fed_of i gs ++ fed_of i hs
unfolding fed_of
fed_then i [] hs = refl
fed_then i (g ∷ gs) hs = go (eq g 0·0) (fed_then i gs hs)
  where
    go : (b : Bool) → fed_of i (gs ++ hs) ≡ fed_of i gs ++ fed_of i hs
        → cond b (fed_of i (gs ++ hs)) (fed_with i g ∷ fed_of i (gs ++ hs)) ≡ cond b (fed_of i gs) (fed_with i g ∷ fed_of i gs) ++ fed_of i hs
    go true h = h
    go false h = ap (λ (fs : List Fed). fed_with i g ∷ fs) h

-- ---- terms

-- what input i feeds to channel c
abbrev pub fed_on : ℕ → List Term → ℕ → List Fed
fed_on i ts c = fed_of i (on_channel c ts)

on_then : (c : ℕ) (ts us : List Term) → on_channel c (ts ++ us) ≡ on_channel c ts ++ on_channel c us
unfolding on_channel
on_then c [] us = refl
on_then c (t ∷ ts) us = go (eqb c t.channel) (on_then c ts us)
  where
    go : (b : Bool) → on_channel c (ts ++ us) ≡ on_channel c ts ++ on_channel c us
        → cond b (t.coefficient ∷ on_channel c (ts ++ us)) (on_channel c (ts ++ us)) ≡ cond b (t.coefficient ∷ on_channel c ts) (on_channel c ts) ++ on_channel c us
    go true h = ap (λ (gs : List Float). t.coefficient ∷ gs) h
    go false h = h

pub terms_none : (i c : ℕ) → fed_on i [] c ≡ []
unfolding on_channel fed_of
terms_none i c = refl

-- one list and then another, and one term and then others
pub terms_then : (i : ℕ) (ts us : List Term) (c : ℕ) → fed_on i (ts ++ us) c ≡ fed_on i ts c ++ fed_on i us c
terms_then i ts us c = ap (fed_of i) (on_then c ts us) ∙ fed_then i (on_channel c ts) (on_channel c us)

pub term_then : (i : ℕ) (t : Term) (ts : List Term) (c : ℕ) → fed_on i (t ∷ ts) c ≡ fed_on i (t ∷ []) c ++ fed_on i ts c
term_then i t ts c = terms_then i (t ∷ []) ts c

-- ---- what is silent

pub term_silent : (i : ℕ) (t : Term) (c : ℕ) → eq t.coefficient 0·0 ≡ true → fed_on i (t ∷ []) c ≡ []
unfolding on_channel
term_silent i t c e = go (eqb c t.channel)
  where
    go : (b : Bool) → fed_of i (cond b (t.coefficient ∷ []) []) ≡ []
    go true = fed_none i t.coefficient [] e ∙ fed_nil i
    go false = fed_nil i

-- a term is heard on its channel alone
pub term_elsewhere : (i : ℕ) (t : Term) (c : ℕ) → eqb c t.channel ≡ false → fed_on i (t ∷ []) c ≡ []
unfolding on_channel
term_elsewhere i t c e = rw e (fed_nil i)

pub term_here : (i : ℕ) (t : Term) (c : ℕ) → eqb c t.channel ≡ true → eq t.coefficient 0·0 ≡ false → fed_on i (t ∷ []) c ≡ fed_with i t.coefficient ∷ []
unfolding on_channel
term_here i t c e n = rw e (fed_some i t.coefficient [] n ∙ ap (λ (fs : List Fed). fed_with i t.coefficient ∷ fs) (fed_nil i))

pub spread_silent : (i : ℕ) (ks : List ℕ) (g : Float) (c : ℕ) → eq g 0·0 ≡ true → fed_on i (spread ks g) c ≡ []
spread_silent i [] g c e = terms_none i c
spread_silent i (k ∷ ks) g c e =
    term_then i (term k g) (spread ks g) c
    ∙ ap (λ (fs : List Fed). fs ++ fed_on i (spread ks g) c) (term_silent i (term k g) c e)
    ∙ spread_silent i ks g c e

pub terms_audible : (i : ℕ) (ts : List Term) (c : ℕ) → fed_on i (audible ts) c ≡ fed_on i ts c
unfolding audible ne of_bits
terms_audible i [] c = refl
terms_audible i (t ∷ ts) c = go (eq t.coefficient 0·0) refl (terms_audible i ts c)
  where
    go : (b : Bool) → eq t.coefficient 0·0 ≡ b → fed_on i (audible ts) c ≡ fed_on i ts c → fed_on i (cond (not b) (t ∷ audible ts) (audible ts)) c ≡ fed_on i (t ∷ ts) c
    go true e h = h ∙ sym (term_then i t ts c ∙ ap (λ (fs : List Fed). fs ++ fed_on i ts c) (term_silent i t c e))
    go false e h = term_then i t (audible ts) c ∙ ap (λ (fs : List Fed). fed_on i (t ∷ []) c ++ fs) h ∙ sym (term_then i t ts c)

-- a source's terms: those of its size, and then its corners
pub terms_panned : (i : ℕ) (l : List ℕ) (p : Panned) (c : ℕ) → fed_on i (spread l p.extra) c ++ fed_on i (paired p.corners p.coefficients) c ≡ fed_on i (terms l p) c
terms_panned i l p c =
    let ss = spread l p.extra in
    let cs = paired p.corners p.coefficients in
    sym
    (terms_then i (audible ss) (audible cs) c
    ∙ ap (λ (fs : List Fed). fs ++ fed_on i (audible cs) c) (terms_audible i ss c)
    ∙ ap (λ (fs : List Fed). fed_on i ss c ++ fs) (terms_audible i cs c))
