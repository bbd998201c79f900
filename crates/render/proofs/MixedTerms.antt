-- Terms mixed one after another: a coefficient of zero changes nothing, and one term more. Assumes nothing.
use mathlib.Core.Path.{◌≡◌, refl, sym, ap, ◌∙◌}
use mathlib.Core.Bool.{Bool, true, false, cond, not}
use mathlib.Core.List.{List, [], ◌∷◌, ◌++◌}
use Prim.Native.Nat.{ℕ, suc, ◌+◌, ◌-◌, ◌*◌, ◌<◌, ◌≤◌}
use native.Mathlib.Omega.{arith}
use native.Mathlib.Numerals.{add-one}
use lib.ListN.{length, get_or, take, drop, take-append-drop, drop_of_length-le}
use lib.Seq.{drop-cons}
use lib.Ieee.{Float, nan, of_bits, eq, ne}
use Rattle.mixing.specs.Mixing.{0·0f}
use Rattle.mixing.specs.Part.{on_part}
use Rattle.mixing.proofs.Theorems.{full_zero}
use Rattle.panning.specs.Terms.{Term, term, terms, audible, paired, spread}
use Rattle.panning.specs.declared.Panned.{Panned}
use Rattle.render.specs.MixedRows.{mixed_term, mixed_terms}
use Rattle.render.proofs.Marks.{sounds_on, marked_from}

module _ (xs : List Float) where
  -- ---- nothing to add

  pub term_none : (t : Term) (os : List Float) → eq t.coefficient 0·0f ≡ true → mixed_term xs t os ≡ os
  unfolding mixed_term on_part
  term_none t os e =
      let b = 64 * t.channel in
      let n = length xs in
      ap (λ (ys : List Float). take b os ++ (ys ++ drop n (drop b os))) (sym (full_zero xs t.coefficient (take n (drop b os)) e))
      ∙ ap (λ (ys : List Float). take b os ++ ys) (take-append-drop n (drop b os))
      ∙ take-append-drop b os

  pub spread_none : (ks : List ℕ) (g : Float) (os : List Float) → eq g 0·0f ≡ true → mixed_terms xs (spread ks g) os ≡ os
  spread_none [] g os e = refl
  spread_none (k ∷ ks) g os e = spread_none ks g (mixed_term xs (term k g) os) e ∙ term_none (term k g) os e

  pub mixed_audible : (ts : List Term) (os : List Float) → mixed_terms xs (audible ts) os ≡ mixed_terms xs ts os
  unfolding audible ne of_bits
  mixed_audible [] os = refl
  mixed_audible (t ∷ ts) os = go (eq t.coefficient 0·0f) refl (mixed_audible ts)
    where
      go : (b : Bool) → eq t.coefficient 0·0f ≡ b → ((o : List Float) → mixed_terms xs (audible ts) o ≡ mixed_terms xs ts o)
          → mixed_terms xs (cond (not b) (t ∷ audible ts) (audible ts)) os ≡ mixed_terms xs ts (mixed_term xs t os)
      go true e h = h os ∙ ap (mixed_terms xs ts) (sym (term_none t os e))
      go false e h = h (mixed_term xs t os)

  -- ---- one after another

  pub mixed_append : (ts us : List Term) (os : List Float) → mixed_terms xs (ts ++ us) os ≡ mixed_terms xs us (mixed_terms xs ts os)
  mixed_append [] us os = refl
  mixed_append (t ∷ ts) us os = mixed_append ts us (mixed_term xs t os)

  -- what is mixed of a source: the size's part and then the corners
  pub mixed_panned : (l : List ℕ) (p : Panned) (os : List Float)
      → mixed_terms xs (paired p.corners p.coefficients) (mixed_terms xs (spread l p.extra) os) ≡ mixed_terms xs (terms l p) os
  mixed_panned l p os =
      let ss = spread l p.extra in
      let cs = paired p.corners p.coefficients in
      sym
      (mixed_append (audible ss) (audible cs) os
      ∙ mixed_audible cs (mixed_terms xs (audible ss) os)
      ∙ ap (mixed_terms xs cs) (mixed_audible ss os))

  -- ---- one more of a loop, and all of them: what is left to mix still gives `end`

  -- channel c, which sounds
  pub spread_step : (ms : List Bool) (c : ℕ) (g : Float) (os : List Float) {new end : List Float} → c < 12 → sounds_on ms c ≡ true → new ≡ mixed_term xs (term c g) os
      → mixed_terms xs (spread (marked_from ms c (12 - c)) g) os ≡ end → mixed_terms xs (spread (marked_from ms (c + 1) (12 - (c + 1))) g) new ≡ end
  unfolding marked_from
  spread_step ms c g os h b p q =
      let e : 12 - c ≡ suc (12 - (c + 1)) = omega arith in
      rw (p, add-one c) (rw (e, add-one c, b) at q)

  -- and one that does not
  pub spread_skip : (ms : List Bool) (c : ℕ) (g : Float) (os : List Float) {new end : List Float} → c < 12 → sounds_on ms c ≡ false → new ≡ os
      → mixed_terms xs (spread (marked_from ms c (12 - c)) g) os ≡ end → mixed_terms xs (spread (marked_from ms (c + 1) (12 - (c + 1))) g) new ≡ end
  unfolding marked_from
  spread_skip ms c g os h b p q =
      let e : 12 - c ≡ suc (12 - (c + 1)) = omega arith in
      rw (p, add-one c) (rw (e, add-one c, b) at q)

  pub spread_done : (ms : List Bool) (c : ℕ) (g : Float) (os : List Float) {end : List Float} → 12 ≤ c → mixed_terms xs (spread (marked_from ms c (12 - c)) g) os ≡ end → os ≡ end
  unfolding marked_from
  spread_done ms c g os h q =
      let e : 12 - c ≡ 0 = omega arith in
      rw e at q

  pub corner_step : (j : ℕ) (ks : List ℕ) (cs os : List Float) {new end : List Float} → j < length ks → j < length cs → new ≡ mixed_term xs (term (get_or ks j 0) (get_or cs j nan)) os
      → mixed_terms xs (paired (drop j ks) (drop j cs)) os ≡ end → mixed_terms xs (paired (drop (j + 1) ks) (drop (j + 1) cs)) new ≡ end
  unfolding paired
  corner_step j ks cs os h l p q = rw (add-one j, p) (rw (drop-cons ks j 0 h, drop-cons cs j nan l) at q)

  pub corners_done : (j : ℕ) (ks : List ℕ) (cs os : List Float) {end : List Float} → length ks ≤ j → mixed_terms xs (paired (drop j ks) (drop j cs)) os ≡ end → os ≡ end
  unfolding paired
  corners_done j ks cs os h q = rw (drop_of_length-le ks h) at q
