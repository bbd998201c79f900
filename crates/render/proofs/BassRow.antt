-- The low-pass over the bass row of a run: each channel's row is what the rules give, moment after moment. Assumes nothing.
use mathlib.Core.Path.{◌≡◌, refl, sym, ap, subst, ◌∙◌}
use mathlib.Core.Bool.{Bool, true, false, cond}
use mathlib.Core.List.{List, [], ◌∷◌, ◌++◌}
use Prim.Native.Nat.{ℕ, zero, suc, ◌+◌, ◌-◌, ◌*◌, ◌<◌, ◌≤◌}
use native.Mathlib.Omega.{arith}
use borrow.Author.Tests.{eqb-true, eqb-false, ltb-true, ltb-false}
use lib.Dec.{eqb, ltb}
use lib.ListN.{length, get_or, take, drop}
use lib.Ieee.{Float, nan}
use Rattle.mixing.specs.Part.{on_part}
use Rattle.mixing.proofs.Parts.{part_same, part_earlier, part_later, part_before, part_past}
use Rattle.lowpass.specs.Lowpass.{output, next, filtered, after_all}
use Rattle.lowpass.specs.declared.BiquadLowpassState.{BiquadLowpassState}
use Rattle.rules.specs.Mix.{Moment, heard, fed}
use Rattle.render.specs.Run.{column, Heard, filter_after, row_run, Passed}

length_filtered : (low : BiquadLowpassState) (xs : List Float) → length (filtered low xs) ≡ length xs
length_filtered low [] = refl
length_filtered low (x ∷ xs) = ap suc (length_filtered (next low x) xs)

module _ (m : ℕ → Moment) where
  bass : (low : BiquadLowpassState) (t k : ℕ) → filtered low (column m 3 t k) ≡ row_run m low 3 t k
  bass low t zero = refl
  bass low t (suc k) = ap (λ (l : List Float). output low (fed (m t)) ∷ l) (bass (next low (fed (m t))) (suc t) k)

  after : (low : BiquadLowpassState) (t k : ℕ) → after_all low (column m 3 t k) ≡ filter_after m low t k
  after low t zero = refl
  after low t (suc k) = after (next low (fed (m t))) (suc t) k

  other : (low : BiquadLowpassState) (c t k : ℕ) → eqb c 3 ≡ false → column m c t k ≡ row_run m low c t k
  other low c t zero e = refl
  other low c t (suc k) e =
      ap (λ (l : List Float). heard (m t) c ∷ l) (other (next low (fed (m t))) c (suc t) k e)
      ∙ ap (λ (b : Bool). cond b (output low (fed (m t)) ∷ []) (heard (m t) c ∷ []) ++ row_run m (next low (fed (m t))) c (suc t) k) (sym e)

  module _ (low : BiquadLowpassState) (t k : ℕ) (rows new : List Float) (last : BiquadLowpassState) (long : length rows ≡ 768) (h : Heard m t k rows) (short : k ≤ 64)
      (p : new ≡ on_part (filtered low) 192 k rows) (q : last ≡ after_all low (take k (drop 192 rows))) where
    room : 192 + k ≤ length rows
    room = omega arith

    column_of : (c : ℕ) → c < 12 → take k (drop (64 * c) (on_part (filtered low) 192 k rows)) ≡ row_run m low c t k
    column_of c l = go (eqb c 3) refl (ltb c 3) refl
      where
        go : (b : Bool) → eqb c 3 ≡ b → (d : Bool) → ltb c 3 ≡ d → take k (drop (64 * c) (on_part (filtered low) 192 k rows)) ≡ row_run m low c t k
        go true e d f =
            subst (λ (j : ℕ). take k (drop (64 * j) (on_part (filtered low) 192 k rows)) ≡ row_run m low j t k) (sym (eqb-true c 3 e))
            (part_same (filtered low) (length_filtered low) 192 k rows room ∙ ap (filtered low) (h.columns 3 (omega arith)) ∙ bass low t k)
        go false e true f =
            let a = ltb-true c 3 f in
            part_earlier (filtered low) (length_filtered low) 192 k rows room (64 * c) k (omega arith) ∙ h.columns c l ∙ other low c t k e
        go false e false f =
            let a = ltb-false c 3 f in
            let b = eqb-false c 3 e in
            part_later (filtered low) (length_filtered low) 192 k rows room (64 * c) k (omega arith) ∙ h.columns c l ∙ other low c t k e

    beside : (j : ℕ) → (192 ≤ j → 192 + k ≤ j) → get_or (on_part (filtered low) 192 k rows) j nan ≡ get_or rows j nan
    beside j r = go (ltb j 192) refl
      where
        go : (b : Bool) → ltb j 192 ≡ b → get_or (on_part (filtered low) 192 k rows) j nan ≡ get_or rows j nan
        go true e = part_before (filtered low) (length_filtered low) 192 k rows room j nan (ltb-true j 192 e)
        go false e =
            let a = r (ltb-false j 192 e) in
            let s : 192 + (k + (j - (192 + k))) ≡ j = omega arith in
            subst (λ (i : ℕ). get_or (on_part (filtered low) 192 k rows) i nan ≡ get_or rows i nan) s
            (part_past (filtered low) (length_filtered low) 192 k rows room (j - (192 + k)) nan)

    pub passed : Passed m low t k new last
    passed = record {
      columns = λ c l. ap (λ (os : List Float). take k (drop (64 * c) os)) p ∙ column_of c l;
      rest = λ c i l a b. ap (λ (os : List Float). get_or os (64 * c + i) nan) p ∙ beside (64 * c + i) (λ r. omega arith) ∙ h.rest c i l a b;
      filter = q ∙ ap (after_all low) (h.columns 3 (omega arith)) ∙ after low t k;
    }
