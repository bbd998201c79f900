-- What a step leaves of the energy, for all coefficients in the box at once: s = (1 - a2) n in [1.30, 1.42], κ = (1 + a1 + a2) n² in [0.92, 1.02], n = N / 754, N ≥ 7540.
-- Coefficients are in steps of 1 / M, M = 2 ^ 24: a2 = α / M, 1 + a1 + a2 = k / M. With ε = N d, γ = N² F, σ = (M - α) N, χ = k N² and ρ = γ - χ y - σ ε, a step
-- M d' = α d - k y + F is N² M d' = N M ε + ρ, and
--
--     2,500 N⁵ M² E' = 2,500 (N - 301.6) N⁴ M² E + 11 N⁴ γ² - N Q
--
-- with E as in Ellipse, and Q a form in y, ε, γ and ρ whose weights are cubic in N. Written in powers of t = N - 7540, all four forms pass at the box's corners.
-- Assumes nothing.
use mathlib.Core.Path.{◌≡◌, ◌∙◌, ap}
use mathlib.Core.List.{[], ◌∷◌}
use Prim.Native.Nat.{ℕ, ◌+◌, ◌*◌, ◌<◌}
use native.Mathlib.Omega.{arith}
use native.Mathlib.Nat.{mul-pos}
use lib.Dec.{lt→ltb}
use lib.IntN.{ℤ, pos, neg_ℤ, ◌+ℤ◌, ◌-ℤ◌, ◌*ℤ◌}
use Rattle.ieee.proofs.Ring.{R, var, con, ◌⊕◌, ◌⊖◌, ◌⊗◌, ring}
use Rattle.ieee.proofs.NotNegative.{NN, nn, nn_add, nn_mul, nn_by, nn_cancel}
use Rattle.lowpass.proofs.Ellipse.{energy, energy_r}
use Rattle.lowpass.proofs.Curve.{Weights, curve, curve_r, Box, Within, boxed}

-- 1.30 * 754 M, 1.42 * 754 M, 0.92 * 754² M and 1.02 * 754² M
abbrev box : Box
box = record { σ₀ = pos 16445027123; σ₁ = pos 17963029626; χ₀ = pos 8775066472939; χ₁ = pos 9728878046085 }

-- ---- the weights of Q: with the energy's A = 3 * 754², B = 754 and C = 4, those of N³, N², N and 1 are
abbrev M : ℕ
M = 16777216

abbrev A : ℕ
A = 1705548

abbrev B : ℕ
B = 754

abbrev w₃ : Weights
w₃ = record {
  p = neg_ℤ (pos (754000 * (M * M) * A));
  q = neg_ℤ (pos (754000 * (M * M) * B + 2500 * (M * M) * A));
  r = neg_ℤ (pos (754000 * (M * M) * 4 + 5000 * (M * M) * B));
  w = pos 11;
  b = neg_ℤ (pos (2500 * M * B));
  c = neg_ℤ (pos (2500 * M * 4));
  g = pos 0;
}

abbrev w₂ : Weights
w₂ = record { p = pos 0; q = pos 0; r = neg_ℤ (pos (2500 * (M * M) * A)); w = pos 0; b = neg_ℤ (pos (2500 * M * A)); c = neg_ℤ (pos (5000 * M * B)); g = pos (2500 * 4) }

abbrev w₁ : Weights
w₁ = record { p = pos 0; q = pos 0; r = pos 0; w = pos 0; b = pos 0; c = neg_ℤ (pos (2500 * M * A)); g = pos (5000 * B) }

abbrev w₀ : Weights
w₀ = record { p = pos 0; q = pos 0; r = pos 0; w = pos 0; b = pos 0; c = pos 0; g = pos (2500 * A) }

-- n times a, and b
abbrev mix : ℕ → Weights → Weights → Weights
mix n a b = record {
  p = pos n *ℤ a.p +ℤ b.p;
  q = pos n *ℤ a.q +ℤ b.q;
  r = pos n *ℤ a.r +ℤ b.r;
  w = pos n *ℤ a.w +ℤ b.w;
  b = pos n *ℤ a.b +ℤ b.b;
  c = pos n *ℤ a.c +ℤ b.c;
  g = pos n *ℤ a.g +ℤ b.g;
}

-- those of 1, t, t² and t³, where N = 7540 + t
abbrev c₂ : Weights
c₂ = mix (3 * 7540) w₃ w₂

abbrev c₁ : Weights
c₁ = mix (3 * 7540 * 7540) w₃ (mix (2 * 7540) w₂ w₁)

abbrev c₀ : Weights
c₀ = mix (7540 * 7540 * 7540) w₃ (mix (7540 * 7540) w₂ (mix 7540 w₁ w₀))

-- Q at N = 7540 + t
abbrev quad : (t y ε γ ρ : ℤ) → ℤ
quad t y ε γ ρ = curve c₀ y ε γ ρ +ℤ t *ℤ (curve c₁ y ε γ ρ +ℤ t *ℤ (curve c₂ y ε γ ρ +ℤ t *ℤ curve w₃ y ε γ ρ))

abbrev weights_r : Weights → (y ε γ ρ : R) → R
weights_r k = curve_r (con k.p) (con k.q) (con k.r) (con k.w) (con k.b) (con k.c) (con k.g)

abbrev quad_r : (t y ε γ ρ : R) → R
quad_r t y ε γ ρ = weights_r c₀ y ε γ ρ ⊕ t ⊗ (weights_r c₁ y ε γ ρ ⊕ t ⊗ (weights_r c₂ y ε γ ρ ⊕ t ⊗ weights_r w₃ y ε γ ρ))

quad_positive : (t : ℕ) (σ χ : ℤ) → Within box σ χ → (y ε γ : ℤ) → NN (quad (pos t) y ε γ ((γ -ℤ χ *ℤ y) -ℤ σ *ℤ ε))
quad_positive t σ χ i y ε γ =
    nn_add (boxed box c₀ tt σ χ i y ε γ)
    (nn_mul (nn t) (nn_add (boxed box c₁ tt σ χ i y ε γ) (nn_mul (nn t) (nn_add (boxed box c₂ tt σ χ i y ε γ) (nn_mul (nn t) (boxed box w₃ tt σ χ i y ε γ))))))

-- ---- a step at N = 7540 + t
abbrev fourth : ℤ → ℤ
fourth N = N *ℤ N *ℤ (N *ℤ N)

abbrev rate_r : R
rate_r = con (pos 7540) ⊕ var 0

abbrev fourth_r : R
fourth_r = rate_r ⊗ rate_r ⊗ (rate_r ⊗ rate_r)

module _ (t : ℕ) (α k : ℤ) where
  abbrev rate : ℤ
  rate = pos 7540 +ℤ pos t

  abbrev slope : ℤ
  slope = (pos 16777216 -ℤ α) *ℤ rate

  abbrev stiff : ℤ
  stiff = k *ℤ (rate *ℤ rate)

  -- 2,500 N⁵ M² E', where p is M d'
  after : (y p : ℤ) → ℤ
  after y p = pos 2500 *ℤ (rate *ℤ fourth rate) *ℤ energy rate (pos 16777216 *ℤ y +ℤ p) p

  first : (y d' : ℤ) → pos 2500 *ℤ (rate *ℤ fourth rate) *ℤ pos 281474976710656 *ℤ energy rate (y +ℤ d') d' ≡ after y (pos 16777216 *ℤ d')
  unfolding after
  first y d' =
      let Y = var 1 in let D = var 2 in
      let m = con (pos 16777216) in
      ring (pos t ∷ y ∷ d' ∷ [])
      (con (pos 2500) ⊗ (rate_r ⊗ fourth_r) ⊗ con (pos 281474976710656) ⊗ energy_r rate_r (Y ⊕ D) D)
      (con (pos 2500) ⊗ (rate_r ⊗ fourth_r) ⊗ energy_r rate_r (m ⊗ Y ⊕ m ⊗ D) (m ⊗ D)) tt

  module _ (y d F : ℤ) where
    abbrev force : ℤ
    force = rate *ℤ rate *ℤ F

    -- 2,500 (N - 301.6) M² E + 11 γ²
    abbrev most : ℤ
    most = (pos 2500 *ℤ rate -ℤ pos 754000) *ℤ pos 281474976710656 *ℤ energy rate y d +ℤ pos 11 *ℤ (force *ℤ force)

    second : fourth rate *ℤ most -ℤ after y (α *ℤ d -ℤ k *ℤ y +ℤ F) ≡
        rate *ℤ quad (pos t) y (rate *ℤ d) force ((force -ℤ stiff *ℤ y) -ℤ slope *ℤ (rate *ℤ d))
    unfolding after
    second =
        let Y = var 1 in let D = var 2 in let H = var 3 in let A = var 4 in let K = var 5 in
        let E = rate_r ⊗ D in let γ = rate_r ⊗ rate_r ⊗ H in
        let ρ = (γ ⊖ (K ⊗ (rate_r ⊗ rate_r)) ⊗ Y) ⊖ ((con (pos 16777216) ⊖ A) ⊗ rate_r) ⊗ E in
        let p = A ⊗ D ⊖ K ⊗ Y ⊕ H in
        ring (pos t ∷ y ∷ d ∷ F ∷ α ∷ k ∷ [])
        (fourth_r ⊗ ((con (pos 2500) ⊗ rate_r ⊖ con (pos 754000)) ⊗ con (pos 281474976710656) ⊗ energy_r rate_r Y D ⊕ con (pos 11) ⊗ (γ ⊗ γ))
        ⊖ con (pos 2500) ⊗ (rate_r ⊗ fourth_r) ⊗ energy_r rate_r (con (pos 16777216) ⊗ Y ⊕ p) p)
        (rate_r ⊗ quad_r (var 0) Y E γ ρ) tt

    pub step_energy : Within box slope stiff → (d' : ℤ) → pos 16777216 *ℤ d' ≡ α *ℤ d -ℤ k *ℤ y +ℤ F
        → NN (most -ℤ pos 2500 *ℤ rate *ℤ pos 281474976710656 *ℤ energy rate (y +ℤ d') d')
    step_energy i d' step =
        nn_cancel (fourth rate) (most -ℤ pos 2500 *ℤ rate *ℤ pos 281474976710656 *ℤ energy rate (y +ℤ d') d') (lt→ltb 0 _ above)
        (nn_by (apart (fourth rate) most rate (energy rate (y +ℤ d') d') ∙ ap (λ (z : ℤ). fourth rate *ℤ most -ℤ z) (first y d' ∙ ap (after y) step) ∙ second)
        (nn_mul (nn (7540 + t)) (quad_positive t slope stiff i y (rate *ℤ d) force)))
      where
        apart : (n m r e : ℤ) → n *ℤ (m -ℤ pos 2500 *ℤ r *ℤ pos 281474976710656 *ℤ e) ≡ n *ℤ m -ℤ pos 2500 *ℤ (r *ℤ n) *ℤ pos 281474976710656 *ℤ e
        apart n m r e =
            let N = var 0 in let c = con (pos 281474976710656) in
            ring (n ∷ m ∷ r ∷ e ∷ []) (N ⊗ (var 1 ⊖ con (pos 2500) ⊗ var 2 ⊗ c ⊗ var 3)) (N ⊗ var 1 ⊖ con (pos 2500) ⊗ (var 2 ⊗ N) ⊗ c ⊗ var 3) tt

        above : 0 < (7540 + t) * (7540 + t) * ((7540 + t) * (7540 + t))
        above = let h : 0 < 7540 + t = omega arith in mul-pos (mul-pos h h) (mul-pos h h)
