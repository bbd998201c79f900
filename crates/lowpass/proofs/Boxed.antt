-- What a step loses, in whole numbers: the coefficients a1 = -A / M and a2 = α / M of a rate N lie in the box, M = 2 ^ 24. What drives a step is its residue
-- M (y + a1 y1 + a2 y2). Assumes nothing.
use mathlib.Core.Path.{◌≡◌, ◌∙◌, ap, sym, subst}
use mathlib.Core.List.{[], ◌∷◌}
use Prim.Native.Nat.{ℕ, ◌+◌, ◌*◌, ◌-◌, ◌≤◌, ◌<◌}
use native.Mathlib.Nat.{add-sub_of_le}
use native.Mathlib.Omega.{arith}
use lib.IntN.{ℤ, pos, nat_abs, ◌+ℤ◌, ◌-ℤ◌, ◌*ℤ◌, +ℤ-neg_ℤ_cancel}
use Rattle.ieee.proofs.Ring.{R, var, con, ◌⊕◌, ◌⊖◌, ◌⊗◌, ring}
use Rattle.ieee.proofs.NotNegative.{NN, nn, nn_add, nn_mul, nn_by, nn_sub, nn_of_abs, abs_mul}
use Rattle.lowpass.proofs.Ellipse.{energy, level, edge, floor, Inside}
use Rattle.lowpass.proofs.Kept.{step_energy}
use Rattle.lowpass.proofs.Falling.{Loses, Fallen, fallen_start, fallen_next, not_above}

-- k / M is 1 + a1 + a2
pub record InBox (N α A k : ℕ) : Type 0 where
  pub stiffness : k + A ≡ 16777216 + α
  pub rate_low : 7540 ≤ N
  pub slope_low : 16445027123 + α * N ≤ 16777216 * N
  pub slope_high : 16777216 * N ≤ 17963029626 + α * N
  pub stiff_low : 8775066472939 ≤ k * (N * N)
  pub stiff_high : k * (N * N) ≤ 9728878046085

-- above the floor of a force G, the energy at (y, d) loses the part 301.6 / N on the way to (y', d')
abbrev pub Falls : (N G : ℕ) (y d y' d' : ℤ) → Type 0
Falls N G y d y' d' = Loses (5 * N) 1508 (floor (pos G)) (level (pos N) y d) (level (pos N) y' d')

-- N² |F| ≤ G
driven : (N α A k : ℕ) → InBox N α A k → (G : ℕ) (y d F d' : ℤ) → pos 16777216 *ℤ d' ≡ pos α *ℤ d -ℤ pos k *ℤ y +ℤ F → N * N * nat_abs F ≤ G
    → Falls N G y d (y +ℤ d') d'
driven N α A k h G y d F d' step small =
    subst (λ (N : ℕ). InBox N α A k → N * N * nat_abs F ≤ G → Falls N G y d (y +ℤ d') d')
    (add-sub_of_le h.rate_low) (go (N - 7540)) h small
  where
    low : (M α N s : ℤ) → (M -ℤ α) *ℤ N -ℤ s ≡ M *ℤ N -ℤ (s +ℤ α *ℤ N)
    low M α N s = ring (M ∷ α ∷ N ∷ s ∷ []) ((var 0 ⊖ var 1) ⊗ var 2 ⊖ var 3) (var 0 ⊗ var 2 ⊖ (var 3 ⊕ var 1 ⊗ var 2)) tt

    high : (M α N s : ℤ) → s -ℤ (M -ℤ α) *ℤ N ≡ (s +ℤ α *ℤ N) -ℤ M *ℤ N
    high M α N s = ring (M ∷ α ∷ N ∷ s ∷ []) (var 3 ⊖ (var 0 ⊖ var 1) ⊗ var 2) ((var 3 ⊕ var 1 ⊗ var 2) ⊖ var 0 ⊗ var 2) tt

    identity : (N E E' G γ : ℤ) → let K = pos 212232132439834624000 in
        (pos 5 *ℤ N -ℤ pos 1508) *ℤ (K *ℤ E -ℤ floor G) -ℤ pos 5 *ℤ N *ℤ (K *ℤ E' -ℤ floor G) ≡
        pos 1508 *ℤ ((pos 2500 *ℤ N -ℤ pos 754000) *ℤ pos 281474976710656 *ℤ E +ℤ pos 11 *ℤ (γ *ℤ γ) -ℤ pos 2500 *ℤ N *ℤ pos 281474976710656 *ℤ E')
        +ℤ pos 16588 *ℤ (G *ℤ G -ℤ γ *ℤ γ)
    identity N E E' G γ =
        let n = var 0 in let e = var 1 in let e' = var 2 in let g = var 3 in let f = var 4 in
        let c : ℕ → R = λ m. con (pos m) in
        let K = c 212232132439834624000 in let M² = c 281474976710656 in
        ring (N ∷ E ∷ E' ∷ G ∷ γ ∷ [])
        ((c 5 ⊗ n ⊖ c 1508) ⊗ (K ⊗ e ⊖ c 11 ⊗ (g ⊗ g)) ⊖ c 5 ⊗ n ⊗ (K ⊗ e' ⊖ c 11 ⊗ (g ⊗ g)))
        (c 1508 ⊗ ((c 2500 ⊗ n ⊖ c 754000) ⊗ M² ⊗ e ⊕ c 11 ⊗ (f ⊗ f) ⊖ c 2500 ⊗ n ⊗ M² ⊗ e') ⊕ c 16588 ⊗ (g ⊗ g ⊖ f ⊗ f)) tt

    go : (t : ℕ) → InBox (7540 + t) α A k → (7540 + t) * (7540 + t) * nat_abs F ≤ G
        → Falls (7540 + t) G y d (y +ℤ d') d'
    go t h small =
        let N : ℕ = 7540 + t in
        let γ : ℤ = pos (N * N) *ℤ F in
        record {
          loss = nn_by (identity (pos N) (energy (pos N) y d) (energy (pos N) (y +ℤ d') d') (pos G) γ) (nn_add
              (nn_mul (nn 1508) (step_energy t (pos α) (pos k) y d F
              (record {
                σ-low = nn_by (low (pos 16777216) (pos α) (pos N) (pos 16445027123)) (nn_sub (16777216 * N) (16445027123 + α * N) h.slope_low);
                σ-high = nn_by (high (pos 16777216) (pos α) (pos N) (pos 17963029626)) (nn_sub (17963029626 + α * N) (16777216 * N) h.slope_high);
                χ-low = nn_sub (k * (N * N)) 8775066472939 h.stiff_low;
                χ-high = nn_sub 9728878046085 (k * (N * N)) h.stiff_high;
              })
              d' step))
              (nn_mul (nn 16588) (nn_of_abs G γ (subst (λ (n : ℕ). n ≤ G) (sym (abs_mul (N * N) F)) small))));
        }

abbrev pub residue : (α A : ℕ) (y y₁ y₂ : ℤ) → ℤ
residue α A y y₁ y₂ = pos 16777216 *ℤ y +ℤ pos α *ℤ y₂ -ℤ pos A *ℤ y₁

pub step : (N α A k : ℕ) → InBox N α A k → (G : ℕ) (y y₁ y₂ : ℤ) → N * N * nat_abs (residue α A y y₁ y₂) ≤ G
    → Falls N G y₁ (y₁ -ℤ y₂) y (y -ℤ y₁)
step N α A k h G y y₁ y₂ small =
    subst (λ (z : ℤ). Falls N G y₁ (y₁ -ℤ y₂) z (y -ℤ y₁)) (ring (y ∷ y₁ ∷ []) (var 1 ⊕ (var 0 ⊖ var 1)) (var 0) tt)
    (driven N α A k h G y₁ (y₁ -ℤ y₂) (residue α A y y₁ y₂) (y -ℤ y₁) (moved (pos 16777216) (pos α) (pos A) (pos k) (ap pos h.stiffness)) small)
  where
    moved : (M α A k : ℤ) → k +ℤ A ≡ M +ℤ α → M *ℤ (y -ℤ y₁) ≡ α *ℤ (y₁ -ℤ y₂) -ℤ k *ℤ y₁ +ℤ (M *ℤ y +ℤ α *ℤ y₂ -ℤ A *ℤ y₁)
    moved M α A k e =
        let m = var 0 in let a = var 1 in let b = var 2 in let z = var 3 in let z₁ = var 4 in let z₂ = var 5 in
        ring (M ∷ α ∷ A ∷ y ∷ y₁ ∷ y₂ ∷ []) (m ⊗ (z ⊖ z₁)) (a ⊗ (z₁ ⊖ z₂) ⊖ (m ⊕ a ⊖ b) ⊗ z₁ ⊕ (m ⊗ z ⊕ a ⊗ z₂ ⊖ b ⊗ z₁)) tt
        ∙ ap (λ (κ : ℤ). α *ℤ (y₁ -ℤ y₂) -ℤ κ *ℤ y₁ +ℤ (M *ℤ y +ℤ α *ℤ y₂ -ℤ A *ℤ y₁)) (sym (sym (+ℤ-neg_ℤ_cancel k A) ∙ ap (λ (z : ℤ). z -ℤ A) e))

-- where the floor is not outside, a step keeps the ellipse
pub kept : (N X G : ℕ) {y d y' d' : ℤ} → 7540 ≤ N → NN (edge (pos X) -ℤ floor (pos G)) → Inside N X y d → Falls N G y d y' d' → Inside N X y' d'
kept N X G {y} {d} h above i l =
    let some : 0 < 5 * N = omega arith in
    let first : Fallen (5 * N) 1508 0 (edge (pos X)) (floor (pos G)) (level (pos N) y d) = fallen_start (5 * N) 1508 i.room_left in
    record {
      room_left = not_above (5 * N) 1508 some (edge (pos X)) (floor (pos G)) above (fallen_next (5 * N) 1508 some (edge (pos X)) (floor (pos G)) above (omega arith) first l);
    }
