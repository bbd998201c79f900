-- Forms that are not negative on a box, by its corners. In ρ = γ - χ y - σ ε the form bends down, so it is not negative between two values of σ, or of χ, at which it is
-- not: four corners decide for all σ and χ between them, and at a corner three leading minors do. Assumes nothing.
use mathlib.Core.Path.{◌≡◌, ap}
use mathlib.Core.List.{List, [], ◌∷◌}
use mathlib.Core.Bool.{Bool}
use lib.Dec.{T}
use lib.IntN.{ℤ, pos, neg_ℤ, ◌+ℤ◌, ◌-ℤ◌, ◌*ℤ◌}
use lib.Signed.{non_neg}
use Rattle.ieee.proofs.Integers.{+ℤ-swap}
use Rattle.ieee.proofs.Ring.{R, var, con, ◌⊕◌, ◌⊖◌, ◌⊗◌, ring}
use Rattle.ieee.proofs.NotNegative.{NN, nn_test, nn_add, nn_mul, nn_sq, nn_by, pos_z, nn_of_pos, nn_cancel}
use Rattle.lowpass.proofs.Tests.{every, Every, parts}
use Rattle.lowpass.proofs.Form.{form, form_r, minors, definite}

-- ---- a curve in ρ, and one between its values at p - s₀ e and p - s₁ e
abbrev bend : (a b g ρ : ℤ) → ℤ
bend a b g ρ = a +ℤ b *ℤ ρ -ℤ g *ℤ (ρ *ℤ ρ)

between : (a b g p e s s₀ s₁ : ℤ) → NN g → T (pos_z (s₁ -ℤ s₀)) → NN (s -ℤ s₀) → NN (s₁ -ℤ s) →
    NN (bend a b g (p -ℤ s₀ *ℤ e)) → NN (bend a b g (p -ℤ s₁ *ℤ e)) → NN (bend a b g (p -ℤ s *ℤ e))
between a b g p e s s₀ s₁ hg t lo hi h₀ h₁ =
    nn_cancel (s₁ -ℤ s₀) (bend a b g (p -ℤ s *ℤ e)) t
    (nn_by (identity a b g p e s s₀ s₁)
    (nn_add (nn_add (nn_mul hi h₀) (nn_mul lo h₁)) (nn_mul (nn_mul hg (nn_sq e)) (nn_mul (nn_mul lo hi) (nn_of_pos (s₁ -ℤ s₀) t)))))
  where
    identity : (a b g p e s s₀ s₁ : ℤ) → (s₁ -ℤ s₀) *ℤ bend a b g (p -ℤ s *ℤ e) ≡
        (s₁ -ℤ s) *ℤ bend a b g (p -ℤ s₀ *ℤ e) +ℤ (s -ℤ s₀) *ℤ bend a b g (p -ℤ s₁ *ℤ e) +ℤ (g *ℤ (e *ℤ e)) *ℤ ((s -ℤ s₀) *ℤ (s₁ -ℤ s) *ℤ (s₁ -ℤ s₀))
    identity a b g p e s s₀ s₁ =
        let B : R → R = λ r. var 0 ⊕ var 1 ⊗ r ⊖ var 2 ⊗ (r ⊗ r) in
        let P = var 3 in let E = var 4 in let S = var 5 in let L = var 6 in let H = var 7 in
        ring (a ∷ b ∷ g ∷ p ∷ e ∷ s ∷ s₀ ∷ s₁ ∷ [])
        ((H ⊖ L) ⊗ B (P ⊖ S ⊗ E))
        ((H ⊖ S) ⊗ B (P ⊖ L ⊗ E) ⊕ (S ⊖ L) ⊗ B (P ⊖ H ⊗ E) ⊕ (var 2 ⊗ (E ⊗ E)) ⊗ ((S ⊖ L) ⊗ (H ⊖ S) ⊗ (H ⊖ L))) tt

-- ---- p y² + 2 q y ε + r ε² + w γ² + 2 (b y + c ε) ρ - g ρ²
pub record Weights : Type 0 where
  pub p : ℤ
  pub q : ℤ
  pub r : ℤ
  pub w : ℤ
  pub b : ℤ
  pub c : ℤ
  pub g : ℤ

abbrev flat : (k : Weights) (y ε γ : ℤ) → ℤ
flat k y ε γ = k.p *ℤ (y *ℤ y) +ℤ pos 2 *ℤ (k.q *ℤ (y *ℤ ε)) +ℤ k.r *ℤ (ε *ℤ ε) +ℤ k.w *ℤ (γ *ℤ γ)

abbrev lean : (k : Weights) (y ε : ℤ) → ℤ
lean k y ε = pos 2 *ℤ (k.b *ℤ y +ℤ k.c *ℤ ε)

abbrev pub curve : (k : Weights) (y ε γ ρ : ℤ) → ℤ
curve k y ε γ ρ = bend (flat k y ε γ) (lean k y ε) k.g ρ

-- the same as an expression
abbrev pub curve_r : (p q r w b c g y ε γ ρ : R) → R
curve_r p q r w b c g y ε γ ρ = (p ⊗ (y ⊗ y) ⊕ con (pos 2) ⊗ (q ⊗ (y ⊗ ε)) ⊕ r ⊗ (ε ⊗ ε) ⊕ w ⊗ (γ ⊗ γ)) ⊕ con (pos 2) ⊗ (b ⊗ y ⊕ c ⊗ ε) ⊗ ρ ⊖ g ⊗ (ρ ⊗ ρ)

-- ---- at a corner the curve is a form in y, ε and γ
module _ (k : Weights) (σ χ : ℤ) where
  abbrev yy : ℤ
  yy = k.p -ℤ pos 2 *ℤ (k.b *ℤ χ) -ℤ k.g *ℤ (χ *ℤ χ)

  abbrev yε : ℤ
  yε = k.q -ℤ k.b *ℤ σ -ℤ k.c *ℤ χ -ℤ k.g *ℤ (χ *ℤ σ)

  abbrev yγ : ℤ
  yγ = k.b +ℤ k.g *ℤ χ

  abbrev εε : ℤ
  εε = k.r -ℤ pos 2 *ℤ (k.c *ℤ σ) -ℤ k.g *ℤ (σ *ℤ σ)

  abbrev εγ : ℤ
  εγ = k.c +ℤ k.g *ℤ σ

  abbrev γγ : ℤ
  γγ = k.w -ℤ k.g

  abbrev pub corner : Bool
  corner = minors yy yε yγ εε εγ γγ

  at_corner : T corner → (y ε γ : ℤ) → NN (curve k y ε γ ((γ -ℤ σ *ℤ ε) -ℤ χ *ℤ y))
  at_corner t y ε γ = nn_by identity (definite yy yε yγ εε εγ γγ t y ε γ)
    where
      identity : curve k y ε γ ((γ -ℤ σ *ℤ ε) -ℤ χ *ℤ y) ≡ form yy yε yγ εε εγ γγ y ε γ
      identity =
          let P = var 0 in let Q = var 1 in let r' = var 2 in let w' = var 3 in let B = var 4 in let C = var 5 in let G = var 6 in
          let S = var 7 in let K = var 8 in let Y = var 9 in let E = var 10 in let H = var 11 in
          let two = con (pos 2) in
          ring (k.p ∷ k.q ∷ k.r ∷ k.w ∷ k.b ∷ k.c ∷ k.g ∷ σ ∷ χ ∷ y ∷ ε ∷ γ ∷ [])
          (curve_r P Q r' w' B C G Y E H ((H ⊖ S ⊗ E) ⊖ K ⊗ Y))
          (form_r (P ⊖ two ⊗ (B ⊗ K) ⊖ G ⊗ (K ⊗ K)) (Q ⊖ B ⊗ S ⊖ C ⊗ K ⊖ G ⊗ (K ⊗ S)) (B ⊕ G ⊗ K)
          (r' ⊖ two ⊗ (C ⊗ S) ⊖ G ⊗ (S ⊗ S)) (C ⊕ G ⊗ S) (w' ⊖ G) Y E H) tt

-- ---- on the box
pub record Box : Type 0 where
  pub σ₀ : ℤ
  pub σ₁ : ℤ
  pub χ₀ : ℤ
  pub χ₁ : ℤ

pub record Within (o : Box) (σ χ : ℤ) : Type 0 where
  pub σ-low : NN (σ -ℤ o.σ₀)
  pub σ-high : NN (o.σ₁ -ℤ σ)
  pub χ-low : NN (χ -ℤ o.χ₀)
  pub χ-high : NN (o.χ₁ -ℤ χ)

abbrev pub corners : Box → Weights → List Bool
corners o k =
    non_neg k.g ∷ pos_z (o.σ₁ -ℤ o.σ₀) ∷ pos_z (o.χ₁ -ℤ o.χ₀)
    ∷ corner k o.σ₀ o.χ₀ ∷ corner k o.σ₀ o.χ₁ ∷ corner k o.σ₁ o.χ₀ ∷ corner k o.σ₁ o.χ₁ ∷ []

pub boxed : (o : Box) (k : Weights) → T (every (corners o k)) → (σ χ : ℤ) → Within o σ χ → (y ε γ : ℤ) → NN (curve k y ε γ ((γ -ℤ χ *ℤ y) -ℤ σ *ℤ ε))
boxed o k t σ χ i y ε γ =
    let c = p.1.1.1 in
    between (flat k y ε γ) (lean k y ε) k.g (γ -ℤ χ *ℤ y) ε σ o.σ₀ o.σ₁ (nn_test k.g p.0) p.1.0 i.σ-low i.σ-high
    (side o.σ₀ c.0 c.1.0) (side o.σ₁ c.1.1.0 c.1.1.1.0)
  where
    p : Every (corners o k)
    p = parts (corners o k) t

    side : (σ : ℤ) → T (corner k σ o.χ₀) → T (corner k σ o.χ₁) → NN (curve k y ε γ ((γ -ℤ χ *ℤ y) -ℤ σ *ℤ ε))
    side σ u v = nn_by (ap (curve k y ε γ) (+ℤ-swap γ (neg_ℤ (χ *ℤ y)) (neg_ℤ (σ *ℤ ε))))
        (between (flat k y ε γ) (lean k y ε) k.g (γ -ℤ σ *ℤ ε) y χ o.χ₀ o.χ₁ (nn_test k.g p.0) p.1.1.0 i.χ-low i.χ-high
        (at_corner k σ o.χ₀ u y ε γ) (at_corner k σ o.χ₁ v y ε γ))
