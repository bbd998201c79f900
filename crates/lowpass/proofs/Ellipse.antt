-- The set of filter states that is kept: an ellipse E ≤ 11 X² in the output y and its last step d. With n = N / 754 and e = n d, E is 3 y² + 2 y e + 4 e²; here it is
-- times 754², so that its numbers are whole. N is the rate, X bounds the samples. The ellipse lies within |y| ≤ 2 X. Energies are compared in parts of 754,000 * 2 ^ 48, in
-- which the floor that a force leaves is whole too. Assumes nothing.
use mathlib.Core.Path.{◌≡◌, ◌∙◌, ap₂}
use mathlib.Core.List.{[], ◌∷◌}
use Prim.Native.Nat.{ℕ, ◌*◌, ◌≤◌}
use native.Mathlib.Nat.{mul-le-mul, mul-le-mul_left}
use lib.Dec.{T}
use lib.IntN.{ℤ, pos, nat_abs, ◌+ℤ◌, ◌-ℤ◌, ◌*ℤ◌}
use lib.Signed.{non_neg}
use Rattle.ieee.proofs.Ring.{R, var, con, ◌⊕◌, ◌⊖◌, ◌⊗◌, ring}
use Rattle.ieee.proofs.NotNegative.{NN, nn, nn_test, nn_add, nn_mul, nn_sq, nn_by, nn_sub, nn_cancel, abs_of_nn}

abbrev pub energy : (N y d : ℤ) → ℤ
energy N y d = pos 1705548 *ℤ (y *ℤ y) +ℤ pos 2 *ℤ (pos 754 *ℤ N *ℤ (y *ℤ d)) +ℤ pos 4 *ℤ (N *ℤ N) *ℤ (d *ℤ d)

-- the same as an expression
abbrev pub energy_r : (N y d : R) → R
energy_r N y d = con (pos 1705548) ⊗ (y ⊗ y) ⊕ con (pos 2) ⊗ (con (pos 754) ⊗ N ⊗ (y ⊗ d)) ⊕ con (pos 4) ⊗ (N ⊗ N) ⊗ (d ⊗ d)

-- 212232132439834624000 = 754,000 * 2 ^ 48
abbrev pub level : (N y d : ℤ) → ℤ
level N y d = pos 212232132439834624000 *ℤ energy N y d

-- 6253676 = 11 * 754²
abbrev pub edge : ℤ → ℤ
edge X = pos 212232132439834624000 *ℤ (pos 6253676 *ℤ (X *ℤ X))

-- what energies fall to where N² |F| ≤ G
abbrev pub floor : ℤ → ℤ
floor G = pos 11 *ℤ (G *ℤ G)

pub record Inside (N X : ℕ) (y d : ℤ) : Type 0 where
  pub room_left : NN (edge (pos X) -ℤ level (pos N) y d)

abbrev edge_r : R → R
edge_r x = con (pos 212232132439834624000) ⊗ (con (pos 6253676) ⊗ (x ⊗ x))

abbrev room_r : (N X y d : R) → R
room_r N X y d = edge_r X ⊖ con (pos 212232132439834624000) ⊗ energy_r N y d

pub start : (N X : ℕ) → Inside N X (pos 0) (pos 0)
start N X = record {
  room_left =
      nn_by (ring (pos N ∷ pos X ∷ []) (room_r (var 0) (var 1) (con (pos 0)) (con (pos 0))) (edge_r (var 1)) tt)
      (nn_mul (nn 212232132439834624000) (nn_mul (nn 6253676) (nn_sq (pos X))));
}

-- 4 E = 11 (754 y)² + (754 y + 4 N d)²
pub bound : {N X : ℕ} {y d : ℤ} → Inside N X y d → nat_abs y ≤ 2 * X
bound {N} {X} {y} {d} h = abs_of_nn (2 * X) y (nn_cancel (pos (212232132439834624000 * 6253676)) (pos (2 * X * (2 * X)) -ℤ y *ℤ y) tt
    (nn_by (identity (pos N) (pos X) y d) (nn_add (nn_mul (nn 4) h.room_left) (nn_mul (nn 212232132439834624000) (nn_sq (pos 754 *ℤ y +ℤ pos 4 *ℤ pos N *ℤ d))))))
  where
    identity : (N X y d : ℤ) → pos (212232132439834624000 * 6253676) *ℤ ((pos 2 *ℤ X) *ℤ (pos 2 *ℤ X) -ℤ y *ℤ y) ≡ pos 4 *ℤ (edge X -ℤ level N y d)
        +ℤ pos 212232132439834624000 *ℤ ((pos 754 *ℤ y +ℤ pos 4 *ℤ N *ℤ d) *ℤ (pos 754 *ℤ y +ℤ pos 4 *ℤ N *ℤ d))
    identity N X y d =
        let n = var 0 in let x = var 1 in let u = var 2 in let w = var 3 in
        let c : ℕ → R = λ m. con (pos m) in
        let l = c 754 ⊗ u ⊕ c 4 ⊗ n ⊗ w in
        ring (N ∷ X ∷ y ∷ d ∷ []) (c (212232132439834624000 * 6253676) ⊗ ((c 2 ⊗ x) ⊗ (c 2 ⊗ x) ⊖ u ⊗ u)) (c 4 ⊗ room_r n x u w ⊕ c 212232132439834624000 ⊗ (l ⊗ l)) tt

-- a larger ellipse
pub wider : {N X Y : ℕ} {y d : ℤ} → X ≤ Y → Inside N X y d → Inside N Y y d
wider {N} {X} {Y} {y} {d} l h = record {
  room_left =
      nn_by (apart (edge (pos X)) (edge (pos Y)) (level (pos N) y d)) (nn_add (nn_sub (212232132439834624000 * (6253676 * (Y * Y))) (212232132439834624000 * (6253676 * (X * X)))
      (mul-le-mul_left 212232132439834624000 (mul-le-mul_left 6253676 (mul-le-mul l l)))) h.room_left);
}
  where
    apart : (a b c : ℤ) → b -ℤ c ≡ (b -ℤ a) +ℤ (a -ℤ c)
    apart a b c = ring (a ∷ b ∷ c ∷ []) (var 1 ⊖ var 2) ((var 1 ⊖ var 0) ⊕ (var 0 ⊖ var 2)) tt

-- ---- sizes that are multiples of e: how far the edge is above the floor
scaled : (z g e : ℤ) → edge (z *ℤ e) -ℤ floor (g *ℤ e) ≡ (edge z -ℤ floor g) *ℤ (e *ℤ e)
scaled z g e =
    let u = var 0 in let v = var 1 in let w = var 2 in
    let floorR : R → R = λ x. con (pos 11) ⊗ (x ⊗ x) in
    ring (z ∷ g ∷ e ∷ []) (edge_r (u ⊗ w) ⊖ floorR (v ⊗ w)) ((edge_r u ⊖ floorR v) ⊗ (w ⊗ w)) tt

pub not_outside : (z g e : ℕ) → T (non_neg (edge (pos z) -ℤ floor (pos g))) → NN (edge (pos (z * e)) -ℤ floor (pos (g * e)))
not_outside z g e t = nn_by (scaled (pos z) (pos g) (pos e)) (nn_mul (nn_test (edge (pos z) -ℤ floor (pos g)) t) (nn_sq (pos e)))

-- m times the height of z', less n times that of z
abbrev pub short : (m n z z' g : ℤ) → ℤ
short m n z z' g = m *ℤ (edge z' -ℤ floor g) -ℤ n *ℤ (edge z -ℤ floor g)

pub not_short : (m n z z' g e : ℕ) → T (non_neg (short (pos m) (pos n) (pos z) (pos z') (pos g))) → NN (short (pos m) (pos n) (pos (z * e)) (pos (z' * e)) (pos (g * e)))
not_short m n z z' g e t =
    nn_by (ap₂ (λ (a b : ℤ). pos m *ℤ a -ℤ pos n *ℤ b) (scaled (pos z') (pos g) (pos e)) (scaled (pos z) (pos g) (pos e))
    ∙ together (pos m) (pos n) (edge (pos z') -ℤ floor (pos g)) (edge (pos z) -ℤ floor (pos g)) (pos e *ℤ pos e))
    (nn_mul (nn_test (short (pos m) (pos n) (pos z) (pos z') (pos g)) t) (nn_sq (pos e)))
  where
    together : (m n a b q : ℤ) → m *ℤ (a *ℤ q) -ℤ n *ℤ (b *ℤ q) ≡ (m *ℤ a -ℤ n *ℤ b) *ℤ q
    together m n a b q =
        let M = var 0 in let N = var 1 in let A = var 2 in let B = var 3 in let Q = var 4 in
        ring (m ∷ n ∷ a ∷ b ∷ q ∷ []) (M ⊗ (A ⊗ Q) ⊖ N ⊗ (B ⊗ Q)) ((M ⊗ A ⊖ N ⊗ B) ⊗ Q) tt
