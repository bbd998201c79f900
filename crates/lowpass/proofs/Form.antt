-- A form in three integers whose leading minors pass a test is never negative. Assumes nothing.
use mathlib.Core.Path.{◌≡◌}
use mathlib.Core.List.{[], ◌∷◌}
use mathlib.Core.Bool.{Bool, ◌&&◌}
use lib.Dec.{T}
use lib.IntN.{ℤ, pos, ◌+ℤ◌, ◌-ℤ◌, ◌*ℤ◌}
use lib.Signed.{non_neg}
use lib.Ieee.Fits.{and_l, and_r}
use Rattle.ieee.proofs.Ring.{R, var, con, ◌⊕◌, ◌⊖◌, ◌⊗◌, ring}
use Rattle.ieee.proofs.NotNegative.{NN, nn_test, nn_add, nn_mul, nn_sq, nn_by, pos_z, nn_of_pos, nn_cancel}

-- a x² + d y² + f z² + 2 (b x y + c x z + e y z)
abbrev pub form : (a b c d e f x y z : ℤ) → ℤ
form a b c d e f x y z = a *ℤ x *ℤ x +ℤ d *ℤ y *ℤ y +ℤ f *ℤ z *ℤ z +ℤ pos 2 *ℤ (b *ℤ x *ℤ y +ℤ c *ℤ x *ℤ z +ℤ e *ℤ y *ℤ z)

-- the same as an expression
abbrev pub form_r : (a b c d e f x y z : R) → R
form_r a b c d e f x y z = a ⊗ x ⊗ x ⊕ d ⊗ y ⊗ y ⊕ f ⊗ z ⊗ z ⊕ con (pos 2) ⊗ (b ⊗ x ⊗ y ⊕ c ⊗ x ⊗ z ⊕ e ⊗ y ⊗ z)

abbrev pub minors : (a b c d e f : ℤ) → Bool
minors a b c d e f =
    let D = a *ℤ d -ℤ b *ℤ b in
    let E = a *ℤ e -ℤ b *ℤ c in
    let G = a *ℤ f -ℤ c *ℤ c in
    pos_z a && (pos_z D && non_neg (D *ℤ G -ℤ E *ℤ E))

pub definite : (a b c d e f : ℤ) → T (minors a b c d e f) → (x y z : ℤ) → NN (form a b c d e f x y z)
definite a b c d e f t x y z =
    let D : ℤ = a *ℤ d -ℤ b *ℤ b in
    let E : ℤ = a *ℤ e -ℤ b *ℤ c in
    let G : ℤ = a *ℤ f -ℤ c *ℤ c in
    let H : ℤ = D *ℤ G -ℤ E *ℤ E in
    let p : T (pos_z D && non_neg H) = and_r (pos_z a) (pos_z D && non_neg H) t in
    let q : T (pos_z D) = and_l (pos_z D) (non_neg H) p in
    let u : ℤ = a *ℤ x +ℤ b *ℤ y +ℤ c *ℤ z in
    let v : ℤ = D *ℤ y +ℤ E *ℤ z in
    nn_cancel a (form a b c d e f x y z) (and_l (pos_z a) (pos_z D && non_neg H) t) (nn_cancel D (a *ℤ form a b c d e f x y z) q
    (nn_by (squares a b c d e f x y z)
    (nn_add (nn_add (nn_mul (nn_of_pos D q) (nn_sq u)) (nn_sq v)) (nn_mul (nn_test H (and_r (pos_z D) (non_neg H) p)) (nn_sq z)))))
  where
    squares : (a b c d e f x y z : ℤ) →
        let D = a *ℤ d -ℤ b *ℤ b in
        let E = a *ℤ e -ℤ b *ℤ c in
        let G = a *ℤ f -ℤ c *ℤ c in
        let u = a *ℤ x +ℤ b *ℤ y +ℤ c *ℤ z in
        let v = D *ℤ y +ℤ E *ℤ z in
        D *ℤ (a *ℤ form a b c d e f x y z) ≡ D *ℤ (u *ℤ u) +ℤ v *ℤ v +ℤ (D *ℤ G -ℤ E *ℤ E) *ℤ (z *ℤ z)
    squares a b c d e f x y z =
        let A = var 0 in let B = var 1 in let C = var 2 in let D = var 3 in let E = var 4 in let F = var 5 in
        let X = var 6 in let Y = var 7 in let Z = var 8 in
        let M = A ⊗ D ⊖ B ⊗ B in
        let N = A ⊗ E ⊖ B ⊗ C in
        let G = A ⊗ F ⊖ C ⊗ C in
        let U = A ⊗ X ⊕ B ⊗ Y ⊕ C ⊗ Z in
        let W = M ⊗ Y ⊕ N ⊗ Z in
        ring (a ∷ b ∷ c ∷ d ∷ e ∷ f ∷ x ∷ y ∷ z ∷ [])
        (M ⊗ (A ⊗ form_r A B C D E F X Y Z))
        (M ⊗ (U ⊗ U) ⊕ W ⊗ W ⊕ (M ⊗ G ⊖ N ⊗ N) ⊗ (Z ⊗ Z))
        tt
