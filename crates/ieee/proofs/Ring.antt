-- `ring`: an identity of polynomials over ℤ, decided by computation. To show a ≡ b, list the variables' values, write both sides as expressions in `var 0`, `var 1`, ..
-- and give `tt`: `ring (x ∷ y ∷ []) ((var 0 ⊕ var 1) ⊗ var 0) (var 0 ⊗ var 0 ⊕ var 1 ⊗ var 0) tt`. A number is `con (pos 3)`; `pos` goes through sums and products.
-- An expression is read as a polynomial in its variables, the first variable outermost: a list of coefficients, the constant's first, each a polynomial in the other
-- variables. Of an identity in natural numbers with `≤`, see Poly. Assumes nothing.
use mathlib.Core.Path.{◌≡◌, refl, sym, ◌∙◌, ap, ap₂}
use mathlib.Core.List.{List, [], ◌∷◌}
use mathlib.Core.Bool.{Bool, true, false, ◌&&◌}
use Prim.Native.Nat.{ℕ, zero, suc}
use lib.Dec.{T, eqb, eqb→eq}
use lib.IntN.{ℤ, pos, negsuc, neg_ℤ, ◌+ℤ◌, ◌-ℤ◌, ◌*ℤ◌, +ℤ_idl, +ℤ_idr, zero-*ℤ, *ℤ-zero, *ℤ_comm}
use Rattle.ieee.proofs.Integers.{+ℤ-swap4, add_*ℤ, *ℤ-add, *ℤ-assoc, neg_as_mul, one_*ℤ, eq_of_sub}

infixl 26 ◌⊕◌ ◌⊖◌
infixl 27 ◌⊗◌
pub data R : Type 0 where
  var : ℕ → R
  con : ℤ → R
  neg : R → R
  ◌⊕◌ : R → R → R
  ◌⊖◌ : R → R → R
  ◌⊗◌ : R → R → R

abbrev pub nth : List ℤ → ℕ → ℤ
nth [] i = pos 0
nth (x ∷ ρ) zero = x
nth (x ∷ ρ) (suc i) = nth ρ i

abbrev pub value : List ℤ → R → ℤ
value ρ (var i) = nth ρ i
value ρ (con k) = k
value ρ (neg a) = neg_ℤ (value ρ a)
value ρ (a ⊕ b) = value ρ a +ℤ value ρ b
value ρ (a ⊖ b) = value ρ a -ℤ value ρ b
value ρ (a ⊗ b) = value ρ a *ℤ value ρ b

-- polynomials in as many variables as ρ is long
abbrev pub Coeffs : List ℤ → Type 0
Coeffs [] = ℤ
Coeffs (x ∷ ρ) = List (Coeffs ρ)

module _ {A : Type 0} where
  abbrev pub horner : (A → ℤ) → ℤ → List A → ℤ
  horner f x [] = pos 0
  horner f x (a ∷ p) = f a +ℤ x *ℤ horner f x p

  abbrev pub add_l : (A → A → A) → List A → List A → List A
  add_l add [] q = q
  add_l add (a ∷ p) [] = a ∷ p
  add_l add (a ∷ p) (b ∷ q) = add a b ∷ add_l add p q

  abbrev pub map_l : (A → A) → List A → List A
  map_l g [] = []
  map_l g (a ∷ p) = g a ∷ map_l g p

  abbrev pub shift : A → List A → List A
  shift z [] = []
  shift z (a ∷ p) = z ∷ a ∷ p

  abbrev pub mul_l : (A → A → A) → (A → A → A) → A → List A → List A → List A
  mul_l add mul z [] q = []
  mul_l add mul z (a ∷ p) q = add_l add (map_l (mul a) q) (shift z (mul_l add mul z p q))

  abbrev pub all_l : (A → Bool) → List A → Bool
  all_l t [] = true
  all_l t (a ∷ p) = t a && all_l t p

  module _ (f : A → ℤ) (x : ℤ) where
    horner_add : (add : A → A → A) → ((a b : A) → f (add a b) ≡ f a +ℤ f b) → (p q : List A) → horner f x (add_l add p q) ≡ horner f x p +ℤ horner f x q
    horner_add add h [] q = sym (+ℤ_idl (horner f x q))
    horner_add add h (a ∷ p) [] = sym (+ℤ_idr (horner f x (a ∷ p)))
    horner_add add h (a ∷ p) (b ∷ q) =
        ap₂ (λ u v. u +ℤ x *ℤ v) (h a b) (horner_add add h p q) ∙ ap (λ v. (f a +ℤ f b) +ℤ v) (*ℤ-add (horner f x p) (horner f x q) x)
        ∙ +ℤ-swap4 (f a) (f b) (x *ℤ horner f x p) (x *ℤ horner f x q)

    horner_map : (g : A → A) (k : ℤ) → ((a : A) → f (g a) ≡ k *ℤ f a) → (p : List A) → horner f x (map_l g p) ≡ k *ℤ horner f x p
    horner_map g k h [] = sym (*ℤ-zero k)
    horner_map g k h (a ∷ p) =
        ap₂ (λ u v. u +ℤ x *ℤ v) (h a) (horner_map g k h p)
        ∙ ap (λ v. k *ℤ f a +ℤ v) (sym (*ℤ-assoc x k (horner f x p)) ∙ ap (λ u. u *ℤ horner f x p) (*ℤ_comm x k) ∙ *ℤ-assoc k x (horner f x p))
        ∙ sym (*ℤ-add (f a) (x *ℤ horner f x p) k)

    horner_shift : (z : A) → f z ≡ pos 0 → (p : List A) → horner f x (shift z p) ≡ x *ℤ horner f x p
    horner_shift z h [] = sym (*ℤ-zero x)
    horner_shift z h (a ∷ p) = ap (λ u. u +ℤ x *ℤ horner f x (a ∷ p)) h ∙ +ℤ_idl (x *ℤ horner f x (a ∷ p))

    horner_mul : (add mul : A → A → A) (z : A) → ((a b : A) → f (add a b) ≡ f a +ℤ f b) → ((a b : A) → f (mul a b) ≡ f a *ℤ f b) → f z ≡ pos 0
        → (p q : List A) → horner f x (mul_l add mul z p q) ≡ horner f x p *ℤ horner f x q
    horner_mul add mul z ha hm hz [] q = sym (zero-*ℤ (horner f x q))
    horner_mul add mul z ha hm hz (a ∷ p) q =
        horner_add add ha (map_l (mul a) q) (shift z (mul_l add mul z p q))
        ∙ ap₂ ◌+ℤ◌ (horner_map (mul a) (f a) (hm a) q)
        (horner_shift z hz (mul_l add mul z p q) ∙ ap (λ v. x *ℤ v) (horner_mul add mul z ha hm hz p q) ∙ sym (*ℤ-assoc x (horner f x p) (horner f x q)))
        ∙ sym (add_*ℤ (f a) (x *ℤ horner f x p) (horner f x q))

    horner_zero : (t : A → Bool) → ((a : A) → T (t a) → f a ≡ pos 0) → (p : List A) → T (all_l t p) → horner f x p ≡ pos 0
    horner_zero t h [] w = refl
    horner_zero t h (a ∷ p) w =
        ap₂ (λ u v. u +ℤ x *ℤ v) (h a (both (t a) (all_l t p) w).0) (horner_zero t h p (both (t a) (all_l t p) w).1) ∙ ap (λ v. pos 0 +ℤ v) (*ℤ-zero x)
      where
        both : (a b : Bool) → T (a && b) → T a × T b
        both true true w = (tt, tt)
        both true false w = absurd w
        both false b w = absurd w

abbrev pub ev : (ρ : List ℤ) → Coeffs ρ → ℤ
ev [] c = c
ev (x ∷ ρ) p = horner (ev ρ) x p

abbrev pub con_p : (ρ : List ℤ) → ℤ → Coeffs ρ
con_p [] k = k
con_p (x ∷ ρ) k = con_p ρ k ∷ []

abbrev pub zero_p : (ρ : List ℤ) → Coeffs ρ
zero_p [] = pos 0
zero_p (x ∷ ρ) = []

abbrev pub var_p : (ρ : List ℤ) → ℕ → Coeffs ρ
var_p [] i = pos 0
var_p (x ∷ ρ) zero = zero_p ρ ∷ con_p ρ (pos 1) ∷ []
var_p (x ∷ ρ) (suc i) = var_p ρ i ∷ []

abbrev pub add_p : (ρ : List ℤ) → Coeffs ρ → Coeffs ρ → Coeffs ρ
add_p [] a b = a +ℤ b
add_p (x ∷ ρ) p q = add_l (add_p ρ) p q

abbrev pub mul_p : (ρ : List ℤ) → Coeffs ρ → Coeffs ρ → Coeffs ρ
mul_p [] a b = a *ℤ b
mul_p (x ∷ ρ) p q = mul_l (add_p ρ) (mul_p ρ) (zero_p ρ) p q

abbrev pub neg_p : (ρ : List ℤ) → Coeffs ρ → Coeffs ρ
neg_p [] a = neg_ℤ a
neg_p (x ∷ ρ) p = map_l (neg_p ρ) p

abbrev pub is_z : ℤ → Bool
is_z (pos n) = eqb n 0
is_z (negsuc n) = false

abbrev pub is_zero : (ρ : List ℤ) → Coeffs ρ → Bool
is_zero [] a = is_z a
is_zero (x ∷ ρ) p = all_l (is_zero ρ) p

abbrev pub poly : (ρ : List ℤ) → R → Coeffs ρ
poly ρ (var i) = var_p ρ i
poly ρ (con k) = con_p ρ k
poly ρ (neg a) = neg_p ρ (poly ρ a)
poly ρ (a ⊕ b) = add_p ρ (poly ρ a) (poly ρ b)
poly ρ (a ⊖ b) = add_p ρ (poly ρ a) (neg_p ρ (poly ρ b))
poly ρ (a ⊗ b) = mul_p ρ (poly ρ a) (poly ρ b)

-- ---- each is what it says
ev_con : (ρ : List ℤ) (k : ℤ) → ev ρ (con_p ρ k) ≡ k
ev_con [] k = refl
ev_con (x ∷ ρ) k = ap₂ ◌+ℤ◌ (ev_con ρ k) (*ℤ-zero x) ∙ +ℤ_idr k

ev_zero : (ρ : List ℤ) → ev ρ (zero_p ρ) ≡ pos 0
ev_zero [] = refl
ev_zero (x ∷ ρ) = refl

ev_var : (ρ : List ℤ) (i : ℕ) → ev ρ (var_p ρ i) ≡ nth ρ i
ev_var [] i = refl
ev_var (x ∷ ρ) zero =
    ap₂ ◌+ℤ◌ (ev_zero ρ) (ap (λ v. x *ℤ v) (ap₂ ◌+ℤ◌ (ev_con ρ (pos 1)) (*ℤ-zero x)) ∙ *ℤ_comm x (pos 1) ∙ one_*ℤ x) ∙ +ℤ_idl x
ev_var (x ∷ ρ) (suc i) = ap₂ ◌+ℤ◌ (ev_var ρ i) (*ℤ-zero x) ∙ +ℤ_idr (nth ρ i)

ev_add : (ρ : List ℤ) (a b : Coeffs ρ) → ev ρ (add_p ρ a b) ≡ ev ρ a +ℤ ev ρ b
ev_add [] a b = refl
ev_add (x ∷ ρ) p q = horner_add (ev ρ) x (add_p ρ) (ev_add ρ) p q

ev_mul : (ρ : List ℤ) (a b : Coeffs ρ) → ev ρ (mul_p ρ a b) ≡ ev ρ a *ℤ ev ρ b
ev_mul [] a b = refl
ev_mul (x ∷ ρ) p q = horner_mul (ev ρ) x (add_p ρ) (mul_p ρ) (zero_p ρ) (ev_add ρ) (ev_mul ρ) (ev_zero ρ) p q

ev_neg : (ρ : List ℤ) (a : Coeffs ρ) → ev ρ (neg_p ρ a) ≡ negsuc 0 *ℤ ev ρ a
ev_neg [] a = sym (neg_as_mul a)
ev_neg (x ∷ ρ) p = horner_map (ev ρ) x (neg_p ρ) (negsuc 0) (ev_neg ρ) p

is_zero_is : (ρ : List ℤ) (a : Coeffs ρ) → T (is_zero ρ a) → ev ρ a ≡ pos 0
is_zero_is [] (pos n) t = ap pos (eqb→eq n 0 t)
is_zero_is [] (negsuc n) t = absurd t
is_zero_is (x ∷ ρ) p t = horner_zero (ev ρ) x (is_zero ρ) (is_zero_is ρ) p t

poly_is : (ρ : List ℤ) (e : R) → ev ρ (poly ρ e) ≡ value ρ e
poly_is ρ (var i) = ev_var ρ i
poly_is ρ (con k) = ev_con ρ k
poly_is ρ (neg a) = ev_neg ρ (poly ρ a) ∙ neg_as_mul (ev ρ (poly ρ a)) ∙ ap neg_ℤ (poly_is ρ a)
poly_is ρ (a ⊕ b) = ev_add ρ (poly ρ a) (poly ρ b) ∙ ap₂ ◌+ℤ◌ (poly_is ρ a) (poly_is ρ b)
poly_is ρ (a ⊖ b) = ev_add ρ (poly ρ a) (neg_p ρ (poly ρ b)) ∙ ap₂ ◌+ℤ◌ (poly_is ρ a) (ev_neg ρ (poly ρ b) ∙ neg_as_mul (ev ρ (poly ρ b)) ∙ ap neg_ℤ (poly_is ρ b))
poly_is ρ (a ⊗ b) = ev_mul ρ (poly ρ a) (poly ρ b) ∙ ap₂ ◌*ℤ◌ (poly_is ρ a) (poly_is ρ b)

pub ring : (ρ : List ℤ) (a b : R) → T (is_zero ρ (poly ρ (a ⊖ b))) → value ρ a ≡ value ρ b
ring ρ a b t = eq_of_sub (value ρ a) (value ρ b) (sym (poly_is ρ (a ⊖ b)) ∙ is_zero_is ρ (poly ρ (a ⊖ b)) t)
