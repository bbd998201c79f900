-- ℤ is a commutative ring: the laws that lib.IntN lacks. Products distribute over sums, associate, and let a sign through. To show an identity of polynomials use
-- `ring` of Ring, which rests on these; cite a law from here where a proof rewrites one place. Assumes nothing.
use mathlib.Core.Path.{◌≡◌, sym, ◌∙◌, ap, ap₂}
use Prim.Native.Nat.{zero, suc}
use lib.IntN.{ℤ, pos, negsuc, suc_ℤ, pred_ℤ, neg_ℤ, ◌+ℤ◌, ◌-ℤ◌, ◌*ℤ◌, +ℤ_assoc, +ℤ_comm, +ℤ_idl, +ℤ_idr, +ℤ_invl, +ℤ_invr, suc_ℤ-+ℤ, pred_ℤ-+ℤ, suc_ℤ-*ℤ, pred_ℤ-*ℤ, zero-*ℤ}
use lib.IntN.{*ℤ_comm, *ℤ-one, one}

-- induction by successor and predecessor
step {ℓ} : (P : ℤ → Type ℓ) → P (pos zero) → ((k : ℤ) → P k → P (suc_ℤ k)) → ((k : ℤ) → P k → P (pred_ℤ k)) → (k : ℤ) → P k
step P z s p (pos zero) = z
step P z s p (pos (suc n)) = s (pos n) (step P z s p (pos n))
step P z s p (negsuc zero) = p (pos zero) z
step P z s p (negsuc (suc n)) = p (negsuc n) (step P z s p (negsuc n))

pub one_*ℤ : (m : ℤ) → pos 1 *ℤ m ≡ m
unfolding one
one_*ℤ m = *ℤ_comm (pos 1) m ∙ *ℤ-one m

-- the third summand moves next to the first
pub +ℤ-swap : (a b c : ℤ) → (a +ℤ b) +ℤ c ≡ (a +ℤ c) +ℤ b
+ℤ-swap a b c = +ℤ_assoc a b c ∙ ap (λ x. a +ℤ x) (+ℤ_comm b c) ∙ sym (+ℤ_assoc a c b)

pub +ℤ-swap4 : (a b c d : ℤ) → (a +ℤ b) +ℤ (c +ℤ d) ≡ (a +ℤ c) +ℤ (b +ℤ d)
+ℤ-swap4 a b c d = sym (+ℤ_assoc (a +ℤ b) c d) ∙ ap (λ x. x +ℤ d) (+ℤ-swap a b c) ∙ +ℤ_assoc (a +ℤ c) b d

pub add_*ℤ : (a b c : ℤ) → (a +ℤ b) *ℤ c ≡ a *ℤ c +ℤ b *ℤ c
add_*ℤ a b c = step (λ a. (a +ℤ b) *ℤ c ≡ a *ℤ c +ℤ b *ℤ c)
    (ap (λ x. x *ℤ c) (+ℤ_idl b) ∙ sym (ap (λ x. x +ℤ b *ℤ c) (zero-*ℤ c) ∙ +ℤ_idl (b *ℤ c)))
    (λ k h. ap (λ x. x *ℤ c) (suc_ℤ-+ℤ k b) ∙ suc_ℤ-*ℤ (k +ℤ b) c ∙ ap (λ x. x +ℤ c) h ∙ +ℤ-swap (k *ℤ c) (b *ℤ c) c ∙ ap (λ x. x +ℤ b *ℤ c) (sym (suc_ℤ-*ℤ k c)))
    (λ k h. ap (λ x. x *ℤ c) (pred_ℤ-+ℤ k b) ∙ pred_ℤ-*ℤ (k +ℤ b) c ∙ ap (λ x. x -ℤ c) h ∙ +ℤ-swap (k *ℤ c) (b *ℤ c) (neg_ℤ c) ∙ ap (λ x. x +ℤ b *ℤ c) (sym (pred_ℤ-*ℤ k c)))
    a

pub *ℤ-add : (a b c : ℤ) → c *ℤ (a +ℤ b) ≡ c *ℤ a +ℤ c *ℤ b
*ℤ-add a b c = *ℤ_comm c (a +ℤ b) ∙ add_*ℤ a b c ∙ ap₂ ◌+ℤ◌ (*ℤ_comm a c) (*ℤ_comm b c)

-- a sum that is 0 determines its second summand
pub neg_unique : (a b : ℤ) → a +ℤ b ≡ pos 0 → b ≡ neg_ℤ a
neg_unique a b h = sym (+ℤ_idl b) ∙ ap (λ x. x +ℤ b) (sym (+ℤ_invl a)) ∙ +ℤ_assoc (neg_ℤ a) a b ∙ ap (λ x. neg_ℤ a +ℤ x) h ∙ +ℤ_idr (neg_ℤ a)

pub neg_*ℤ : (a b : ℤ) → neg_ℤ a *ℤ b ≡ neg_ℤ (a *ℤ b)
neg_*ℤ a b = neg_unique (a *ℤ b) (neg_ℤ a *ℤ b) (sym (add_*ℤ a (neg_ℤ a) b) ∙ ap (λ x. x *ℤ b) (+ℤ_invr a) ∙ zero-*ℤ b)

pub neg_as_mul : (b : ℤ) → negsuc 0 *ℤ b ≡ neg_ℤ b
neg_as_mul b = neg_*ℤ (pos 1) b ∙ ap neg_ℤ (one_*ℤ b)

pub *ℤ-assoc : (a b c : ℤ) → (a *ℤ b) *ℤ c ≡ a *ℤ (b *ℤ c)
*ℤ-assoc a b c = step (λ a. (a *ℤ b) *ℤ c ≡ a *ℤ (b *ℤ c))
    (ap (λ x. x *ℤ c) (zero-*ℤ b) ∙ zero-*ℤ c ∙ sym (zero-*ℤ (b *ℤ c)))
    (λ k h. ap (λ x. x *ℤ c) (suc_ℤ-*ℤ k b) ∙ add_*ℤ (k *ℤ b) b c ∙ ap (λ x. x +ℤ b *ℤ c) h ∙ sym (suc_ℤ-*ℤ k (b *ℤ c)))
    (λ k h. ap (λ x. x *ℤ c) (pred_ℤ-*ℤ k b) ∙ add_*ℤ (k *ℤ b) (neg_ℤ b) c ∙ ap₂ ◌+ℤ◌ h (neg_*ℤ b c) ∙ sym (pred_ℤ-*ℤ k (b *ℤ c)))
    a

pub eq_of_sub : (a b : ℤ) → a -ℤ b ≡ pos 0 → a ≡ b
eq_of_sub a b h = sym (+ℤ_idr a) ∙ ap (λ x. a +ℤ x) (sym (+ℤ_invl b)) ∙ sym (+ℤ_assoc a (neg_ℤ b) b) ∙ ap (λ x. x +ℤ b) h ∙ +ℤ_idl b
