-- The bits of the terms that are not 0, one after another. Assumes nothing.
use mathlib.Core.Path.{◌≡◌, refl, sym, ap, ◌∙◌}
use mathlib.Core.Bool.{Bool, true, false, cond}
use mathlib.Core.List.{List, [], ◌∷◌, ◌++◌}
use Prim.Native.Nat.{ℕ, ◌+◌, ◌*◌, ◌^◌, ◌%◌, ◌≤◌, ◌<◌}
use native.Mathlib.Nat.{pow-le-pow_right, add_assoc}
use native.Mathlib.Omega.{arith}
use lib.Ieee.{Float, binary32, mul, ne, eq}
use Rattle.roots.specs.Root.{root}
use Rattle.vectors.specs.declared.Vec3.{Vec3}
use Rattle.corners.specs.Choice.{0·0, 1·0, corner}
use Rattle.corners.specs.Found.{chosen}
use Rattle.corners.specs.declared.Layer.{Layer}
use Rattle.corners.specs.declared.Cube.{Cube}
use Rattle.panning.specs.declared.LayerShares.{LayerShares}
use Rattle.panning.specs.declared.Shares.{Shares}
use Rattle.panning.specs.declared.Panned.{Panned}
use Rattle.panning.specs.Terms.{Term, term, part, weighted, audible, paired, corner_terms, terms, panned, inner_gain}
use Rattle.panning.specs.Shares.{layer_coefficients, SharesOf}
use Rattle.panning.specs.Facts.{Pans}
use Rattle.panning.proofs.Answers.{coefficients_are, pan_some}
use Rattle.panning.specs.Sounding.{terms_bits}

-- a term's bit, where it is not 0
abbrev pub bit_of : Term → ℕ
bit_of t = cond (ne t.coefficient 0·0) (2 ^ t.channel) 0

pub next : (t : Term) (ts : List Term) → terms_bits (audible (t ∷ ts)) ≡ bit_of t + terms_bits (audible ts)
unfolding terms_bits audible
next t ts = go (ne t.coefficient 0·0)
  where
    go : (b : Bool) → terms_bits (cond b (t ∷ audible ts) (audible ts)) ≡ cond b (2 ^ t.channel) 0 + terms_bits (audible ts)
    go true = refl
    go false = omega arith

pub alone : (t : Term) → terms_bits (audible (t ∷ [])) ≡ bit_of t
unfolding terms_bits audible
alone t = next t [] ∙ omega arith

-- those of two lists
pub beside : (a b : List Term) → terms_bits (audible (a ++ b)) ≡ terms_bits (audible a) + terms_bits (audible b)
unfolding terms_bits audible
beside [] b = omega arith
beside (t ∷ ts) b =
    next t (ts ++ b) ∙ ap (λ (n : ℕ). bit_of t + n) (beside ts b)
    ∙ sym (add_assoc (bit_of t) (terms_bits (audible ts)) (terms_bits (audible b))) ∙ ap (λ (n : ℕ). n + terms_bits (audible b)) (sym (next t ts))

pub added : {x y m n r : ℕ} → x ≡ m → y ≡ n → r ≡ m + n → x + y ≡ r
added a b c = omega (arith, a, b, c)

-- the bit of a channel is small
pub bit_most : (c : ℕ) → c < 12 → 2 ^ c ≤ 2048
bit_most c h = pow-le-pow_right (let z : 0 < 2 = omega arith in z) (let i : c ≤ 11 = omega arith in i)

pub bit_fits : (c : ℕ) → c < 12 → 1 * 2 ^ c % 4294967296 ≡ 2 ^ c
bit_fits c h = let i = bit_most c h in omega arith

-- a side that sounds, and one that does not
module _ (c : ℕ) (w part : Float) where
  pub sounding : ne w 0·0 ≡ true → ne (root (mul binary32 w part)) 0·0 ≡ true → terms_bits (audible (term c (weighted w part) ∷ [])) ≡ 2 ^ c
  sounding e f =
      alone (term c (weighted w part)) ∙ ap (λ (b : Bool). cond (ne (cond b (root (mul binary32 w part)) 0·0) 0·0) (2 ^ c) 0) e ∙ ap (λ (b : Bool). cond b (2 ^ c) 0) f

  pub unweighted : ne w 0·0 ≡ false → terms_bits (audible (term c (weighted w part) ∷ [])) ≡ 0
  unfolding ne
  unweighted e = alone (term c (weighted w part)) ∙ ap (λ (b : Bool). cond (ne (cond b (root (mul binary32 w part)) 0·0) 0·0) (2 ^ c) 0) e

  pub rootless : ne w 0·0 ≡ true → ne (root (mul binary32 w part)) 0·0 ≡ false → terms_bits (audible (term c (weighted w part) ∷ [])) ≡ 0
  rootless e f =
      alone (term c (weighted w part)) ∙ ap (λ (b : Bool). cond (ne (cond b (root (mul binary32 w part)) 0·0) 0·0) (2 ^ c) 0) e ∙ ap (λ (b : Bool). cond b (2 ^ c) 0) f

-- ---- the eight corners

-- those of a layer
abbrev pub layer_terms : Layer → LayerShares → Float → List Term
layer_terms l s u = paired (l.front.low ∷ l.front.high ∷ l.rear.low ∷ l.rear.high ∷ []) (layer_coefficients s u 1·0)

pub both_layers : {sp : ℕ → Vec3} {l : List ℕ} {n : Float} {p : Vec3} (a : Pans sp l n p) {c : Cube} {s : Shares} → chosen c ≡ corner sp l p → SharesOf sp c p s
    → terms_bits (audible (layer_terms c.bottom s.bottom (part false s.up))) + terms_bits (audible (layer_terms c.top s.top (part true s.up))) ≡ terms_bits (terms l (panned sp l n p 1·0 0·0))
unfolding paired inner_gain ne eq
both_layers {sp} {l} {n} {p} a {c} {s} h S =
    sym (beside (layer_terms c.bottom s.bottom (part false s.up)) (layer_terms c.top s.top (part true s.up)))
    ∙ ap (λ (r : Panned). terms_bits (corner_terms r)) (pan_some sp l n p 1·0 0·0 refl h refl (coefficients_are sp c p 1·0 S refl refl) refl refl)
    ∙ ap terms_bits (sym (a.plain 1·0 0·0 tt))
