-- The f32 operations where the signs are known, with the digits that a result keeps. `Plus x n` and `Minus x n`: x is finite and is n units, or minus n units. `Gives n c k`: n / c
-- units round to k, without overflow. A fraction a / b of 24 binary digits, in units of 2 ^ j, keeps the whole number nearest to it, `closest a b` (`kept`). Assumes nothing.
use mathlib.Core.Path.{◌≡◌, sym, ap, ap₂, ◌∙◌, subst}
use mathlib.Core.Bool.{false}
use Prim.Native.Nat.{ℕ, ◌+◌, ◌-◌, ◌*◌, ◌^◌, ◌≤◌, ◌<◌}
use native.Mathlib.Nat.{le_trans, le_of_eq, le_of_lt, lt_of_le_of_lt, mul-le-mul_right, le_of_mul-le-mul_right}
use native.Mathlib.Omega.{arith}
use lib.Dec.{lit<}
use lib.Pow.{pow-add, pow-lt}
use lib.Ieee.{Float, binary32, add, sub, mul, div}
use lib.Ieee.Nearest.{closest}
use Rattle.ieee.proofs.Grid.{OnGrid, rnd, rnd_exact, rnd_zero, closest_near}
use Rattle.ieee.proofs.Closest.{rnd_closest}
use Rattle.ieee.proofs.Value.{One, Top, F32, P, N, Is, plus_P, plus_N, one_pos}
use Rattle.ieee.proofs.Ops.{Rounds, Small, add_rounds, sub_rounds, mul_rounds, div_rounds}
use Rattle.ieee.proofs.Constants.{top_pos}

pub record Plus (x : Float) (n : ℕ) : Type 0 where
  pub f32 : F32 x
  pub up : P x ≡ n
  pub down : N x ≡ 0

pub record Minus (x : Float) (n : ℕ) : Type 0 where
  pub f32 : F32 x
  pub up : P x ≡ 0
  pub down : N x ≡ n

pub plus_of : {x : Float} {n : ℕ} → Is x false n → Plus x n
plus_of i = record { f32 = i.f32; up = plus_P i; down = plus_N i }

-- ---- the whole number nearest to a / b, by bounds on a / b
pub closest_least : (a b m : ℕ) → 0 < b → m * b ≤ a → m ≤ closest a b
closest_least a b m B h = half m (closest a b) (le_of_mul-le-mul_right (go (closest a b) (closest_near a b B).below) B)
  where
    go : (k : ℕ) → 2 * a ≤ 2 * (k * b) + b → 2 * m * b ≤ (2 * k + 1) * b
    go k l = omega arith

    half : (m k : ℕ) → 2 * m ≤ 2 * k + 1 → m ≤ k
    half m k h = omega arith

pub closest_most : (a b m : ℕ) → 0 < b → a ≤ m * b → closest a b ≤ m
closest_most a b m B h = half (closest a b) m (le_of_mul-le-mul_right (go (closest a b) (closest_near a b B).above) B)
  where
    go : (k : ℕ) → 2 * (k * b) ≤ 2 * a + b → 2 * k * b ≤ (2 * m + 1) * b
    go k l = omega arith

    half : (k m : ℕ) → 2 * k ≤ 2 * m + 1 → k ≤ m
    half k m h = omega arith

-- ---- what a fraction rounds to
pub record Gives (n c k : ℕ) : Type 0 where
  pub is : rnd n c ≡ k
  pub less : k < Top

pub kept : (n c a b j : ℕ) → 0 < c → 0 < b → n * b ≡ a * 2 ^ j * c → 8388608 * b ≤ a → a < 16777216 * b → j ≤ 252 → Gives n c (closest a b * 2 ^ j)
unfolding Top
kept n c a b j C B e l h s = record {
  is = rnd_closest n c a b j C B e l h;
  less =
      lt_of_le_of_lt (le_trans (mul-le-mul_right (2 ^ j) (closest_most a b 16777216 B (le_of_lt h))) (le_of_eq (sym (pow-add 2 24 j))))
      (pow-lt {i = 24 + j} {j = 277} (omega arith));
}

pub exactly : {k : ℕ} → OnGrid k → k < Top → (c : ℕ) → 0 < c → Gives (k * c) c k
exactly g l c C = record { is = rnd_exact g c C; less = l }

-- ---- the operations
module _ {z : Float} {A B c n k : ℕ} (C : 0 < c) (g : Gives n c k) (f : Small A B c → Rounds z A B c) where
  none : (x : ℕ) → x ≡ 0 → rnd x c ≡ 0
  none x e = ap (λ (y : ℕ). rnd y c) e ∙ rnd_zero c C

  some : (x : ℕ) → x ≡ n → rnd x c ≡ k
  some x e = ap (λ (y : ℕ). rnd y c) e ∙ g.is

  fits : {x y : ℕ} → x ≡ y → y < Top → x < Top
  fits e l = subst (λ (w : ℕ). w < Top) (sym e) l

  to_plus : A ≡ B + n → Plus z k
  to_plus e =
      let u : A - B ≡ n = omega arith in
      let d : B - A ≡ 0 = omega arith in
      let r = f (record { high = fits (some (A - B) u) g.less; deep = fits (none (B - A) d) top_pos }) in
      record { f32 = r.f32; up = r.up ∙ some (A - B) u; down = r.down ∙ none (B - A) d }

  to_minus : B ≡ A + n → Minus z k
  to_minus e =
      let u : A - B ≡ 0 = omega arith in
      let d : B - A ≡ n = omega arith in
      let r = f (record { high = fits (none (A - B) u) top_pos; deep = fits (some (B - A) d) g.less }) in
      record { f32 = r.f32; up = r.up ∙ none (A - B) u; down = r.down ∙ some (B - A) d }

pub add_plus : {x y : Float} {a b k : ℕ} → Plus x a → Plus y b → Gives (a + b) 1 k → Plus (add binary32 x y) k
add_plus {x} {y} {a} {b} p q g = to_plus (lit< tt) g (add_rounds x y p.f32 q.f32) (omega (arith, p.up, p.down, q.up, q.down))

-- a is b and n
pub sub_plus : {x y : Float} {a b n k : ℕ} → Plus x a → Plus y b → a ≡ b + n → Gives n 1 k → Plus (sub binary32 x y) k
sub_plus {x} {y} p q e g = to_plus (lit< tt) g (sub_rounds x y p.f32 q.f32) (omega (arith, p.up, p.down, q.up, q.down))

pub div_plus : {x y : Float} {a b k : ℕ} → Plus x a → Plus y b → 0 < b → Gives (a * One) b k → Plus (div binary32 x y) k
div_plus {x} {y} {a} {b} {k} p q B g =
    let e : b ≡ P y = sym q.up in
    let B' : 0 < P y = subst (λ (i : ℕ). 0 < i) e B in
    to_plus B' (subst (λ (i : ℕ). Gives (a * One) i k) e g) (div_rounds x y p.f32 q.f32 B')
    (ap (λ (i : ℕ). i * One) p.up ∙ sym (ap (λ (i : ℕ). i * One + a * One) p.down ∙ omega arith))

pub mul_plus : {x y : Float} {a b k : ℕ} → Plus x a → Plus y b → Gives (a * b) One k → Plus (mul binary32 x y) k
mul_plus {x} {y} {a} {b} p q g = to_plus one_pos g (mul_rounds x y p.f32 q.f32) (go (P x) (P y) (N x) (N y) p.up q.up p.down q.down)
  where
    go : (i j n m : ℕ) → i ≡ a → j ≡ b → n ≡ 0 → m ≡ 0 → i * j + n * m ≡ i * m + n * j + a * b
    go i j n m e f u v = ap₂ (λ (k l : ℕ). i * j + k * l) u v ∙ ap₂ (λ (k l : ℕ). k * l + 0 * 0) e f ∙ sym (ap₂ (λ (k l : ℕ). i * k + l * j + a * b) v u ∙ omega arith)

pub mul_minus : {x y : Float} {a b k : ℕ} → Minus x a → Plus y b → Gives (a * b) One k → Minus (mul binary32 x y) k
mul_minus {x} {y} {a} {b} p q g = to_minus one_pos g (mul_rounds x y p.f32 q.f32) (go (P x) (P y) (N x) (N y) p.up q.up p.down q.down)
  where
    go : (i j n m : ℕ) → i ≡ 0 → j ≡ b → n ≡ a → m ≡ 0 → i * m + n * j ≡ i * j + n * m + a * b
    go i j n m e f u v = ap₂ (λ (k l : ℕ). k * m + l * j) e u ∙ ap (λ (k : ℕ). 0 * m + a * k) f ∙ sym (ap₂ (λ (k l : ℕ). k * j + n * l + a * b) e v ∙ omega arith)
