-- The order of finite coordinates, about a value of any floats. Assumes nothing.
use mathlib.Core.Logic.{◌⊎◌, inl, inr}
use mathlib.Core.Path.{◌≡◌, sym, subst}
use mathlib.Core.Bool.{Bool, true, false, not, ◌||◌}
use Prim.Native.Nat.{ℕ, ◌+◌, ◌≤◌, ◌<◌}
use native.Mathlib.Nat.{le_refl, le_antisymm}
use native.Mathlib.Omega.{arith}
use lib.Dec.{T, ltb, ltb→lt, nltb→le}
use lib.Ieee.{Float, nan, inf, fin, binary32, fits, le, lt, eq}
use Rattle.ieee.specs.Units.{F32, P, N}
use Rattle.ieee.proofs.Compare.{le→, →le, eq→, →eq}

pub less_or_not : (m n : ℕ) → (m < n) ⊎ (n ≤ m)
less_or_not m n = go (ltb m n) (ltb→lt m n) (nltb→le m n)
  where
    go : (b : Bool) → (T b → m < n) → (T (not b) → n ≤ m) → (m < n) ⊎ (n ≤ m)
    go true h k = inl (h tt)
    go false h k = inr (k tt)

pub eq_finite : (a v : Float) → F32 a → T (fits binary32 v) → T (eq a v) → F32 v
unfolding eq
eq_finite nan v f g h = absurd f.fine
eq_finite (inf s) v f g h = absurd f.fine
eq_finite (fin s m e) nan f g h = absurd h
eq_finite (fin s m e) (inf t) f g h = absurd h
eq_finite (fin s m e) (fin t n d) f g h = record { fine = tt; fit = g }

pub le_self : (a : Float) → F32 a → T (le a a)
le_self a f = →le a a f f (le_refl (P a + N a))

pub through : (a b v : Float) → F32 a → F32 b → T (fits binary32 v) → T (le a b) → T (le b v) → T (le a v)
unfolding le lt eq
through nan b v f g w h k = absurd f.fine
through (inf s) b v f g w h k = absurd f.fine
through (fin s m e) nan v f g w h k = absurd g.fine
through (fin s m e) (inf t) v f g w h k = absurd g.fine
through (fin s m e) (fin t n d) nan f g w h k = absurd k
through (fin s m e) (fin t n d) (inf true) f g w h k = absurd k
through (fin s m e) (fin t n d) (inf false) f g w h k = tt
through (fin s m e) (fin t n d) (fin u o c) f g w h k =
    let i : F32 (fin u o c) = record { fine = tt; fit = w } in
    →le (fin s m e) (fin u o c) f i (join (P (fin s m e)) (N (fin s m e)) (P (fin t n d)) (N (fin t n d)) (P (fin u o c)) (N (fin u o c)) (le→ (fin s m e) (fin t n d) f g h)
    (le→ (fin t n d) (fin u o c) g i k))
  where
    join : (a a' b b' c c' : ℕ) → a + b' ≤ b + a' → b + c' ≤ c + b' → a + c' ≤ c + a'
    join a a' b b' c c' h k = omega arith

-- what equals v is up to v
pub eq_le : (a v : Float) → T (eq a v) → T (le a v)
unfolding le
eq_le a v e = or_right (lt a v) (eq a v) e
  where
    or_right : (p q : Bool) → T q → T (p || q)
    or_right true q t = tt
    or_right false q t = t

-- two values that equal v, and one between a value that equals v and v
pub eq_both : (a b v : Float) → F32 a → F32 b → T (fits binary32 v) → T (eq a v) → T (eq b v) → T (le a b)
eq_both a b v f g w e d =
    let fv = eq_finite a v f w e in
    →le a b f g (join (P a) (N a) (P b) (N b) (P v) (N v) (eq→ a v f fv e) (eq→ b v g fv d))
  where
    join : (a a' b b' v v' : ℕ) → a + v' ≡ v + a' → b + v' ≡ v + b' → a + b' ≤ b + a'
    join a a' b b' v v' h k = omega arith

pub squeezed : (a b v : Float) → F32 a → F32 b → T (fits binary32 v) → T (eq a v) → T (le a b) → T (le b v) → T (eq b v)
squeezed a b v f g w e h k =
    let fv = eq_finite a v f w e in
    →eq b v g fv (join (P a) (N a) (P b) (N b) (P v) (N v) (eq→ a v f fv e) (le→ a b f g h) (le→ b v g fv k))
  where
    join : (a a' b b' v v' : ℕ) → a + v' ≡ v + a' → a + b' ≤ b + a' → b + v' ≤ v + b' → b + v' ≡ v + b'
    join a a' b b' v v' e h k = le_antisymm (omega arith) (omega arith)

-- the outcome of a test, as the code has it
pub passed : {b : Bool} → b ≡ true → T b
passed e = subst T (sym e) tt

pub failed : {b : Bool} → b ≡ false → T (not b)
failed e = subst (λ (x : Bool). T (not x)) (sym e) tt
