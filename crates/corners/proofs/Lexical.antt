-- The order by (y, z, x) of places with finite coordinates: two places that differ stand in it one way round, and it can be chained. Assumes nothing.
use mathlib.Core.Path.{◌≡◌, sym}
use mathlib.Core.Logic.{◌⊎◌, inl, inr}
use mathlib.Core.Bool.{Bool, true, false, not, ◌&&◌, cond}
use Prim.Native.Nat.{ℕ, ◌+◌, ◌<◌}
use native.Mathlib.Nat.{le_of_lt, le_of_eq, eq-or-lt_of_le}
use native.Mathlib.Omega.{arith}
use lib.Dec.{T, T_not}
use lib.Ieee.{Float, lt, le, eq}
use lib.Ieee.Fits.{and_i}
use Rattle.ieee.specs.Units.{F32, P, N}
use Rattle.ieee.proofs.Compare.{lt→, →lt, le→, →le, eq→, →eq}
use Rattle.vectors.specs.declared.Vec3.{Vec3}
use Rattle.corners.specs.Table.{alike}
use Rattle.corners.specs.SpeakerOrder.{precedes}
use Rattle.corners.proofs.Rising.{less_or_not}

pub record Fine (v : Vec3) : Type 0 where
  pub x : F32 v.x
  pub y : F32 v.y
  pub z : F32 v.z

-- ---- coordinates by their values
abbrev Less : Float → Float → Type 0
Less a b = P a + N b < P b + N a

abbrev Level : Float → Float → Type 0
Level a b = P a + N b ≡ P b + N a

not_both : {m n : ℕ} → m < n → m ≡ n → ⊥
not_both h k = omega arith

level_not : (a b : Float) → F32 a → F32 b → T (not (eq a b)) → Level a b → ⊥
level_not a b f g t e = T_not (eq a b) t (→eq a b f g e)

-- the sums of three values along one axis
chain : (a a' b b' c c' : ℕ) → a + b' < b + a' → b + c' < c + b' → a + c' < c + a'
chain a a' b b' c c' h k = omega arith

chain_level : (a a' b b' c c' : ℕ) → a + b' < b + a' → b + c' ≡ c + b' → a + c' < c + a'
chain_level a a' b b' c c' h k = omega arith

level_chain : (a a' b b' c c' : ℕ) → a + b' ≡ b + a' → b + c' < c + b' → a + c' < c + a'
level_chain a a' b b' c c' h k = omega arith

levels : (a a' b b' c c' : ℕ) → a + b' ≡ b + a' → b + c' ≡ c + b' → a + c' ≡ c + a'
levels a a' b b' c c' h k = omega arith

three : (m n : ℕ) → (m < n) ⊎ ((m ≡ n) ⊎ (n < m))
three m n = elim (less_or_not m n) [ inl h ↦ inl h | inr h ↦ elim (eq-or-lt_of_le h) [ inl e ↦ inr (inl (sym e)) | inr l ↦ inr (inr l) ] ]

-- ---- places
pub Lex : Vec3 → Vec3 → Type 0
Lex v w = Less v.y w.y ⊎ (Level v.y w.y × (Less v.z w.z ⊎ (Level v.z w.z × Less v.x w.x)))

module _ (v w : Vec3) (f : Fine v) (g : Fine w) where
  pub lex_of : T (precedes v w) → Lex v w
  unfolding precedes Lex
  lex_of = go (eq v.y w.y) (eq v.z w.z) (eq→ v.y w.y f.y g.y) (eq→ v.z w.z f.z g.z)
    where
      go : (b d : Bool) → (T b → Level v.y w.y) → (T d → Level v.z w.z) → T (cond b (cond d (lt v.x w.x) (lt v.z w.z)) (lt v.y w.y)) → Lex v w
      go true true h k t = inr (h tt, inr (k tt, lt→ v.x w.x f.x g.x t))
      go true false h k t = inr (h tt, inl (lt→ v.z w.z f.z g.z t))
      go false d h k t = inl (lt→ v.y w.y f.y g.y t)

  pub of_lex : Lex v w → T (precedes v w)
  unfolding precedes Lex
  of_lex l =
      go (eq v.y w.y) (eq v.z w.z) (eq→ v.y w.y f.y g.y) (level_not v.y w.y f.y g.y) (eq→ v.z w.z f.z g.z)
      (level_not v.z w.z f.z g.z) l
    where
      go : (b d : Bool) → (T b → Level v.y w.y) → (T (not b) → Level v.y w.y → ⊥) → (T d → Level v.z w.z) → (T (not d) → Level v.z w.z → ⊥) →
          Less v.y w.y ⊎ (Level v.y w.y × (Less v.z w.z ⊎ (Level v.z w.z × Less v.x w.x))) →
          T (cond b (cond d (lt v.x w.x) (lt v.z w.z)) (lt v.y w.y))
      go false d h h' k k' (inl p) = →lt v.y w.y f.y g.y p
      go true d h h' k k' (inl p) = absurd (not_both p (h tt))
      go false d h h' k k' (inr p) = absurd (h' tt p.0)
      go true false h h' k k' (inr (e, inl p)) = →lt v.z w.z f.z g.z p
      go true true h h' k k' (inr (e, inl p)) = absurd (not_both p (k tt))
      go true false h h' k k' (inr (e, inr p)) = absurd (k' tt p.0)
      go true true h h' k k' (inr (e, inr p)) = →lt v.x w.x f.x g.x p.1

  -- two places that differ
  pub other_way : (T (precedes v w) → ⊥) → (T (alike v w) → ⊥) → Lex w v
  unfolding Lex
  other_way n a = by_y (three (P v.y + N w.y) (P w.y + N v.y))
    where
      by_x : Level v.y w.y → Level v.z w.z → (Less v.x w.x) ⊎ ((Level v.x w.x) ⊎ (Less w.x v.x)) → Lex w v
      by_x e d (inl p) = absurd (n (of_lex (inr (e, inr (d, p)))))
      by_x e d (inr (inl p)) = absurd (a (and_i (eq v.x w.x) (eq v.y w.y && eq v.z w.z) (→eq v.x w.x f.x g.x p)
          (and_i (eq v.y w.y) (eq v.z w.z) (→eq v.y w.y f.y g.y e) (→eq v.z w.z f.z g.z d))))
      by_x e d (inr (inr p)) = inr (sym e, inr (sym d, p))

      by_z : Level v.y w.y → (Less v.z w.z) ⊎ ((Level v.z w.z) ⊎ (Less w.z v.z)) → Lex w v
      by_z e (inl p) = absurd (n (of_lex (inr (e, inl p))))
      by_z e (inr (inl p)) = by_x e p (three (P v.x + N w.x) (P w.x + N v.x))
      by_z e (inr (inr p)) = inr (sym e, inl p)

      by_y : (Less v.y w.y) ⊎ ((Level v.y w.y) ⊎ (Less w.y v.y)) → Lex w v
      by_y (inl p) = absurd (n (of_lex (inl p)))
      by_y (inr (inl p)) = by_z p (three (P v.z + N w.z) (P w.z + N v.z))
      by_y (inr (inr p)) = inl p

  -- what the order says of each coordinate
  pub lex_y : Lex v w → T (le v.y w.y)
  unfolding Lex
  lex_y (inl p) = →le v.y w.y f.y g.y (le_of_lt p)
  lex_y (inr p) = →le v.y w.y f.y g.y (le_of_eq p.0)

  pub lex_z : Lex v w → T (le w.y v.y) → T (le v.z w.z)
  unfolding Lex
  lex_z (inl p) t = let h = le→ w.y v.y g.y f.y t in absurd (omega (arith, h, p))
  lex_z (inr (e, inl p)) t = →le v.z w.z f.z g.z (le_of_lt p)
  lex_z (inr (e, inr p)) t = →le v.z w.z f.z g.z (le_of_eq p.0)

  lex_x : Lex v w → T (le w.y v.y) → T (le w.z v.z) → Less v.x w.x
  unfolding Lex
  lex_x (inl p) t s = let h = le→ w.y v.y g.y f.y t in absurd (omega (arith, h, p))
  lex_x (inr (e, inl p)) t s = let h = le→ w.z v.z g.z f.z s in absurd (omega (arith, h, p))
  lex_x (inr (e, inr p)) t s = p.1

  pub lex_left : Lex v w → T (le w.y v.y) → T (le w.z v.z) → T (le v.x w.x)
  lex_left l t s = →le v.x w.x f.x g.x (le_of_lt (lex_x l t s))

  pub lex_apart : Lex v w → T (le w.y v.y) → T (le w.z v.z) → T (le w.x v.x) → ⊥
  lex_apart l t s r = let h = le→ w.x v.x g.x f.x r in let k = lex_x l t s in omega (arith, h, k)

pub lex_chain : (u v w : Vec3) → Lex u v → Lex v w → Lex u w
unfolding Lex
lex_chain u v w (inl p) (inl q) = inl (chain (P u.y) (N u.y) (P v.y) (N v.y) (P w.y) (N w.y) p q)
lex_chain u v w (inl p) (inr q) = inl (chain_level (P u.y) (N u.y) (P v.y) (N v.y) (P w.y) (N w.y) p q.0)
lex_chain u v w (inr p) (inl q) = inl (level_chain (P u.y) (N u.y) (P v.y) (N v.y) (P w.y) (N w.y) p.0 q)
lex_chain u v w (inr p) (inr q) = inr (levels (P u.y) (N u.y) (P v.y) (N v.y) (P w.y) (N w.y) p.0 q.0, inner p.1 q.1)
  where
    inner : Less u.z v.z ⊎ (Level u.z v.z × Less u.x v.x) → Less v.z w.z ⊎ (Level v.z w.z × Less v.x w.x) →
        Less u.z w.z ⊎ (Level u.z w.z × Less u.x w.x)
    inner (inl p) (inl q) = inl (chain (P u.z) (N u.z) (P v.z) (N v.z) (P w.z) (N w.z) p q)
    inner (inl p) (inr q) = inl (chain_level (P u.z) (N u.z) (P v.z) (N v.z) (P w.z) (N w.z) p q.0)
    inner (inr p) (inl q) = inl (level_chain (P u.z) (N u.z) (P v.z) (N v.z) (P w.z) (N w.z) p.0 q)
    inner (inr p) (inr q) = inr (
      levels (P u.z) (N u.z) (P v.z) (N v.z) (P w.z) (N w.z) p.0 q.0,
      chain (P u.x) (N u.x) (P v.x) (N v.x) (P w.x) (N w.x) p.1 q.1,
    )
