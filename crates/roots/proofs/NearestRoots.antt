-- The roots are the nearest f32, and the only ones. Assumes nothing.
use mathlib.Core.Path.{◌≡◌, sym, ap, ◌∙◌}
use mathlib.Core.Logic.{inl, inr}
use Prim.Native.Nat.{ℕ, ◌+◌, ◌-◌, ◌*◌, ◌^◌, ◌≤◌, ◌<◌}
use native.Mathlib.Nat.{le_trans, le_of_eq, le_antisymm, eq-or-lt_of_le, add_comm, pow-le-pow_left}
use native.Mathlib.Omega.{arith}
use lib.Dec.{lit≤}
use lib.Ieee.{Float}
use Rattle.ieee.specs.Units.{One, F32, mag, P, N}
use Rattle.ieee.specs.Nearest.{Root, Nearest}
use Rattle.ieee.proofs.Grid.{le_or_lt, grid_pow, grid_up}
use Rattle.ieee.proofs.Value.{shape}
use Rattle.ieee.proofs.Signed.{one_sided, mag_is, P-grid}
use Rattle.ieee.proofs.Unique.{same_value}
use Rattle.roots.specs.Root.{power_of, root, root_power, NearestRoot}
use Rattle.roots.proofs.Rooted.{GridRoot}
use Rattle.roots.proofs.Squares.{square_is}
use Rattle.roots.proofs.Ties.{root_least, no_tie}
use Rattle.roots.proofs.Meaning.{Power, power_large, RootOf, square, fourth, root_rooted, power_rooted}

-- ---- document 01, item 1: "Square root and fourth root, nearest f32, ties to even." No f32 is nearer
meant : {p : ℕ} {x y : Float} → RootOf p x y → NearestRoot p x y
meant r = record { f32 = r.f32; plus = r.plus; above = λ v f h. r.near.above (mag v) (shape v f).grid h; below = λ v f h. r.near.below (mag v) (shape v f).grid h }

pub root_meant : (x : Float) → F32 x → N x ≡ 0 → NearestRoot 2 x (root x)
root_meant x f n = meant (root_rooted x f n)

pub half_meant : (x : Float) → F32 x → N x ≡ 0 → NearestRoot 2 x (root_power 2 x)
half_meant x f n = meant (power_rooted square x f n)

pub fourth_meant : (x : Float) → F32 x → N x ≡ 0 → NearestRoot 4 x (root_power 4 x)
fourth_meant x f n = meant (power_rooted fourth x f n)

-- ---- and no other is as near, so that there is no tie
only : {p : ℕ} → Power p → {x y z : Float} → F32 x → 0 < P x → RootOf p x z → NearestRoot p x y → y ≡ z
only {p} q {x} {y} {z} f some r n = same_value z y r.f32 n.f32 same (n.plus ∙ sym r.plus) (omega (arith, size, root_least p q.some (grid_pow 26) large r.near))
  where
    large : (2 ^ 26) ^ p ≤ power_of p (P x)
    large = power_large q (P x) some

    size : mag z ≡ P z
    size = omega (arith, mag_is z, r.plus)

    turn : (mag z + P y) ^ p ≡ (P y + P z) ^ p
    turn = ap (λ (k : ℕ). k ^ p) (omega (arith, size))

    tie : (P y + P z) ^ p ≡ 2 ^ p * power_of p (P x) → P y ≡ P z
    tie = no_tie p q.some (grid_up (P x) (149 * (p - 1)) (P-grid f)) (le_trans (pow-le-pow_left (lit≤ tt) p) large) r.near

    same : P y ≡ P z
    same = elim (le_or_lt (P y) (P z)) [
      | inr h ↦ tie (le_antisymm (le_trans (le_of_eq (sym turn)) (n.below z r.f32 (omega (arith, size)))) (r.near.above (P y) (P-grid n.f32) h))
      | inl l ↦ elim (eq-or-lt_of_le l) [
        | inl e ↦ e
        | inr h ↦ tie (le_antisymm (r.near.below (P y) (P-grid n.f32) h) (le_trans (n.above z r.f32 (omega (arith, size))) (le_of_eq turn)))
      ]
    ]

plus : (x : Float) → 0 < P x → N x ≡ 0
plus x some = elim (one_sided x) [ inl z ↦ omega arith | inr z ↦ z ]

pub root_only : {x y : Float} → F32 x → 0 < P x → NearestRoot 2 x y → y ≡ root x
root_only {x} f some = only square f some (root_rooted x f (plus x some))

pub half_only : {x y : Float} → F32 x → 0 < P x → NearestRoot 2 x y → y ≡ root_power 2 x
half_only {x} f some = only square f some (power_rooted square x f (plus x some))

pub fourth_only : {x y : Float} → F32 x → 0 < P x → NearestRoot 4 x y → y ≡ root_power 4 x
fourth_only {x} f some = only fourth f some (power_rooted fourth x f (plus x some))

-- ---- in the terms of crate `ieee`
both : (w r S : ℕ) → (w + r) ^ 2 ≡ (r + w) * (r + w)
both w r S = square_is (w + r) ∙ ap (λ (x : ℕ). x * x) (add_comm w r)

root_of : (r S : ℕ) → GridRoot 2 S r → Root r S
root_of r S g = record {
  grid = g.grid;
  above = λ w o h. le_trans (g.above w o h) (le_of_eq (both w r S));
  below = λ w o h. le_trans (le_of_eq (sym (both w r S))) (g.below w o h);
}

pub root_nearest : Nearest root
unfolding One
root_nearest = record {
  f32 = λ x f n. (root_rooted x f n).f32;
  plus = λ x f n. (root_rooted x f n).plus;
  near = λ x f n. root_of (P (root x)) (P x * 2 ^ 149) (root_rooted x f n).near;
}
