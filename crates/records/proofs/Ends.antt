-- Laws of `end_if`. Assumes nothing.
use Prim.Native.Nat.{ℕ}
use mathlib.Core.Path.{◌≡◌, refl}
use mathlib.Core.Bool.{Bool, true, false}
use native.Mathlib.Omega.{arith}
use Rattle.records.specs.LayoutAnswers.{end_if}
use Rattle.std.proofs.Common.{Some, None}

pub broken_if : (b : Bool) (x : ℕ) → b ≡ false → None ≡ end_if b x
unfolding end_if
broken_if b x e = rw e

pub at_if : (b : Bool) (x y : ℕ) → b ≡ true → y ≡ x → Some y ≡ end_if b x
unfolding end_if
at_if b x y e q = rw (e, q)

pub end_whole : (b : Bool) (x y : ℕ) → end_if b x ≡ Some y → b ≡ true
unfolding end_if
end_whole true x y e = refl
end_whole false x y e = absurd (let z : ◌≡◌ {A = ℕ} 0 1 = cc in omega arith)

pub end_at : (b : Bool) (x y : ℕ) → end_if b x ≡ Some y → x ≡ y
unfolding end_if
end_at true x y e = cc
end_at false x y e = absurd (let z : ◌≡◌ {A = ℕ} 0 1 = cc in omega arith)

pub end_broken : (b : Bool) (x : ℕ) → end_if b x ≡ None → b ≡ false
unfolding end_if
end_broken true x e = absurd (let z : ◌≡◌ {A = ℕ} 0 1 = cc in omega arith)
end_broken false x e = refl

-- what the goals of a function that answers an end ask
pub ruleset ends = (broken_if, at_if, end_whole, end_at, end_broken)
