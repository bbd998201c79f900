use mathlib.Core.Path.{◌≡◌, sym, subst}
use native.Mathlib.Nat.{mod-eq_of_lt}
use native.Mathlib.Omega.{arith}
use Prim.Native.Nat.{ℕ, ◌+◌, ◌%◌, ◌^◌, ◌≤◌, ◌<◌}
use Rattle.roots.specs.Whole.{Spanned}
use Rattle.roots.proofs.NearestWhole.{ranged_fourth}
use Rattle.roots.proofs.Rests.{fourth_range, between}
use Rattle.roots.proofs.bits.fourth_rest.Goals as goal

four : (e : ℕ) → (e + 3) % 4 < 4
four e = omega arith

-- n is a product of both
ranged : (n : ℕ) → 4294967296 ≤ n → n ≤ 68719472640 → (n % 18446744073709551616 ≡ n) × (2 ^ 32 ≤ n % 18446744073709551616) × (n % 18446744073709551616 < 2 ^ 36) × Spanned (n % 18446744073709551616)
ranged n l h =
    let s : n < 18446744073709551616 = omega arith in
    let e : n % 18446744073709551616 ≡ n = mod-eq_of_lt s in
    (e, omega (arith, e), omega (arith, e), subst Spanned (sym e) (ranged_fourth n (omega arith) (omega arith)))

pub returns : goal.returns
returns c =
    let r = fourth_range _ (four c.args.e) in
    let b = between c.requires.0 c.requires.1 r.0 r.1 in
    ranged _ (omega (arith, b.0)) (omega (arith, b.1))
