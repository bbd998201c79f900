-- j + 1 digits, moved to the 24th place.
use mathlib.Core.Path.{◌≡◌, sym, ap, ◌∙◌, subst}
use Prim.Native.Nat.{ℕ, suc, ◌+◌, ◌*◌, ◌%◌, ◌^◌, ◌≤◌, ◌<◌}
use native.Mathlib.Nat.{mul_assoc, mul-le-mul_right, mul-lt-mul_of_pos_right, mod-eq_of_lt, lt_of_not-le, not-le_of_lt, le_trans}
use native.Mathlib.Omega.{arith}
use lib.Pow.{pow-add, pow_pos, pow_mono}
use lib.Count.{count_leading_zeros}
use Rattle.std.proofs.lemmas.Nat.{leading_top}
use Rattle.roots.specs.Whole.{Normal}
use Rattle.roots.proofs.unpack.subnormal.Goals as goal

-- t has j + 1 digits
record Top (t : ℕ) : Type 0 where
  j : ℕ
  all : count_leading_zeros 64 t + suc j ≡ 64
  low : 2 ^ j ≤ t
  high : t < 2 ^ suc j
  few : j ≤ 22

top : (t : ℕ) → 0 < t → t < 2 ^ 23 → Top t
top t a b =
    let l = leading_top 64 t a (omega arith) in
    let few : l.0 < 23 = lt_of_not-le (λ (g : 23 ≤ l.0). not-le_of_lt b (le_trans (pow_mono g) l.2)) in
    record { j = l.0; all = l.1; low = l.2; high = l.3; few = omega arith }

moved : (t j s : ℕ) → s + j ≡ 23 → 2 ^ j ≤ t → t < 2 ^ suc j → Normal t (t * 2 ^ s % 18446744073709551616) j
moved t j s e l h =
    let low : 2 ^ 23 ≤ t * 2 ^ s = subst (λ (x : ℕ). x ≤ t * 2 ^ s) (sym (pow-add 2 j s) ∙ ap (λ (x : ℕ). 2 ^ x) (let f : j + s ≡ 23 = omega arith in f)) (mul-le-mul_right (2 ^ s) l) in
    let high : t * 2 ^ s < 2 ^ 24 =
    subst (λ (x : ℕ). t * 2 ^ s < x) (sym (pow-add 2 (suc j) s) ∙ ap (λ (x : ℕ). 2 ^ x) (let f : suc j + s ≡ 24 = omega arith in f)) (mul-lt-mul_of_pos_right h (pow_pos s)) in
    let fit : t * 2 ^ s < 18446744073709551616 = omega arith in
    let m : t * 2 ^ s % 18446744073709551616 ≡ t * 2 ^ s = mod-eq_of_lt fit in
    subst (λ (x : ℕ). Normal t x j) (sym m)
    (record {
      low = low;
      high = high;
      few = omega arith;
      is = sym (mul_assoc t (2 ^ s) (2 ^ j) ∙ ap (λ (x : ℕ). t * x) (sym (pow-add 2 s j) ∙ ap (λ (x : ℕ). 2 ^ x) e));
    })

pub overflow_sub-places : goal.overflow_sub-places
overflow_sub-places c = let h = top c.args.t c.requires.0 c.requires.1 in omega (arith, h.all, h.few)

pub returns : goal.returns
returns c =
    let h = top c.args.t c.requires.0 c.requires.1 in
    let e : h.j ≡ c.from.result = omega (arith, h.all, h.few, c.from.ensures) in
    subst (Normal c.args.t _) e (moved c.args.t h.j _ (omega (arith, h.all, h.few)) h.low h.high)
