-- `rnd n c` is the number of at most 24 digits that is nearest to n / c: none on the grid is nearer, and what the halves on both sides pin down is it. Assumes nothing.
use mathlib.Core.Path.{◌≡◌, refl, sym, ap, ◌∙◌, subst}
use mathlib.Core.Logic.{inl, inr}
use Prim.Native.Nat.{ℕ, suc, ◌+◌, ◌-◌, ◌*◌, ◌/◌, ◌%◌, ◌^◌, ◌≤◌, ◌<◌, compare, Ordering}
use native.Mathlib.Nat.{le_trans, le_of_eq, le_of_lt, le_antisymm, le_of_suc-le-suc, lt_of_lt_of_le, lt_of_le_of_lt, lt_of_not-le, not-le_of_lt, eq-or-lt_of_le, eq-zero-or-pos}
use native.Mathlib.Nat.{mul_assoc, mul-pos, mul-le-mul_right, mul-lt-mul_of_pos_right, le_of_mul-le-mul_right, lt_of_mul-lt-mul_right}
use native.Mathlib.Nat.{le-div_iff_mul-le, div-lt_iff_lt-mul, pow-succ'}
use native.Mathlib.Omega.{arith}
use lib.Pow.{pow-add, pow_pos, pow_mono, shl_lt}
use native.Mathlib.Numerals.{add-one}
use lib.Ieee.{size, nearest}
use lib.Ieee.Digits.{size-lt, size-le}
use lib.Ieee.Nearest.{closest, closest_same}
use lib.Ieee.Order.{drop, kept}
use Rattle.ieee.proofs.Grid.{le_or_lt, Cmp, cmp, OnGrid, rnd, rnd_ge, rnd_grid, near_unit, full, kept_ge, grid_at, grid_pow}

-- ---- multiples of u
pub record Multiple (v u : ℕ) : Type 0 where
  pub times : ℕ
  pub is : v ≡ times * u

-- two that differ, differ by u
gap : {a b u : ℕ} → Multiple a u → Multiple b u → a < b → a + u ≤ b
gap {a} {b} {u} x y h =
    let l : suc x.times ≤ y.times = lt_of_mul-lt-mul_right u (lt_of_le_of_lt (le_of_eq (sym x.is)) (lt_of_lt_of_le h (le_of_eq y.is))) in
    let m : suc x.times * u ≤ y.times * u = mul-le-mul_right u l in
    omega (arith, m, x.is, y.is)

exponent : (j k : ℕ) → 2 ^ (23 + k) < 2 ^ (24 + j) → k ≤ j
exponent j k h = le_of_suc-le-suc (lt_of_not-le (λ (g : suc j ≤ k). not-le_of_lt h (pow_mono (more j k g))))
  where
    more : (j k : ℕ) → suc j ≤ k → 24 + j ≤ 23 + k
    more j k h = omega arith

-- a number of the grid from 2 ^ (23 + k) on
pub grid_multiple : (v k : ℕ) → OnGrid v → 2 ^ (23 + k) ≤ v → Multiple v (2 ^ k)
grid_multiple v k g h =
    let j = g.j in
    let l : k ≤ j = exponent j k (lt_of_le_of_lt h (lt_of_le_of_lt (le_of_eq g.is) (shl_lt 24 j g.small))) in
    record {
      times = g.q * 2 ^ (j - k);
      is = g.is ∙ ap (λ (x : ℕ). g.q * 2 ^ x) (sym (back j k l)) ∙ ap (λ (x : ℕ). g.q * x) (pow-add 2 (j - k) k) ∙ sym (mul_assoc g.q (2 ^ (j - k)) (2 ^ k));
    }
  where
    back : (a l : ℕ) → l ≤ a → a - l + l ≡ a
    back a l h = omega arith

whole : (n c : ℕ) → Multiple (rnd n c) (2 ^ drop 24 n c)
unfolding rnd
whole n c = record { times = kept 24 n c; is = refl }

pow_multiple : (k : ℕ) → Multiple (2 ^ (23 + k)) (2 ^ k)
pow_multiple k = record { times = 2 ^ 23; is = pow-add 2 23 k }

kept_full : (n c : ℕ) → 0 < drop 24 n c → 2 ^ (23 + drop 24 n c) ≤ rnd n c
unfolding rnd
kept_full n c K = le_trans (le_of_eq (pow-add 2 23 (drop 24 n c))) (mul-le-mul_right (2 ^ drop 24 n c) (kept_ge n c K))

-- ---- a number of the grid below the rounded one is no nearer
pub rnd_below : (n c v : ℕ) → 0 < c → OnGrid v → v < rnd n c → (v + rnd n c) * c ≤ 2 * n
rnd_below n c v C g h = elim (le_or_lt (rnd n c * c) n) [ inl l ↦ under l | inr l ↦ over l ]
  where
    under : rnd n c * c ≤ n → (v + rnd n c) * c ≤ 2 * n
    under l = let m : v * c ≤ rnd n c * c = mul-le-mul_right c (le_of_lt h) in omega arith

    apart : n < rnd n c * c → 0 < drop 24 n c → v + 2 ^ drop 24 n c ≤ rnd n c
    apart l K =
        let k = drop 24 n c in
        let s : 2 ^ (23 + k) < rnd n c = lt_of_mul-lt-mul_right c (lt_of_le_of_lt (full n c C K) l) in
        elim (le_or_lt (2 ^ (23 + k)) v) [
          | inl a ↦ gap (grid_multiple v k g a) (whole n c) h
          | inr a ↦ let b = gap (pow_multiple k) (whole n c) s in omega (arith, b)
        ]

    step : n < rnd n c * c → v + 2 ^ drop 24 n c ≤ rnd n c
    step l = elim (eq-zero-or-pos (drop 24 n c)) [ inl z ↦ subst (λ (k : ℕ). v + 2 ^ k ≤ rnd n c) (sym z) (omega arith) | inr K ↦ apart l K ]

    over : n < rnd n c * c → (v + rnd n c) * c ≤ 2 * n
    over l =
        let m : (v + 2 ^ drop 24 n c) * c ≤ rnd n c * c = mul-le-mul_right c (step l) in
        let i = (near_unit n c C).above in
        omega (arith, m, i)

-- nor is one above it
pub rnd_above : (n c v : ℕ) → 0 < c → OnGrid v → rnd n c < v → 2 * n ≤ (v + rnd n c) * c
rnd_above n c v C g h = elim (le_or_lt n (rnd n c * c)) [ inl l ↦ over l | inr l ↦ under l ]
  where
    over : n ≤ rnd n c * c → 2 * n ≤ (v + rnd n c) * c
    over l = let m : rnd n c * c ≤ v * c = mul-le-mul_right c (le_of_lt h) in omega arith

    step : rnd n c + 2 ^ drop 24 n c ≤ v
    step =
        let k = drop 24 n c in
        elim (eq-zero-or-pos k) [
          | inl z ↦ subst (λ (i : ℕ). rnd n c + 2 ^ i ≤ v) (sym z) (omega arith)
          | inr K ↦ gap (whole n c) (grid_multiple v k g (le_trans (kept_full n c K) (le_of_lt h))) h
        ]

    under : rnd n c * c < n → 2 * n ≤ (v + rnd n c) * c
    under l =
        let m : (rnd n c + 2 ^ drop 24 n c) * c ≤ v * c = mul-le-mul_right c step in
        let i = (near_unit n c C).below in
        omega (arith, m, i)

-- ---- what lies less than half a step from q * 2 ^ t, and not below 2 ^ (23 + t), rounds to it
pub rnd_is : (n c q t : ℕ) → 0 < c → 2 ^ 23 ≤ q → q ≤ 2 ^ 24 → 2 ^ (23 + t) * c ≤ n → 2 * (q * 2 ^ t) * c < 2 * n + 2 ^ t * c → 2 * n < (2 * (q * 2 ^ t) + 2 ^ t) * c
    → rnd n c ≡ q * 2 ^ t
rnd_is n c q t C a b l lo hi = elim (le_or_lt (rnd n c) (q * 2 ^ t)) [ inl x ↦ elim (eq-or-lt_of_le x) [ inl e ↦ e | inr y ↦ absurd (less y) ] | inr y ↦ absurd (more y) ]
  where
    on : Multiple (rnd n c) (2 ^ t)
    on = grid_multiple (rnd n c) t (rnd_grid n c) (rnd_ge (grid_pow (23 + t)) n c C l)

    at : Multiple (q * 2 ^ t) (2 ^ t)
    at = record { times = q; is = refl }

    less : rnd n c < q * 2 ^ t → ⊥
    less y =
        let m : (rnd n c + 2 ^ t) * c ≤ q * 2 ^ t * c = mul-le-mul_right c (gap on at y) in
        let i = rnd_above n c (q * 2 ^ t) C (grid_at q t b) y in
        omega (arith, m, i)

    more : q * 2 ^ t < rnd n c → ⊥
    more y =
        let m : (q * 2 ^ t + 2 ^ t) * c ≤ rnd n c * c = mul-le-mul_right c (gap at on y) in
        let i = rnd_below n c (q * 2 ^ t) C (grid_at q t b) y in
        omega (arith, m, i)

-- ---- n / c is a / b times 2 ^ j and a / b has 24 digits: then these are kept
pub size_at : (n k : ℕ) → 2 ^ (23 + k) ≤ n → n < 2 ^ (24 + k) → size n ≡ 24 + k
size_at n k l h =
    let m : 23 + k < size n = lt_of_not-le (λ (g : size n ≤ 23 + k). not-le_of_lt (lt_of_lt_of_le (size-lt n) (pow_mono g)) l) in
    le_antisymm (size-le n (24 + k) h) (omega arith)

pub rnd_closest : (n c a b j : ℕ) → 0 < c → 0 < b → n * b ≡ a * 2 ^ j * c → 8388608 * b ≤ a → a < 16777216 * b → rnd n c ≡ closest a b * 2 ^ j
unfolding rnd
rnd_closest n c a b j C B e l h =
    let lo : 2 ^ (23 + j) * c ≤ n = le_of_mul-le-mul_right (subst (λ (x : ℕ). x * c * b ≤ n * b) (sym (pow-add 2 23 j)) (low (2 ^ j) e (mul-le-mul_right (2 ^ j * c) l))) B in
    let up : n * b < 16777216 * 2 ^ j * c * b = high (2 ^ j) e (mul-lt-mul_of_pos_right h (mul-pos (pow_pos j) C)) in
    let hi : n < 2 ^ (24 + j) * c = lt_of_mul-lt-mul_right b (subst (λ (x : ℕ). n * b < x * c * b) (sym (pow-add 2 24 j)) up) in
    let z : size (n / c) ≡ 24 + j = size_at (n / c) j ((le-div_iff_mul-le C).1 lo) ((div-lt_iff_lt-mul C).1 hi) in
    let d : drop 24 n c ≡ j = ap (λ (x : ℕ). x - 24) z ∙ rest j in
    ap (λ (k : ℕ). closest n (c * 2 ^ k) * 2 ^ k) d ∙ ap (λ (x : ℕ). x * 2 ^ j) (closest_same n (c * 2 ^ j) a b (mul-pos C (pow_pos j)) B (e ∙ turn (2 ^ j)))
  where
    low : (p : ℕ) → n * b ≡ a * p * c → 8388608 * b * (p * c) ≤ a * (p * c) → 8388608 * p * c * b ≤ n * b
    low p e h = omega arith

    high : (p : ℕ) → n * b ≡ a * p * c → a * (p * c) < 16777216 * b * (p * c) → n * b < 16777216 * p * c * b
    high p e h = omega arith

    turn : (p : ℕ) → a * p * c ≡ a * (c * p)
    turn p = omega arith

    rest : (j : ℕ) → 24 + j - 24 ≡ j
    rest j = omega arith

-- ---- between two neighbours of a grid of 25 digits or more all rounds alike
pub record InCell (w j n c : ℕ) : Type 0 where
  pub above : w * 2 ^ j * c < n
  pub below : n < (w + 1) * 2 ^ j * c

no_step : (w j n c n' c' : ℕ) → 0 < c → 0 < c' → 16777216 ≤ w → InCell w j n c → InCell w j n' c' → rnd n c < rnd n' c' → ⊥
no_step w j n c n' c' C C' l i i' h =
    let a = rnd n c in
    let b = rnd n' c' in
    let m : 2 ^ (24 + j) * c ≤ n = le_of_lt (lt_of_le_of_lt (mul-le-mul_right c (le_trans (le_of_eq (pow-add 2 24 j)) (mul-le-mul_right (2 ^ j) l))) i.above) in
    let up : 2 ^ (23 + suc j) ≤ a = subst (λ (k : ℕ). 2 ^ k ≤ a) (next j) (rnd_ge (grid_pow (24 + j)) n c C m) in
    let x = grid_multiple a (suc j) (rnd_grid n c) up in
    let y = grid_multiple b (suc j) (rnd_grid n' c') (le_trans up (le_of_lt h)) in
    let t = x.times + y.times in
    let s : 2 ^ suc j ≡ 2 * 2 ^ j = pow-succ' 2 j in
    let e : a + b ≡ 2 * t * 2 ^ j = both x.times y.times (2 ^ j) (x.is ∙ ap (λ (z : ℕ). x.times * z) s) (y.is ∙ ap (λ (z : ℕ). y.times * z) s) in
    let p : 2 * n ≤ 2 * t * 2 ^ j * c = le_trans (rnd_above n c b C (rnd_grid n' c') h) (le_of_eq (ap (λ (z : ℕ). z * c) (swap a b ∙ e))) in
    let q : 2 * t * 2 ^ j * c' ≤ 2 * n' = le_trans (le_of_eq (ap (λ (z : ℕ). z * c') (sym e))) (rnd_below n' c' a C' (rnd_grid n c) h) in
    let lo : w < t = lt_of_mul-lt-mul_right (2 ^ j) (lt_of_mul-lt-mul_right c (first t (2 ^ j) i.above p)) in
    let hi : t < w + 1 = lt_of_mul-lt-mul_right (2 ^ j) (lt_of_mul-lt-mul_right c' (last t (2 ^ j) i'.below q)) in
    omega arith
  where
    next : (j : ℕ) → 24 + j ≡ 23 + suc j
    next j = omega arith

    both : (x y p : ℕ) {a b : ℕ} → a ≡ x * (2 * p) → b ≡ y * (2 * p) → a + b ≡ 2 * (x + y) * p
    both x y p e f = omega arith

    swap : (a b : ℕ) → b + a ≡ a + b
    swap a b = omega arith

    first : (t p : ℕ) → w * p * c < n → 2 * n ≤ 2 * t * p * c → w * p * c < t * p * c
    first t p h k = omega arith

    last : (t p : ℕ) → n' < (w + 1) * p * c' → 2 * t * p * c' ≤ 2 * n' → t * p * c' < (w + 1) * p * c'
    last t p h k = omega arith

pub same_cell : (w j n c n' c' : ℕ) → 0 < c → 0 < c' → 16777216 ≤ w → InCell w j n c → InCell w j n' c' → rnd n c ≡ rnd n' c'
same_cell w j n c n' c' C C' l i i' = le_antisymm (one n' c' n c C' C i' i) (one n c n' c' C C' i i')
  where
    one : (n c n' c' : ℕ) → 0 < c → 0 < c' → InCell w j n c → InCell w j n' c' → rnd n' c' ≤ rnd n c
    one n c n' c' C C' i i' = elim (le_or_lt (rnd n' c') (rnd n c)) [ inl h ↦ h | inr h ↦ absurd (no_step w j n c n' c' C C' l i i' h) ]

-- ---- the whole number nearest to n / d, by how twice the rest compares with d
pub closest_down : (n d : ℕ) → n % d * 2 < d → closest n d ≡ n / d
closest_down n d h = go (compare (n % d * 2) d) (cmp (n % d * 2) d)
  where
    go : (o : Ordering) → Cmp o (n % d * 2) d → nearest (n / d) o ≡ n / d
    go Ordering.lt c = refl
    go Ordering.eq c = absurd (omega arith)
    go Ordering.gt c = absurd (omega arith)

pub closest_up : (n d : ℕ) → d < n % d * 2 → closest n d ≡ n / d + 1
closest_up n d h = go (compare (n % d * 2) d) (cmp (n % d * 2) d)
  where
    go : (o : Ordering) → Cmp o (n % d * 2) d → nearest (n / d) o ≡ n / d + 1
    go Ordering.lt c = absurd (omega arith)
    go Ordering.eq c = absurd (omega arith)
    go Ordering.gt c = sym (add-one (n / d))

pub closest_even : (n d : ℕ) → n % d * 2 ≡ d → closest n d ≡ n / d + n / d % 2
closest_even n d h = go (compare (n % d * 2) d) (cmp (n % d * 2) d)
  where
    go : (o : Ordering) → Cmp o (n % d * 2) d → nearest (n / d) o ≡ n / d + n / d % 2
    go Ordering.lt c = absurd (omega arith)
    go Ordering.eq c = refl
    go Ordering.gt c = absurd (omega arith)
