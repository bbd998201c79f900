-- Rounding as a function on natural numbers: `rnd n c` is n / c rounded to a number of 24 binary digits, in units of binary32's smallest value. Floats are not mentioned
-- but for the library's `kept` and `drop`. Monotone, exact on the grid, within half a unit in the last place. Assumes nothing.
use mathlib.Core.Path.{◌≡◌, refl, sym, ap, ◌∙◌, subst}
use mathlib.Core.Logic.{◌⊎◌, inl, inr}
use Prim.Native.Nat.{ℕ, suc, ◌+◌, ◌-◌, ◌*◌, ◌/◌, ◌%◌, ◌^◌, ◌≤◌, ◌<◌, zero-le, compare, Ordering}
use native.Mathlib.Nat.{le_refl, le_trans, le_of_eq, le_of_lt, le_antisymm, lt_of_le_of_lt, eq-or-lt_of_le, eq-zero-or-pos, mul_comm, mul_assoc, mul_left_comm, mul-one, mul-pos}
use native.Mathlib.Nat.{mul-le-mul_right, mul-le-mul_left, le_of_mul-le-mul_right, eq_of_mul-eq-mul_right, sub-add_cancel}
use native.Mathlib.Nat.{le-div_iff_mul-le, div-lt_iff_lt-mul, div-div-eq-div-mul, div-add-mod', mod-lt}
use native.Mathlib.Omega.{arith}
use mathlib.Core.Bool.{Bool, true, false, not}
use lib.Dec.{T, is_le, compare_is_eq, eqb, leb, leb→le, nleb→lt, eqb→eq, eqb_refl, lit<}
use lib.Arith.{lt_of_le-ne}
use lib.Pow.{pow-add, pow_pos, pow_mono, shl_lt}
use lib.Ieee.{size, nearest}
use lib.Ieee.Digits.{size-lt, size-le, size_reaches}
use lib.Ieee.Fits.{kept-lt, nearest-le}
use lib.Ieee.Nearest.{closest, closest_mono, nearest-ge, div_mono}
use lib.Ieee.Order.{drop, kept}
pub use Rattle.ieee.specs.Nearest.{OnGrid}
pub use Rattle.ieee.specs.Bounds.{DifferBy}

pub le_or_lt : (a b : ℕ) → (a ≤ b) ⊎ (b < a)
le_or_lt a b = go (leb a b) (leb→le a b) (nleb→lt a b)
  where
    go : (t : Bool) → (T t → a ≤ b) → (T (not t) → b < a) → (a ≤ b) ⊎ (b < a)
    go true h k = inl (h tt)
    go false h k = inr (k tt)

-- ---- what `compare` says
abbrev pub Cmp : Ordering → ℕ → ℕ → Type 0
Cmp Ordering.lt a b = a < b
Cmp Ordering.eq a b = a ≡ b
Cmp Ordering.gt a b = b < a

pub cmp : (a b : ℕ) → Cmp (compare a b) a b
cmp a b = go (compare a b) (leb→le a b) (nleb→lt a b) (eqb→eq a b) (λ (e : a ≡ b). subst (λ (x : ℕ). T (eqb a x)) e (eqb_refl a))
  where
    go : (o : Ordering) → (T (is_le o) → a ≤ b) → (T (not (is_le o)) → b < a) → (T (compare_is_eq o) → a ≡ b) → (a ≡ b → T (compare_is_eq o)) → Cmp o a b
    go Ordering.lt h k e n = lt_of_le-ne (h tt) n
    go Ordering.eq h k e n = e tt
    go Ordering.gt h k e n = k tt

-- ---- the nearest whole number is within a half
near_by : (w r u : ℕ) (o : Ordering) → Cmp o (r * 2) u → r < u → DifferBy (2 * (nearest w o * u)) (2 * (w * u + r)) u
near_by w r u Ordering.lt c l = omega arith
near_by w r u Ordering.eq c l =
    let t : w % 2 * u ≤ 1 * u = mul-le-mul_right u (bit w) in
    omega arith
  where
    bit : (x : ℕ) → x % 2 ≤ 1
    bit x = omega arith
near_by w r u Ordering.gt c l = omega arith

pub closest_near : (n u : ℕ) → 0 < u → DifferBy (2 * (closest n u * u)) (2 * n) u
closest_near n u U = subst (λ (x : ℕ). DifferBy (2 * (closest n u * u)) (2 * x) u) (div-add-mod' n u)
    (near_by (n / u) (n % u) u (compare (n % u * 2) u) (cmp (n % u * 2) u) (mod-lt n U))

-- ---- the library's `grid_mono`, which it keeps to itself, with the lemmas under it, at 24 digits
same_drop : (k a b c d : ℕ) → 0 < b → 0 < d → a * d ≤ c * b → closest a (b * 2 ^ k) * 2 ^ k ≤ closest c (d * 2 ^ k) * 2 ^ k
same_drop k a b c d B D h =
    mul-le-mul_right (2 ^ k)
    (closest_mono a (b * 2 ^ k) c (d * 2 ^ k) (mul-pos B (pow_pos k)) (mul-pos D (pow_pos k))
    (le_trans (le_of_eq (sym (mul_assoc a d (2 ^ k)))) (le_trans (mul-le-mul_right (2 ^ k) h) (le_of_eq (mul_assoc c b (2 ^ k))))))

pub kept_le : (n den : ℕ) → kept 24 n den ≤ 2 ^ 24
kept_le n den =
    let k = drop 24 n den in
    let u = den * 2 ^ k in
    le_trans (nearest-le (n / u) (compare (n % u * 2) u)) (subst (λ (x : ℕ). x < 2 ^ 24) (div-div-eq-div-mul n den (2 ^ k)) (kept-lt 24 (n / den)))

all_in_use : (z : ℕ) → 0 < z - 24 → 23 + (z - 24) < z
all_in_use z h = omega arith

-- where digits are dropped, the fraction is 2 ^ 23 times the dropped unit or more
pub full : (n c : ℕ) → 0 < c → 0 < drop 24 n c → 2 ^ (23 + drop 24 n c) * c ≤ n
full n c C K = (le-div_iff_mul-le C).0 (size_reaches (n / c) (23 + drop 24 n c) (all_in_use (size (n / c)) K))

pub kept_ge : (n den : ℕ) → 0 < drop 24 n den → 2 ^ 23 ≤ kept 24 n den
kept_ge n den K =
    let k = drop 24 n den in
    let u = den * 2 ^ k in
    let w = n / den in
    let a : 2 ^ 23 * 2 ^ k ≤ w = le_trans (le_of_eq (sym (pow-add 2 23 k))) (size_reaches w (23 + k) (all_in_use (size w) K)) in
    le_trans (subst (λ (x : ℕ). 2 ^ 23 ≤ x) (div-div-eq-div-mul n den (2 ^ k)) ((le-div_iff_mul-le (pow_pos k)).1 a)) (nearest-ge (n / u) (compare (n % u * 2) u))

fewer : (x y : ℕ) → x ≤ y → x - 24 ≤ y - 24
fewer x y h = omega arith

room : (j k : ℕ) → j < k → 24 + j ≤ 23 + k
room j k h = omega arith

pub size_mono : (a b : ℕ) → a ≤ b → size a ≤ size b
size_mono a b h = size-le a (size b) (lt_of_le_of_lt h (size-lt b))

-- ---- n / c rounded
unfoldable pub rnd : ℕ → ℕ → ℕ
rnd n c = kept 24 n c * 2 ^ drop 24 n c

pub rnd_mono : (a b c d : ℕ) → 0 < b → 0 < d → a * d ≤ c * b → rnd a b ≤ rnd c d
unfolding rnd
rnd_mono a b c d B D h =
    let j = drop 24 a b in
    let k = drop 24 c d in
    elim (eq-or-lt_of_le (fewer (size (a / b)) (size (c / d)) (size_mono (a / b) (c / d) (div_mono a b c d B D h)))) [
      | inl e ↦ subst (λ (x : ℕ). closest a (b * 2 ^ x) * 2 ^ x ≤ kept 24 c d * 2 ^ k) (sym e) (same_drop k a b c d B D h)
      | inr l ↦
          le_trans (mul-le-mul_right (2 ^ j) (kept_le a b))
          (le_trans (le_of_eq (sym (pow-add 2 24 j)))
          (le_trans (pow_mono (room j k l))
          (le_trans (le_of_eq (pow-add 2 23 k)) (mul-le-mul_right (2 ^ k) (kept_ge c d (lt_of_le_of_lt zero-le l))))))
    ]

-- `rnd` sees only the value of its fraction
pub rnd_same : (a b c d : ℕ) → 0 < b → 0 < d → a * d ≡ c * b → rnd a b ≡ rnd c d
rnd_same a b c d B D e = le_antisymm (rnd_mono a b c d B D (le_of_eq e)) (rnd_mono c d a b D B (le_of_eq (sym e)))

-- ---- the error
-- with the unit u = c * 2 ^ k that was kept, for each k that serves as a bound on what was dropped
pub near_unit : (n c : ℕ) → 0 < c → DifferBy (2 * (rnd n c * c)) (2 * n) (c * 2 ^ drop 24 n c)
unfolding rnd
near_unit n c C =
    let k = drop 24 n c in
    let q = kept 24 n c in
    let i : DifferBy (2 * (q * (c * 2 ^ k))) (2 * n) (c * 2 ^ k) = closest_near n (c * 2 ^ k) (mul-pos C (pow_pos k)) in
    let e : q * (c * 2 ^ k) ≡ q * 2 ^ k * c = simp (mul_assoc, mul_comm, mul_left_comm) in
    subst (λ (x : ℕ). DifferBy (2 * x) (2 * n) (c * 2 ^ k)) e i

dropped : (z j : ℕ) → z ≤ 24 + j → z - 24 ≤ j
dropped z j h = omega arith

-- half a unit in the last place, in absolute terms: below 2 ^ (24 + j) the error is 2 ^ j / 2 at most
pub rnd_ulp : (n c j : ℕ) → 0 < c → n < 2 ^ (24 + j) * c → DifferBy (2 * (rnd n c * c)) (2 * n) (c * 2 ^ j)
rnd_ulp n c j C h =
    let i = near_unit n c C in
    let m : c * 2 ^ drop 24 n c ≤ c * 2 ^ j = mul-le-mul_left c (pow_mono (dropped (size (n / c)) j (size-le (n / c) (24 + j) ((div-lt_iff_lt-mul C).1 h)))) in
    record { above = le_trans i.above (omega arith); below = le_trans i.below (omega arith) }

-- half a unit, or one part in 2 ^ 24
pub rnd_either : (n c : ℕ) → 0 < c → DifferBy (2 * (rnd n c * c)) (2 * n) c ⊎ DifferBy (16777216 * (rnd n c * c)) (16777216 * n) n
rnd_either n c C = elim (eq-zero-or-pos (drop 24 n c)) [ inl z ↦ inl (few z) | inr p ↦ inr (many p) ]
  where
    few : drop 24 n c ≡ 0 → DifferBy (2 * (rnd n c * c)) (2 * n) c
    few z =
        let i : DifferBy (2 * (rnd n c * c)) (2 * n) (c * 2 ^ 0) = subst (λ (x : ℕ). DifferBy (2 * (rnd n c * c)) (2 * n) (c * 2 ^ x)) z (near_unit n c C) in
        record { above = le_trans i.above (omega arith); below = le_trans i.below (omega arith) }

    many : 0 < drop 24 n c → DifferBy (16777216 * (rnd n c * c)) (16777216 * n) n
    many p =
        let i = near_unit n c C in
        let k = drop 24 n c in
        let f : 8388608 * (c * 2 ^ k) ≤ n = le_trans (le_of_eq
        (ap (λ (x : ℕ). 8388608 * x) (mul_comm c (2 ^ k)) ∙ sym (mul_assoc 8388608 (2 ^ k) c) ∙ ap (λ (x : ℕ). x * c) (sym (pow-add 2 23 k)))) (full n c C p) in
        omega (arith, i)

-- the sum of the two
pub rnd_near : (n c : ℕ) → 0 < c → DifferBy (16777216 * (rnd n c * c)) (16777216 * n) (n + 8388608 * c)
rnd_near n c C = elim (rnd_either n c C) [ inl i ↦ omega (arith, i) | inr i ↦ omega (arith, i) ]

-- ---- the numbers of at most 24 digits: they round to themselves, and every result is one
cancel : (x r t : ℕ) → 0 < t → DifferBy (2 * (x * t)) (2 * (r * t)) t → x ≡ r
cancel x r t t0 i = le_antisymm (half x r (le_of_mul-le-mul_right (up x r i.above) t0)) (half r x (le_of_mul-le-mul_right (up r x i.below) t0))
  where
    up : (a b : ℕ) → 2 * (a * t) ≤ 2 * (b * t) + t → 2 * a * t ≤ (2 * b + 1) * t
    up a b h = omega arith

    half : (a b : ℕ) → 2 * a ≤ 2 * b + 1 → a ≤ b
    half a b h = omega arith

pub rnd_exact : {w : ℕ} → OnGrid w → (c : ℕ) → 0 < c → rnd (w * c) c ≡ w
unfolding rnd
rnd_exact {w} g c C =
    let q = g.q in
    let j = g.j in
    let k = drop 24 (w * c) c in
    let e1 : w * c / c ≡ q * 2 ^ j = native.Mathlib.Nat.mul-div_cancel w C ∙ g.is in
    let k-le : k ≤ j = dropped (size (w * c / c)) j (size-le (w * c / c) (24 + j) (subst (λ (x : ℕ). x < 2 ^ (24 + j)) (sym e1) (shl_lt 24 j g.small))) in
    let r = q * 2 ^ (j - k) in
    let e3 : r * 2 ^ k ≡ w = mul_assoc q (2 ^ (j - k)) (2 ^ k) ∙ ap (λ (x : ℕ). q * x) (sym (pow-add 2 (j - k) k) ∙ ap (λ (x : ℕ). 2 ^ x) (back j k k-le)) ∙ sym g.is in
    let x = kept 24 (w * c) c in
    let i : DifferBy (2 * (x * 2 ^ k * c)) (2 * (w * c)) (c * 2 ^ k) = near_unit (w * c) c C in
    let i' : DifferBy (2 * (x * (2 ^ k * c))) (2 * (r * (2 ^ k * c))) (2 ^ k * c) =
    let e : w * c ≡ r * (2 ^ k * c) = ap (λ (z : ℕ). z * c) (sym e3) ∙ mul_assoc r (2 ^ k) c in
    omega (arith, i, e) in
    ap (λ (z : ℕ). z * 2 ^ k) (cancel x r (2 ^ k * c) (mul-pos (pow_pos k) C) i') ∙ e3
  where
    back : (a l : ℕ) → l ≤ a → a - l + l ≡ a
    back a l h = omega arith

twice_pow : (k : ℕ) → 2 ^ 24 * 2 ^ k ≡ 2 ^ 23 * 2 ^ suc k
twice_pow k = sym (pow-add 2 24 k) ∙ ap (λ (x : ℕ). 2 ^ x) (e k) ∙ pow-add 2 23 (suc k)
  where
    e : (k : ℕ) → 24 + k ≡ 23 + suc k
    e k = omega arith

pub grid_at : (q j : ℕ) → q ≤ 16777216 → OnGrid (q * 2 ^ j)
grid_at q j h = elim (eq-or-lt_of_le h) [
  | inl e ↦ record { q = 2 ^ 23; j = suc j; small = lit< tt; is = ap (λ (x : ℕ). x * 2 ^ j) e ∙ twice_pow j }
  | inr l ↦ record { q = q; j = j; small = l; is = refl }
]

pub rnd_grid : (n c : ℕ) → OnGrid (rnd n c)
unfolding rnd
rnd_grid n c = grid_at (kept 24 n c) (drop 24 n c) (kept_le n c)

-- a bound that is on the grid goes through the rounding
pub rnd_le : {w : ℕ} → OnGrid w → (n c : ℕ) → 0 < c → n ≤ w * c → rnd n c ≤ w
rnd_le {w} g n c C h = le_trans (rnd_mono n c (w * c) c C C (mul-le-mul_right c h)) (le_of_eq (rnd_exact g c C))

pub rnd_ge : {w : ℕ} → OnGrid w → (n c : ℕ) → 0 < c → w * c ≤ n → w ≤ rnd n c
rnd_ge {w} g n c C h = le_trans (le_of_eq (sym (rnd_exact g c C))) (rnd_mono (w * c) c n c C C (mul-le-mul_right c h))

pub grid_pow : (k : ℕ) → OnGrid (2 ^ k)
grid_pow k = record { q = 1; j = k; small = lit< tt; is = sym (native.Mathlib.Nat.one-mul (2 ^ k)) }

pub grid_zero : OnGrid 0
grid_zero = record { q = 0; j = 0; small = lit< tt; is = refl }

pub grid_small : (q : ℕ) → q < 16777216 → OnGrid q
grid_small q h = record { q = q; j = 0; small = h; is = omega arith }

-- a power of two, put to a number or taken from it, leaves it on the grid
pub grid_up : (w k : ℕ) → OnGrid w → OnGrid (w * 2 ^ k)
grid_up w k g =
    let e : w * 2 ^ k ≡ g.q * 2 ^ (g.j + k) = ap (λ (x : ℕ). x * 2 ^ k) g.is ∙ mul_assoc g.q (2 ^ g.j) (2 ^ k) ∙ ap (λ (x : ℕ). g.q * x) (sym (pow-add 2 g.j k)) in
    record { q = g.q; j = g.j + k; small = g.small; is = e }

pub grid_down : (w k : ℕ) → OnGrid (w * 2 ^ k) → OnGrid w
grid_down w k g = elim (le_or_lt k g.j) [ inl l ↦ many l | inr l ↦ few (le_of_lt l) ]
  where
    -- a * 2 ^ j, by a power 2 ^ i that is in it
    part : (a : ℕ) {i j : ℕ} → i ≤ j → a * 2 ^ j ≡ a * 2 ^ (j - i) * 2 ^ i
    part a {i} {j} l = ap (λ (x : ℕ). a * 2 ^ x) (sym (sub-add_cancel l)) ∙ ap (λ (x : ℕ). a * x) (pow-add 2 (j - i) i) ∙ sym (mul_assoc a (2 ^ (j - i)) (2 ^ i))

    many : k ≤ g.j → OnGrid w
    many l = record { q = g.q; j = g.j - k; small = g.small; is = eq_of_mul-eq-mul_right (2 ^ k) (pow_pos k) w (g.q * 2 ^ (g.j - k)) (g.is ∙ part g.q l) }

    few : g.j ≤ k → OnGrid w
    few l =
        let e : w * 2 ^ (k - g.j) ≡ g.q = eq_of_mul-eq-mul_right (2 ^ g.j) (pow_pos g.j) (w * 2 ^ (k - g.j)) g.q (sym (part w l) ∙ g.is) in
        grid_small w (lt_of_le_of_lt (le_trans (le_of_eq (sym (mul-one w))) (le_trans (mul-le-mul_left w (pow_pos (k - g.j))) (le_of_eq e))) g.small)

pub rnd_zero : (c : ℕ) → 0 < c → rnd 0 c ≡ 0
rnd_zero c C = subst (λ (x : ℕ). rnd x c ≡ 0) (native.Mathlib.Nat.zero-mul c) (rnd_exact grid_zero c C)

-- a sum of two floats has no denominator: it is exact, or one part in 2 ^ 24 off
pub rnd_whole : (n : ℕ) → DifferBy (16777216 * rnd n 1) (16777216 * n) n
rnd_whole n = elim (rnd_either n 1 (lit< tt)) [ inl i ↦ omega (arith, i) | inr i ↦ omega (arith, i) ]

-- ---- a number of the grid from 2 ^ 23 on has all 24 digits
pub record Full (r : ℕ) : Type 0 where
  pub q : ℕ
  pub j : ℕ
  pub low : 8388608 ≤ q
  pub high : q < 16777216
  pub is : r ≡ q * 2 ^ j

pub full_grid : (r : ℕ) → OnGrid r → 8388608 ≤ r → Full r
unfolding rnd
full_grid r g h =
    let w = kept 24 (r * 1) 1 in
    let i = drop 24 (r * 1) 1 in
    let e : w * 2 ^ i ≡ r = rnd_exact g 1 (lit< tt) in
    let l : 8388608 ≤ w = elim (eq-zero-or-pos i) [
      | inl z ↦ le_trans h (le_of_eq (sym e ∙ ap (λ (x : ℕ). w * 2 ^ x) z ∙ native.Mathlib.Nat.mul-one w))
      | inr p ↦ kept_ge
          (r * 1) 1 p
    ] in
    elim (eq-or-lt_of_le (kept_le (r * 1) 1)) [
      | inl a ↦ record { q = 8388608; j = suc i; low = le_refl 8388608; high = lit< tt; is = sym e ∙ ap (λ (x : ℕ). x * 2 ^ i) a ∙ twice_pow i }
      | inr a ↦ record { q = w; j = i; low = l; high = a; is = sym e }
    ]
