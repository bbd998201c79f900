-- The library's square root is `root`: it takes the root to more binary places, which leave it between the same two neighbours. Assumes nothing.
use mathlib.Core.Path.{◌≡◌, refl, sym, ap, ◌∙◌, subst}
use mathlib.Core.Logic.{inl, inr}
use mathlib.Core.Bool.{Bool, true, false, cond}
use Prim.Native.Nat.{ℕ, zero, suc, ◌+◌, ◌*◌, ◌/◌, ◌^◌, ◌≤◌, ◌<◌}
use native.Mathlib.Nat.{le_trans, le_of_eq, le_antisymm, lt_of_le_of_lt, lt_of_lt_of_le, lt_irrefl, mul_assoc, mul-div_cancel, mul-lt-mul_of_pos_right, pow-succ'}
use native.Mathlib.Omega.{arith}
use lib.IntN.{ℤ}
use lib.Dec.{T, eqb, eqb-suc-zero, lit<}
use lib.Pow.{pow_pos}
use lib.Ieee.{Float, nan, inf, fin, binary32, fits, up, down, size, root_below, root_twice, sqrt, round}
use lib.Ieee.Fits.{down_pos}
use lib.Ieee.Root.{whole_part}
use Rattle.ieee.specs.Units.{One, Top, F32, mag}
use Rattle.ieee.proofs.Grid.{rnd, rnd_same}
use Rattle.ieee.proofs.Closest.{same_cell}
use Rattle.ieee.proofs.Value.{rounded, shape}
use Rattle.ieee.proofs.Unique.{unique}
use Rattle.ieee.proofs.Exact.{zero_form, mag_pos}
use Rattle.roots.specs.Root.{root, root_units, power_of, floor_root}
use Rattle.roots.proofs.Floor.{Floor, floor, mul_pow, pow_order}
use Rattle.roots.proofs.Halfway.{halves, either, Exact, Between}
use Rattle.roots.proofs.Rooted.{sized, under}
use Rattle.roots.proofs.Squares.{square_is}
use Rattle.roots.proofs.Meaning.{square, power_large}

-- R is the whole part of the root of Q, which is N * K ^ 2, and w that of the root of N
module _ (N w Q R K : ℕ) (k : 0 < K) (q : Q ≡ N * K ^ 2) (f : Floor 2 N w) (g : Floor 2 Q R) (large : 2 ^ 24 ≤ w) where
  scaled : (a : ℕ) → (a * K) ^ 2 ≡ a ^ 2 * K ^ 2
  scaled a = mul_pow a K 2

  positive : 0 < K ^ 2
  positive = lt_of_lt_of_le (lit< tt) (native.Mathlib.Nat.one-le-pow 2 K k)

  -- w * K is at most R, and (w + 1) * K is above it
  low : w * K < R + 1
  low = pow_order 2 (lt_of_le_of_lt (le_trans (le_of_eq (scaled w)) (le_trans (native.Mathlib.Nat.mul-le-mul_right (K ^ 2) f.low) (le_of_eq (sym q)))) g.high)

  high : R < (w + 1) * K
  high = pow_order 2 (lt_of_le_of_lt g.low (lt_of_le_of_lt (le_of_eq q) (lt_of_lt_of_le (mul-lt-mul_of_pos_right f.high positive) (le_of_eq (sym (scaled (w + 1)))))))

  -- where w is the root of N, w * K is that of Q
  exact : Exact 2 N w → Exact 2 Q R × (R ≡ w * K)
  exact x =
      let a : (w * K) ^ 2 ≡ Q = scaled w ∙ ap (λ (y : ℕ). y * K ^ 2) x.is ∙ sym q in
      let up : R < w * K + 1 = pow_order 2 (lt_of_le_of_lt g.low (lt_of_le_of_lt (le_of_eq (sym a)) (more (w * K)))) in
      let e : R ≡ w * K = omega (arith, low, up) in
      elim (either 2 Q R g.low) [
        | inl y ↦ (y, e)
        | inr y ↦ absurd (lt_irrefl Q (lt_of_le_of_lt (le_of_eq (sym a ∙ ap (λ (z : ℕ). z ^ 2) (sym e))) y.less))
      ]
    where
      more : (b : ℕ) → b ^ 2 < (b + 1) ^ 2
      more b = rw (square_is b, square_is (b + 1)) (omega arith)

  -- and where it is not, both are between the same neighbours
  above : Between 2 N w → 2 * (w * K) < halves 2 Q R
  above x = elim (either 2 Q R g.low) [
    | inl y ↦
        let s : (w * K) ^ 2 < R ^ 2 = lt_of_le_of_lt (le_of_eq (scaled w)) (lt_of_lt_of_le (mul-lt-mul_of_pos_right x.less positive) (le_of_eq (sym q ∙ sym y.is))) in
        omega (arith, y.half, pow_order 2 s)
    | inr y ↦ omega (arith, y.half, low)
  ]

  below : halves 2 Q R < 2 * ((w + 1) * K)
  below = elim (either 2 Q R g.low) [ inl y ↦ omega (arith, y.half, high) | inr y ↦ omega (arith, y.half, high) ]

  pub finer : rnd (halves 2 Q R) (2 * K) ≡ rnd (halves 2 N w) 2
  finer = elim (either 2 N w f.low) [
    | inl x ↦
        let y = exact x in
        let e : halves 2 Q R * 2 ≡ halves 2 N w * (2 * K) = rw (y.0.half, x.half, y.1) (turn w K) in
        rnd_same (halves 2 Q R) (2 * K) (halves 2 N w) 2 twice (lit< tt) e
    | inr x ↦
        same_cell w 0 (halves 2 Q R) (2 * K) (halves 2 N w) 2 twice (lit< tt) large
        (record { above = subst (λ (z : ℕ). z < halves 2 Q R) (side w K) (above x); below = subst (λ (z : ℕ). halves 2 Q R < z) (side (w + 1) K) below })
        (record { above = omega (arith, x.half); below = omega (arith, x.half) })
  ]
    where
      twice : 0 < 2 * K
      twice = omega arith

      turn : (w K : ℕ) → 2 * (w * K) * 2 ≡ 2 * w * (2 * K)
      turn w K = omega arith

      side : (w K : ℕ) → 2 * (w * K) ≡ w * 2 ^ 0 * (2 * K)
      side w K = omega arith

-- ---- the library's number, of a positive float
more_places : (n d m a c : ℕ) → 0 < d → m * a ≡ n * d → m * (a * (a * c)) / d ≡ n * a * c
more_places n d m a c D e = ap (λ (x : ℕ). x / d) (sym (mul_assoc m a (a * c)) ∙ ap (λ (x : ℕ). x * (a * c)) e ∙ turn n d a c) ∙ mul-div_cancel (n * a * c) D
  where
    turn : (n d a c : ℕ) → n * d * (a * c) ≡ n * a * c * d
    turn n d a c = omega arith

places : 2 ^ 4542 ≡ 2 ^ 149 * (2 ^ 149 * (2 ^ 2122) ^ 2)
places = refl

finest : (n Q : ℕ) → 0 < n → n < 2 ^ 277 → Q ≡ power_of 2 n * (2 ^ 2122) ^ 2 → round binary32 false (root_twice Q) (2 ^ 2272) ≡ root_units 2 n
unfolding root_twice One
finest n Q some less q =
    let N = power_of 2 n in
    let w = floor_root 2 N in
    let R = root_below (size Q) Q in
    let fit : N < (2 ^ 276) ^ 2 = lt_of_lt_of_le (mul-lt-mul_of_pos_right less (pow_pos 149)) square.high in
    let f : Floor 2 N w = floor 2 N (lit< tt) in
    let p = whole_part Q in
    let g : Floor 2 Q R = record { low = subst (λ (z : ℕ). z ≤ Q) (sym (square_is R)) p.0; high = subst (λ (z : ℕ). Q < z) (sym (square_is (R + 1))) p.1 } in
    let wide : 2 ^ 26 < w + 1 = pow_order 2 (lt_of_le_of_lt (power_large square n some) f.high) in
    let same : rnd (root_twice Q) (2 ^ 2123) ≡ rnd (halves 2 N w) 2 =
    ap (λ (z : ℕ). rnd (2 * R + cond (eqb z Q) 0 1) (2 ^ 2123)) (sym (square_is R)) ∙ finer N w Q R (2 ^ 2122) (pow_pos 2122) q f g (omega (arith, wide)) in
    let a = sized 2 n (lit< tt) fit in
    let e : root_twice Q * One * 2 ^ 2123 ≡ root_twice Q * 2 ^ 2272 = mul_assoc (root_twice Q) One (2 ^ 2123) in
    let b = rounded false (root_twice Q) (2 ^ 2272) (root_twice Q) (2 ^ 2123) (pow_pos 2272) (pow_pos 2123) e (subst (λ (z : ℕ). z < Top) (sym same) (under 2 n (lit< tt) fit)) in
    unique (round binary32 false (root_twice Q) (2 ^ 2272)) (root_units 2 n) b.f32 a.f32 (b.signed ∙ sym a.signed) (b.size ∙ same ∙ sym a.size)

positive_is : (m : ℕ) (e : ℤ) → F32 (fin false (suc m) e) → sqrt binary32 (fin false (suc m) e) ≡ root_units 2 (mag (fin false (suc m) e))
unfolding sqrt One Top
positive_is m e f =
    let s = shape (fin false (suc m) e) f in
    let n = mag (fin false (suc m) e) in
    let q : suc m * up e * 2 ^ 4542 / down e ≡ n * 2 ^ 149 * (2 ^ 2122) ^ 2 =
    ap (λ (z : ℕ). suc m * up e * z / down e) places ∙ more_places n (down e) (suc m * up e) (2 ^ 149) ((2 ^ 2122) ^ 2) (down_pos e) s.value in
    finest n (suc m * up e * 2 ^ 4542 / down e) (mag_pos false m e f) s.less q

pub sqrt_is : (x : Float) → fits binary32 x ≡ true → sqrt binary32 x ≡ root x
unfolding sqrt root
sqrt_is nan h = refl
sqrt_is (inf false) h = refl
sqrt_is (inf true) h = refl
sqrt_is (fin s zero e) h = ap (λ (d : ℤ). fin s 0 d) (sym (zero_form s e h))
sqrt_is (fin true (suc m) e) h = ap (λ (t : Bool). cond t (fin true (suc m) e) nan) (sym (eqb-suc-zero m))
sqrt_is (fin false (suc m) e) h =
    let f : F32 (fin false (suc m) e) = record { fine = tt; fit = subst T (sym h) tt } in
    positive_is m e f ∙ ap (λ (t : Bool). cond t (fin false (suc m) e) (root_units 2 (mag (fin false (suc m) e)))) (sym (eqb-suc-zero m))
