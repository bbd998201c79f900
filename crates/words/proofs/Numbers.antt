-- Numbers of n bytes: their parts, and a list's length when one is written. Assumes nothing.
use mathlib.Core.Path.{◌≡◌, refl, sym, ap, ap₂, ◌∙◌}
use mathlib.Core.List.{List}
use Prim.Native.Nat.{ℕ, zero, suc, ◌+◌, ◌*◌, ◌/◌, ◌%◌, ◌^◌, ◌<◌}
use native.Mathlib.Nat.{add-zero, add-suc, add_assoc, mul_assoc, div-div-eq-div-mul, mul-add-div, mul-add-mod_self_left, div-add-mod, div-one, mod-eq_of_lt, one-le-pow, pow-succ'}
use native.Mathlib.Omega.{arith}
use lib.Dec.{lit≤}
use lib.Pow.{pow-add}
use lib.ListN.{length, get_or, set, length-set}
use Rattle.words.specs.Words.{number, with_number, half, with_half, word, long}

-- two bytes
pub half_read : (s : List ℕ) (at : ℕ) → get_or s at 0 + get_or s (at + 1) 0 * 256 ≡ half s at
unfolding number
half_read s at = rw (add-zero at) (omega arith)

-- four bytes
pub word_read : (s : List ℕ) (at : ℕ) → get_or s at 0 + get_or s (at + 1) 0 * 256 + get_or s (at + 2) 0 * 65536 + get_or s (at + 3) 0 * 16777216 ≡ word s at
unfolding number
word_read s at = rw (add-zero at) (omega arith)

-- eight bytes
pub long_read : (s : List ℕ) (at : ℕ) → get_or s at 0 + get_or s (at + 1) 0 * 256 + get_or s (at + 2) 0 * 65536 + get_or s (at + 3) 0 * 16777216
    + get_or s (at + 4) 0 * 4294967296 + get_or s (at + 5) 0 * 1099511627776 + get_or s (at + 6) 0 * 281474976710656 + get_or s (at + 7) 0 * 72057594037927936 ≡ long s at
unfolding number
long_read s at = rw (add-zero at) (omega arith)

-- two bytes written
pub half_written : (s : List ℕ) (at v : ℕ) → v < 65536 → set (set s at (v % 256)) (at + 1) (v / 256) ≡ with_half s at v
unfolding with_number
half_written s at v h =
    let k : v / 256 < 256 = omega arith in
    rw (add-zero at, div-one v, mod-eq_of_lt k)

joined : (a b x P Q : ℕ) → a + b * P + x * (P * Q) ≡ a + (b + x * Q) * P
joined a b x P Q = omega arith

-- the lower m bytes and the n bytes above them
pub number_parts : (s : List ℕ) (at m n : ℕ) → number s at (m + n) ≡ number s at m + number s (at + m) n * 256 ^ m
unfolding number
number_parts s at m zero = rw add-zero (omega arith)
number_parts s at m (suc n) =
    rw (add-suc, number_parts s at m n, pow-add 256 m n, ← add_assoc) (joined _ _ _ _ _)

-- and of a number that is written
pub written_parts : (s : List ℕ) (at m n v : ℕ) → with_number s at (m + n) v ≡ with_number (with_number s at m v) (at + m) n (v / 256 ^ m)
unfolding with_number
written_parts s at m zero v = rw add-zero
written_parts s at m (suc n) v = rw (add-suc, written_parts s at m n v, pow-add 256 m n, ← add_assoc, div-div-eq-div-mul)

pub power_pos : (n : ℕ) → 0 < 256 ^ n
power_pos n = one-le-pow n 256 (lit≤ tt)

-- byte k of v % (256 ^ k * 256 * q) is that of v
low_byte : (v p q : ℕ) → 0 < p → v % (p * (256 * q)) / p % 256 ≡ v / p % 256
low_byte v p q h =
    let r = v % (p * (256 * q)) in
    let d = v / (p * (256 * q)) in
    let e : p * (256 * (q * d)) + r ≡ v = rw (← mul_assoc 256 q d, ← mul_assoc p (256 * q) d) (div-add-mod v (p * (256 * q))) in
    let f : v / p ≡ 256 * (q * d) + r / p = ap (λ (x : ℕ). x / p) (sym e) ∙ mul-add-div h (256 * (q * d)) r in
    sym (ap (λ (x : ℕ). x % 256) f ∙ mul-add-mod_self_left 256 (q * d) (r / p))

low_written : (s : List ℕ) (at n m v : ℕ) → with_number s at n (v % 256 ^ (n + m)) ≡ with_number s at n v
unfolding with_number
low_written s at zero m v = refl
low_written s at (suc n) m v =
    let e : suc n + m ≡ n + suc m = omega arith in
    let p : 256 ^ (n + suc m) ≡ 256 ^ n * (256 * 256 ^ m) = pow-add 256 n (suc m) ∙ ap (λ (x : ℕ). 256 ^ n * x) (pow-succ' 256 m) in
    let b : v % 256 ^ (n + suc m) / 256 ^ n % 256 ≡ v / 256 ^ n % 256 = rw p (low_byte v (256 ^ n) (256 ^ m) (power_pos n)) in
    rw e (ap₂ (λ (t : List ℕ) (x : ℕ). set t (at + n) x) (low_written s at n (suc m) v) b)

-- only the n lowest bytes of a number count
pub written_low : (s : List ℕ) (at n v : ℕ) → with_number s at n (v % 256 ^ n) ≡ with_number s at n v
written_low s at n v = rw add-zero at (low_written s at n 0 v)

-- a number written by its lower m bytes and the n above them
pub written_joined : (s : List ℕ) (at m n v : ℕ) → with_number (with_number s at m (v % 256 ^ m)) (at + m) n (v / 256 ^ m) ≡ with_number s at (m + n) v
written_joined s at m n v = ap (λ (t : List ℕ). with_number t (at + m) n (v / 256 ^ m)) (written_low s at m v) ∙ sym (written_parts s at m n v)

pub length_kept : (s : List ℕ) (at n v : ℕ) → length (with_number s at n v) ≡ length s
unfolding with_number
length_kept s at zero v = refl
length_kept s at (suc n) v = length-set (with_number s at n v) (at + n) (v / 256 ^ n % 256) ∙ length_kept s at n v
