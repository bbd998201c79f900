-- Lists of bytes: a number in one is below 256 to the power of its width, and a store of a number leaves bytes. Assumes nothing.
use mathlib.Core.List.{List, [], ◌∷◌}
use Prim.Native.Nat.{ℕ, zero, suc, ◌+◌, ◌*◌, ◌/◌, ◌%◌, ◌^◌, ◌<◌, ◌≤◌}
use native.Mathlib.Nat.{mod-lt, mul-le-mul_left, pow-suc}
use native.Mathlib.Omega.{arith}
use lib.Dec.{lit<}
use lib.ListN.{get_or, set}
use Rattle.words.specs.Words.{Bytes, Words, number, with_number, words_at}

digit : (x b P : ℕ) → x < P → b < 256 → x + b * P < P * 256
digit x b P h k = let m : b ≤ 255 = omega arith in let l = mul-le-mul_left P m in omega arith

pub number_small : (s : List ℕ) (at n : ℕ) → Bytes s → number s at n < 256 ^ n
unfolding number
number_small s at zero h = lit< tt
number_small s at (suc n) h = rw (pow-suc 256 n) (digit (number s at n) (get_or s (at + n) 0) (256 ^ n) (number_small s at n h) (h (at + n)))

set_bytes : (s : List ℕ) (k b : ℕ) → b < 256 → Bytes s → Bytes (set s k b)
set_bytes [] k b l h i = h i
set_bytes (x ∷ s) zero b l h zero = l
set_bytes (x ∷ s) zero b l h (suc i) = h (suc i)
set_bytes (x ∷ s) (suc k) b l h zero = h zero
set_bytes (x ∷ s) (suc k) b l h (suc i) = set_bytes s k b l (λ j. h (suc j)) i

pub number_bytes : (s : List ℕ) (at n v : ℕ) → Bytes s → Bytes (with_number s at n v)
unfolding with_number
number_bytes s at zero v h = h
number_bytes s at (suc n) v h = set_bytes (with_number s at n v) (at + n) (v / 256 ^ n % 256) (mod-lt (v / 256 ^ n) (lit< tt)) (number_bytes s at n v h)

pub run_small : (s : List ℕ) (at n : ℕ) → Bytes s → Words (words_at s at n)
run_small s at zero h = tt
run_small s at (suc n) h = (number_small s at 4 h, run_small s (at + 4) n h)
