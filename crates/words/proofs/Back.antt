-- What was written is read back. Assumes nothing.
use mathlib.Core.Path.{◌≡◌, refl, sym, ap, ap₂, ◌∙◌}
use mathlib.Core.List.{List, [], ◌∷◌}
use Prim.Native.Nat.{ℕ, zero, suc, ◌+◌, ◌*◌, ◌/◌, ◌%◌, ◌^◌, ◌<◌, ◌≤◌}
use native.Mathlib.Nat.{mod-eq_of_lt, mod-one, pow-suc, div-div-eq-div-mul, mod-add-div}
use native.Mathlib.Omega.{arith}
use lib.Dec.{T}
use lib.ListN.{length, set}
use lib.Seq.{get_or-set_same}
use lib.Ieee.{Float, binary32, fits, of_bits, to_bits}
use lib.Ieee.Bits.{of_bits-to_bits, to_bits-lt}
use Rattle.words.specs.Words.{Words, number, with_number, with_word, words_at, with_words, float_at, with_float}
use Rattle.words.proofs.Numbers.{length_kept}
use Rattle.words.proofs.Beside.{reads_before, byte_keeps, words_keep}

sums : (p b q r x d m : ℕ) {v : ℕ} → r + p * q ≡ v → x + b * d ≡ q → m + p * b * d ≡ v → r + x * p ≡ m
sums p b q r x d m e f g = let h = rw (← f) at e in omega arith

-- the remainder by p * b from that by p
remainder : (v p b : ℕ) → v % p + v / p % b * p ≡ v % (p * b)
remainder v p b = sums p b (v / p) (v % p) (v / p % b) (v / (p * b)) (v % (p * b)) (mod-add-div v p) (rw div-div-eq-div-mul at (mod-add-div (v / p) b)) (mod-add-div v (p * b))

lowest_read : (s : List ℕ) (at n v : ℕ) → at + n ≤ length s → number (with_number s at n v) at n ≡ v % 256 ^ n
unfolding number with_number
lowest_read s at zero v h = sym (mod-one v)
lowest_read s at (suc n) v h =
    let t = with_number s at n v in
    let b = v / 256 ^ n % 256 in
    let e : length t ≡ length s = length_kept s at n v in
    let low : number (set t (at + n) b) at n ≡ v % 256 ^ n = reads_before (byte_keeps t (at + n) b) at n (omega arith) ∙ lowest_read s at n v (omega arith) in
    ap₂ (λ (x y : ℕ). x + y * 256 ^ n) low (get_or-set_same t (at + n) b 0 (omega arith)) ∙ remainder v (256 ^ n) 256 ∙ ap (λ (x : ℕ). v % x) (sym (pow-suc 256 n))

pub reads_back : (s : List ℕ) (at n v : ℕ) → at + n ≤ length s → v < 256 ^ n → number (with_number s at n v) at n ≡ v
reads_back s at n v h l = lowest_read s at n v h ∙ mod-eq_of_lt l

pub float_reads_back : (s : List ℕ) (at : ℕ) (x : Float) → at + 4 ≤ length s → T (fits binary32 x) → float_at (with_float s at x) at ≡ x
unfolding float_at with_float
float_reads_back s at x h f = ap (of_bits binary32) (reads_back s at 4 (to_bits binary32 x) h (to_bits-lt binary32 x f)) ∙ of_bits-to_bits binary32 x f

pub words_read_back : (s : List ℕ) (at : ℕ) (ws : List ℕ) → at + 4 * length ws ≤ length s → Words ws → words_at (with_words s at ws) at (length ws) ≡ ws
words_read_back s at [] h k = refl
words_read_back s at (w ∷ ws) h k =
    let e : length (with_word s at w) ≡ length s = length_kept s at 4 w in
    ap₂ (λ (x : ℕ) (xs : List ℕ). x ∷ xs)
    (reads_before (words_keep (with_word s at w) (at + 4) ws) at 4 (omega arith) ∙ reads_back s at 4 w (omega arith) k.0)
    (words_read_back (with_word s at w) (at + 4) ws (omega arith) k.1)
