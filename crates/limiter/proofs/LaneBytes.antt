-- Words stored all at once, by the bytes of the number that they spell: the same as one word after the other. Assumes nothing.
use mathlib.Core.Path.{◌≡◌, refl, sym, ap, ap₂, ◌∙◌}
use mathlib.Core.List.{List, [], ◌∷◌}
use Prim.Native.Nat.{ℕ, zero, suc, ◌+◌, ◌*◌, ◌/◌, ◌%◌, ◌^◌, ◌<◌}
use native.Mathlib.Nat.{add-mul-div_left, add-mul-mod_self_left, div-eq_of_lt, div-div-eq-div-mul, div-one, zero-add, pow-suc}
use native.Mathlib.Omega.{arith}
use lib.Pow.{pow-add}
use lib.ListN.{length, set}
use lib.Lanes.{Each1, number_l, digits_l}
use Rattle.std.specs.Int.{byte_at, bytes_low_first}
use Rattle.words.specs.Words.{with_number, with_word, with_words}
use Rattle.words.proofs.Numbers.{power_pos}

-- ---- a number's bytes: its digits

shifted : (i v : ℕ) → v / 256 ^ suc i ≡ v / 256 ^ i / 256
shifted i v = ap (λ (p : ℕ). v / p) (pow-suc 256 i) ∙ sym (div-div-eq-div-mul v (256 ^ i) 256)

byte_is : (i v : ℕ) → byte_at i v ≡ v / 256 ^ i % 256
byte_is zero v = rw div-one refl
byte_is (suc i) v = refl

digits_from : (i n v : ℕ) → digits_l 256 n (v / 256 ^ i) ≡ bytes_low_first i n v
digits_from i zero v = refl
digits_from i (suc n) v =
    ap₂ (λ (b : ℕ) (bs : List ℕ). b ∷ bs) (sym (byte_is i v)) (ap (digits_l 256 n) (sym (shifted i v)) ∙ digits_from (suc i) n v)

pub digits_are : (n v : ℕ) → digits_l 256 n v ≡ bytes_low_first 0 n v
digits_are n v = ap (digits_l 256 n) (sym (div-one v)) ∙ digits_from 0 n v

-- ---- a number written in two parts

-- its lowest m bytes, and then the n bytes of what is above
upper : (s : List ℕ) (at m n v : ℕ) → with_number s at (m + n) v ≡ with_number (with_number s at m v) (at + m) n (v / 256 ^ m)
unfolding with_number
upper s at m zero v = ap (λ (k : ℕ). with_number s at k v) (let e : m + zero ≡ m = omega arith in e)
upper s at m (suc n) v =
    ap (λ (k : ℕ). with_number s at k v) (let e : m + suc n ≡ suc (m + n) = omega arith in e)
    ∙ ap (λ (t : List ℕ). set t (at + (m + n)) (v / 256 ^ (m + n) % 256)) (upper s at m n v)
    ∙ ap₂ (λ (k d : ℕ). set (with_number (with_number s at m v) (at + m) n (v / 256 ^ m)) k (d % 256)) (let e : at + (m + n) ≡ at + m + n = omega arith in e)
    (ap (λ (p : ℕ). v / p) (pow-add 256 m n) ∙ sym (div-div-eq-div-mul v (256 ^ m) (256 ^ n)))

-- its lower bytes are those of its lower part, whatever is above
lower : (s : List ℕ) (at n k w r : ℕ) → with_number s at n (w + 256 ^ (n + k) * r) ≡ with_number s at n w
unfolding with_number
lower s at zero k w r = refl
lower s at (suc n) k w r =
    ap₂ (λ (t : List ℕ) (d : ℕ). set t (at + n) d)
    (ap (λ (j : ℕ). with_number s at n (w + 256 ^ j * r)) (let e : suc n + k ≡ n + suc k = omega arith in e) ∙ lower s at n (suc k) w r)
    (ap (λ (q : ℕ). (w + q) / 256 ^ n % 256) (ap (λ (p : ℕ). p * r) (pow-add 256 (suc n) k ∙ ap (λ (p : ℕ). p * 256 ^ k) (pow-suc 256 n)) ∙ grouped (256 ^ n) (256 ^ k) r)
    ∙ ap (λ (q : ℕ). q % 256) (add-mul-div_left w (256 * (256 ^ k * r)) (power_pos n))
    ∙ add-mul-mod_self_left (w / 256 ^ n) 256 (256 ^ k * r))
  where
    grouped : (p q r : ℕ) → p * 256 * q * r ≡ p * (256 * (q * r))
    grouped p q r = omega arith

-- ---- words

rest : (w r : ℕ) → w < 256 ^ 4 → (w + 256 ^ 4 * r) / 256 ^ 4 ≡ r
rest w r h = add-mul-div_left w r (power_pos 4) ∙ rw (div-eq_of_lt h, zero-add) refl

-- the number that they spell, in all their bytes
pub words_put : (s : List ℕ) (at : ℕ) (ws : List ℕ) → Each1 (λ w. w < 256 ^ 4) ws → with_number s at (4 * length ws) (number_l (256 ^ 4) ws) ≡ with_words s at ws
unfolding with_number
words_put s at [] h = refl
words_put s at (w ∷ ws) h =
    let r = number_l (256 ^ 4) ws in
    ap (λ (n : ℕ). with_number s at n (w + 256 ^ 4 * r)) (let e : 4 * suc (length ws) ≡ 4 + 4 * length ws = omega arith in e)
    ∙ upper s at 4 (4 * length ws) (w + 256 ^ 4 * r)
    ∙ ap₂ (λ (t : List ℕ) (v : ℕ). with_number t (at + 4) (4 * length ws) v) (lower s at 4 0 w r) (rest w r h.0)
    ∙ words_put (with_word s at w) (at + 4) ws h.1
