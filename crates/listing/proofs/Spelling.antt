-- A number's digits are its decimal, a word's its eight; a text that grows piece by piece. Assumes nothing.
use Prim.Native.Nat.{ℕ, zero, suc, ◌+◌, ◌-◌, ◌*◌, ◌/◌, ◌%◌, ◌^◌, ◌≤◌, ◌<◌}
use mathlib.Core.Path.{◌≡◌, refl, sym, ap, subst, ◌∙◌}
use mathlib.Core.List.{List, [], ◌∷◌, ◌++◌, append_assoc, append-nil}
use mathlib.Core.Logic.{⊎_elim}
use native.Mathlib.Nat.{eq-zero-or-pos, eq-or-lt_of_le, pow-suc, pow-le-pow_right, mod-eq_of_lt, div-lt_iff_lt-mul, le-div_iff_mul-le}
use native.Mathlib.Numerals.{add-one}
use native.Mathlib.Omega.{arith}
use borrow.Author.Tests.{lt-ltb, le-ltb}
use lib.Dec.{lit<}
use lib.ListN.{length, take, length-append}
use lib.Seq.{take_at, length-take-le}
use Rattle.words.specs.Words.{word}
use Rattle.io.specs.Digits.{hex_digit_ascii, last_digits, IsDigitCount}
use Rattle.listing.specs.Line.{hex8, cells, line_of}
use Rattle.listing.specs.Text.{decimal_to, decimal, lines_of}

-- ---- decimal

one_digit : (f n : ℕ) → n < 10 → hex_digit_ascii n ∷ [] ≡ decimal_to f n
one_digit zero n h = refl
one_digit (suc f) n h = rw (lt-ltb n 10 h)

more_digits : (f n : ℕ) → 10 ≤ n → decimal_to f (n / 10) ++ (hex_digit_ascii (n % 10) ∷ []) ≡ decimal_to (suc f) n
more_digits f n h = rw (le-ltb n 10 h)

before_last : (n j : ℕ) → 10 ^ (suc j - 1) ≤ n → 10 ^ j ≤ n
before_last n j h = let e : suc j - 1 ≡ j = omega arith in rw e at h

spelt_to : (f n k : ℕ) → n ≤ f → IsDigitCount 10 1 n k → last_digits 10 k n ≡ decimal_to f n
spelt_to f n zero h w = absurd (omega (arith, w.0))
spelt_to f n (suc zero) h w =
    let few : n < 10 = w.1 in
    rw (mod-eq_of_lt few) (one_digit f n few)
spelt_to zero n (suc (suc j)) h w =
    let least : 10 ^ 1 ≤ 10 ^ suc j = pow-le-pow_right (lit< tt) {i = 1} {j = suc j} (omega arith) in
    let low : 10 ^ suc j ≤ n = before_last n (suc j) (w.2 (omega arith)) in
    absurd (omega arith)
spelt_to (suc f) n (suc (suc j)) h w =
    let least : 10 ^ 1 ≤ 10 ^ suc j = pow-le-pow_right (lit< tt) {i = 1} {j = suc j} (omega arith) in
    let low : 10 ^ suc j ≤ n = before_last n (suc j) (w.2 (omega arith)) in
    let high : n < 10 ^ suc j * 10 = rw pow-suc at w.1 in
    let rest : IsDigitCount 10 1 (n / 10) (suc j) = (
      omega arith,
      (div-lt_iff_lt-mul (lit< tt)).1 high,
      λ l. let e : suc j - 1 ≡ j = omega arith in rw e ((le-div_iff_mul-le (lit< tt)).1 (rw pow-suc at low)),
    ) in
    ap (λ (t : List ℕ). t ++ (hex_digit_ascii (n % 10) ∷ [])) (spelt_to f (n / 10) (suc j) (omega arith) rest) ∙ more_digits f n (omega arith)

pub spelt_decimal : (n k : ℕ) (t : List ℕ) → IsDigitCount 10 1 n k → take k t ≡ last_digits 10 k n → take k t ≡ decimal n
unfolding decimal
spelt_decimal n k t w e = e ∙ spelt_to n n k (omega arith) w

-- a u64 has no more than twenty digits
pub twenty : (n k : ℕ) → n < 2 ^ 64 → IsDigitCount 10 1 n k → k ≤ 20
twenty n k h w =
    ⊎_elim
    (λ l. omega arith)
    (λ l.
    let p : 10 ^ 20 ≤ 10 ^ (k - 1) = pow-le-pow_right (lit< tt) {i = 20} {j = k - 1} (omega arith) in
    absurd (omega (arith, w.2 (omega arith))))
    (eq-zero-or-pos (k - 20))

-- ---- hexadecimal

-- a word has no more than eight digits
pub eight : (n k : ℕ) → n < 2 ^ 32 → IsDigitCount 16 8 n k → k ≡ 8
eight n k h f =
    ⊎_elim
    (λ e. sym e)
    (λ l. absurd (let q : 8 ≤ k - 1 = omega arith in let p : 16 ^ 8 ≤ 16 ^ (k - 1) = pow-le-pow_right (lit< tt) q in omega (arith, p, f.2 l)))
    (eq-or-lt_of_le f.0)

pub spelt : (w k : ℕ) (t : List ℕ) → w < 2 ^ 32 → IsDigitCount 16 8 w k → take k t ≡ last_digits 16 k w → take 8 t ≡ hex8 w
unfolding hex8
spelt w k t h f e = rw (eight w k h f) at e

-- ---- a text that grows

-- a piece behind the first `at` bytes of a buffer
pub put_at : (at : ℕ) (text s x y : List ℕ) → at + length s ≤ length text → take (at + length s) (take at text ++ ((s ++ x) ++ y)) ≡ take at text ++ s
put_at at text s x y h =
    let n : length (take at text ++ s) ≡ at + length s = length-append (take at text) s ∙ ap (λ (i : ℕ). i + length s) (length-take-le at text (omega arith)) in
    let e : take at text ++ ((s ++ x) ++ y) ≡ (take at text ++ s) ++ (x ++ y) = simp append_assoc in
    ap (take (at + length s)) e ∙ take_at (take at text ++ s) (x ++ y) (at + length s) n

-- two pieces put one behind the other are one piece put
pub grown : (a s t : List ℕ) {b c : List ℕ} → b ≡ a ++ s → c ≡ b ++ t → c ≡ a ++ (s ++ t)
grown a s t p q = q ∙ ap (λ (x : List ℕ). x ++ t) p ∙ append_assoc a s t

pub renamed : (a : List ℕ) {s t b : List ℕ} → s ≡ t → b ≡ a ++ s → b ≡ a ++ t
renamed a {s} {t} {b} p q = subst (λ (x : List ℕ). b ≡ a ++ x) p q

-- what is put into an empty text is all of it, and some
pub said : {s text : List ℕ} → 0 < length s → text ≡ [] ++ s → (0 < length text) × (text ≡ s)
said {s} {text} h p = (subst (λ (x : List ℕ). 0 < length x) (sym p) h, p)

pub no_cell : (out : List ℕ) (i : ℕ) (text : List ℕ) → text ≡ text ++ cells out i 0
unfolding cells
no_cell out i text = sym (append-nil text)

pub cell_more : (out : List ℕ) (i c : ℕ) (text : List ℕ) → (text ++ cells out i c) ++ (hex8 (word out (1024 * c + 4 * i)) ++ (32 ∷ [])) ≡ text ++ cells out i (c + 1)
unfolding cells
cell_more out i c text = rw add-one (append_assoc text (cells out i c) (hex8 (word out (1024 * c + 4 * i)) ++ (32 ∷ [])))

pub no_line : (out : List ℕ) (text : List ℕ) → text ≡ text ++ lines_of out 0
unfolding lines_of
no_line out text = sym (append-nil text)

pub line_more : (out : List ℕ) (i : ℕ) (text : List ℕ) → (text ++ lines_of out i) ++ line_of out i ≡ text ++ lines_of out (i + 1)
unfolding lines_of
line_more out i text = rw add-one (append_assoc text (lines_of out i) (line_of out i))
