-- What is written into a part that is lent is written into the whole. Assumes nothing.
use mathlib.Core.Path.{◌≡◌, refl, sym, ap, ◌∙◌}
use mathlib.Core.List.{List, [], ◌∷◌, ◌++◌}
use Prim.Native.Nat.{ℕ, zero, suc, ◌+◌, ◌*◌, ◌/◌, ◌%◌, ◌^◌, ◌≤◌, ◌<◌}
use native.Mathlib.Omega.{arith}
use borrow.Rule.Slice.PartMut.{mid_of, post_of, put_mid, put_same}
use lib.ListN.{length, set, take, drop, length-drop}
use lib.Seq.{set-append_left, length-take-le}
use lib.Ieee.{Float, binary32, to_bits}
use Rattle.words.specs.Words.{with_number, with_word, with_float, with_floats}
use Rattle.words.proofs.Numbers.{length_kept}

-- b lies behind p and before c
set_part : (p b c : List ℕ) (i v : ℕ) → i < length b → set (p ++ (b ++ c)) (length p + i) v ≡ p ++ (set b i v ++ c)
set_part [] b c i v h = ap (λ (j : ℕ). set (b ++ c) j v) (let e : 0 + i ≡ i = omega arith in e) ∙ set-append_left b c i v h
set_part (x ∷ p) b c i v h =
    ap (λ (j : ℕ). set (x ∷ (p ++ (b ++ c))) j v) (let e : suc (length p) + i ≡ suc (length p + i) = omega arith in e) ∙ ap (λ (l : List ℕ). x ∷ l) (set_part p b c i v h)

pub number_part : (p b c : List ℕ) (at n v : ℕ) → at + n ≤ length b → with_number (p ++ (b ++ c)) (length p + at) n v ≡ p ++ (with_number b at n v ++ c)
unfolding with_number
number_part p b c at zero v h = refl
number_part p b c at (suc n) v h =
    let w = v / 256 ^ n % 256 in
    ap (λ (l : List ℕ). set l (length p + at + n) w) (number_part p b c at n v (omega arith))
    ∙ ap (λ (j : ℕ). set (p ++ (with_number b at n v ++ c)) j w) (let e : length p + at + n ≡ length p + (at + n) = omega arith in e)
    ∙ set_part p (with_number b at n v) c (at + n) w (let e = length_kept b at n v in omega arith)

part_floats : (p b c : List ℕ) (at : ℕ) (xs : List Float) → at + 4 * length xs ≤ length b → with_floats (p ++ (b ++ c)) (length p + at) xs ≡ p ++ (with_floats b at xs ++ c)
unfolding with_float
part_floats p b c at [] h = refl
part_floats p b c at (x ∷ xs) h =
    let w = to_bits binary32 x in
    ap (λ (s : List ℕ). with_floats s (length p + at + 4) xs) (number_part p b c at 4 w (omega arith))
    ∙ ap (λ (j : ℕ). with_floats (p ++ (with_word b at w ++ c)) j xs) (let e : length p + at + 4 ≡ length p + (at + 4) = omega arith in e)
    ∙ part_floats p (with_word b at w) c (at + 4) xs (let e = length_kept b at 4 w in omega arith)

-- z came back from the part of n bytes that was lent from `from` on
pub floats_back : (s z : List ℕ) (from n : ℕ) (xs : List Float) → from + n ≤ length s → 4 * length xs ≡ n → z ≡ with_floats (mid_of from n s) 0 xs
    → put_mid from n s z ≡ with_floats s from xs
floats_back s z from n xs h e is =
    let p = take from s in
    let l : length p ≡ from = length-take-le from s (omega arith) in
    let m : length (mid_of from n s) ≡ n = length-take-le n (drop from s) (omega (arith, length-drop from s)) in
    ap (put_mid from n s) is
    ∙ sym (part_floats p (mid_of from n s) (post_of from n s) 0 xs (omega arith))
    ∙ ap (λ (j : ℕ). with_floats (p ++ (mid_of from n s ++ post_of from n s)) j xs) (let e : length p + 0 ≡ from = omega arith in e)
    ∙ ap (λ (u : List ℕ). with_floats u from xs) (put_same from n s)
