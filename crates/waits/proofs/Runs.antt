-- Runs of bytes put into a list: what is behind and before them stays. Assumes nothing.
use Rattle.std.proofs.Common.{◌≡◌, ℕ, suc, ◌+◌, ◌-◌, ◌<◌, ◌≤◌, List, [], ◌∷◌, ◌++◌, length, take, drop, get_or, sym, ap, ap₂, ◌∙◌, append_assoc, append-nil, length-append, take-append-drop, zero-add, arith}
use lib.ListN.{set, length-drop, get_or-append}
use lib.Seq.{length-take-le, take-append_seam, take-append-add, take-add, drop-append-add, drop-drop, get_or-take, get_or-drop, set_split}
use Rattle.std.proofs.lemmas.List.{take_more}
use Rattle.words.specs.Words.{with_number}
use Rattle.words.proofs.Theorems.{Kept, length_kept, number_part}
use Rattle.waits.specs.Settled.{with_run}

-- ---- behind and before a run

pub drop_past_run : (Y xs : List ℕ) (at q : ℕ) → at ≤ length Y → at + length xs ≤ q → drop q (with_run Y at xs) ≡ drop q Y
drop_past_run Y xs at q h b =
    let p = take at Y in
    let d = drop (at + length xs) Y in
    let j = q - (at + length xs) in
    let l : length p ≡ at = length-take-le at Y h in
    ap (λ (k : ℕ). drop k (p ++ (xs ++ d))) (let e : q ≡ length p + (length xs + j) = omega (arith, l) in e)
    ∙ drop-append-add p (xs ++ d) (length xs + j)
    ∙ drop-append-add xs d j
    ∙ drop-drop j (at + length xs) Y
    ∙ ap (λ (k : ℕ). drop k Y) (let e : at + length xs + j ≡ q = omega arith in e)

pub run_keeps : (Y xs : List ℕ) (at : ℕ) → at ≤ length Y → Kept Y (with_run Y at xs) at (at + length xs)
run_keeps Y xs at h =
    let l : length (take at Y) ≡ at = length-take-le at Y h in
    record {
      before = λ k b. get_or-append (take at Y) (xs ++ drop (at + length xs) Y) 0 k (omega (arith, l)) ∙ get_or-take at Y k 0 b;
      past = λ k b.
          let e : k + 0 ≡ k = omega arith in
          ap (λ (i : ℕ). get_or (with_run Y at xs) i 0) (sym e)
          ∙ sym (get_or-drop k (with_run Y at xs) 0 0)
          ∙ ap (λ (s : List ℕ). get_or s 0 0) (drop_past_run Y xs at k h b)
          ∙ get_or-drop k Y 0 0
          ∙ ap (λ (i : ℕ). get_or Y i 0) e;
    }

-- ---- more of a run

pub length_run : (Y xs : List ℕ) (at : ℕ) → at + length xs ≤ length Y → length (with_run Y at xs) ≡ length Y
length_run Y xs at h =
    let d = drop (at + length xs) Y in
    let e = length-append (take at Y) (xs ++ d) in
    let f = length-append xs d in
    let g = length-take-le at Y (omega arith) in
    let k = length-drop (at + length xs) Y in
    omega (arith, e, f, g, k)

-- a run, and another behind it
pub run_joined : (Y xs ys : List ℕ) (at : ℕ) → at ≤ length Y → with_run (with_run Y at xs) (at + length xs) ys ≡ with_run Y at (xs ++ ys)
run_joined Y xs ys at h =
    let p = take at Y in
    let d = drop (at + length xs) Y in
    let l : length p ≡ at = length-take-le at Y h in
    let end = at + length xs + length ys in
    let first : take (at + length xs) (p ++ (xs ++ d)) ≡ p ++ xs =
    ap (λ (k : ℕ). take (k + length xs) (p ++ (xs ++ d))) (sym l) ∙ take-append-add p (xs ++ d) (length xs) ∙ ap (λ (t : List ℕ). p ++ t) (take-append_seam xs d) in
    ap₂ (λ (a b : List ℕ). a ++ (ys ++ b)) first (drop_past_run Y xs at end h (omega arith))
    ∙ append_assoc p xs (ys ++ drop end Y)
    ∙ ap (λ (t : List ℕ). p ++ t) (sym (append_assoc xs ys (drop end Y)))
    ∙ ap (λ (k : ℕ). p ++ (xs ++ ys ++ drop k Y)) (let e : end ≡ at + length (xs ++ ys) = omega (arith, length-append xs ys) in e)

-- no run
pub run_none : (Y : List ℕ) (at : ℕ) → with_run Y at [] ≡ Y
run_none Y at = ap (λ (i : ℕ). take at Y ++ drop i Y) (let e : at + 0 ≡ at = omega arith in e) ∙ take-append-drop at Y

-- a run that stands there
pub run_same : (Y : List ℕ) (at n : ℕ) → at + n ≤ length Y → with_run Y at (take n (drop at Y)) ≡ Y
run_same Y at n h =
    let l : length (take n (drop at Y)) ≡ n = length-take-le n (drop at Y) (omega (arith, length-drop at Y)) in
    ap (λ (t : List ℕ). take at Y ++ (take n (drop at Y) ++ t)) (ap (λ (k : ℕ). drop (at + k) Y) l ∙ sym (drop-drop n at Y))
    ∙ ap (λ (t : List ℕ). take at Y ++ t) (take-append-drop n (drop at Y))
    ∙ take-append-drop at Y

-- the first k of xs, laid from `at` on: j more
pub run_more : (Y xs : List ℕ) (at k j : ℕ) → at ≤ length Y → k ≤ length xs → with_run (with_run Y at (take k xs)) (at + k) (take j (drop k xs)) ≡ with_run Y at (take (k + j) xs)
run_more Y xs at k j h b =
    let l : length (take k xs) ≡ k = length-take-le k xs b in
    ap (λ (i : ℕ). with_run (with_run Y at (take k xs)) i (take j (drop k xs))) (let e : at + k ≡ at + length (take k xs) = omega (arith, l) in e)
    ∙ run_joined Y (take k xs) (take j (drop k xs)) at h
    ∙ ap (with_run Y at) (sym (take-add k j xs))

-- the bytes from `from` on, moved down to `to`, k of them: one more
pub copied_more : (Y : List ℕ) (to from k : ℕ) → to ≤ from → from + k < length Y
    → set (with_run Y to (take k (drop from Y))) (to + k) (get_or (with_run Y to (take k (drop from Y))) (from + k) 0) ≡ with_run Y to (take (k + 1) (drop from Y))
copied_more Y to from k h b =
    let xs = take k (drop from Y) in
    let Z = with_run Y to xs in
    let m : k < length (drop from Y) = omega (arith, length-drop from Y) in
    let l : length xs ≡ k = length-take-le k (drop from Y) (omega arith) in
    let keeps = run_keeps Y xs to (omega arith) in
    let x = get_or Y (from + k) 0 in
    let is : get_or Z (from + k) 0 ≡ x = keeps.past (from + k) (omega (arith, l)) in
    let size : to + k < length Z = let e = length_run Y xs to (omega (arith, l)) in omega (arith, e) in
    ap (set Z (to + k)) is
    ∙ set_split Z (to + k) x size
    ∙ ap (λ (i : ℕ). take (to + k) Z ++ (x ∷ drop i Z)) (let e : suc (to + k) ≡ to + k + 1 = omega arith in e)
    ∙ ap (λ (i : ℕ). with_run Z i (x ∷ [])) (let e : to + k ≡ to + length xs = omega (arith, l) in e)
    ∙ run_joined Y xs (x ∷ []) to (omega arith)
    ∙ ap (with_run Y to) (ap (λ (y : ℕ). xs ++ (y ∷ [])) (sym (get_or-drop from Y k 0)) ∙ sym (take_more (drop from Y) k 0 m))

-- ---- numbers and a run

-- a number of the first part of a list, and of the second
number_of_front : (b c : List ℕ) (p n v : ℕ) → p + n ≤ length b → with_number (b ++ c) p n v ≡ with_number b p n v ++ c
number_of_front b c p n v h = ap (λ (k : ℕ). with_number (b ++ c) k n v) (sym (zero-add p)) ∙ number_part [] b c p n v h

number_of_back : (b c : List ℕ) (n v : ℕ) → n ≤ length c → with_number (b ++ c) (length b + 0) n v ≡ b ++ with_number c 0 n v
number_of_back b c n v h =
    ap (λ (t : List ℕ). with_number (b ++ t) (length b + 0) n v) (sym (append-nil c))
    ∙ number_part b c [] 0 n v (omega arith)
    ∙ ap (λ (t : List ℕ). b ++ t) (append-nil (with_number c 0 n v))

-- a number stored in a list, by the part before `at`
number_in_front : (Y : List ℕ) (at p n v : ℕ) → p + n ≤ at → at ≤ length Y → with_number Y p n v ≡ with_number (take at Y) p n v ++ drop at Y
number_in_front Y at p n v h l =
    let e : length (take at Y) ≡ at = length-take-le at Y l in
    ap (λ (s : List ℕ). with_number s p n v) (sym (take-append-drop at Y)) ∙ number_of_front (take at Y) (drop at Y) p n v (omega (arith, e))

pub drop_past_number : (Y : List ℕ) (at p n v : ℕ) → p + n ≤ at → at ≤ length Y → drop at (with_number Y p n v) ≡ drop at Y
drop_past_number Y at p n v h l =
    let B = with_number (take at Y) p n v in
    let E : length B ≡ at = length_kept (take at Y) p n v ∙ length-take-le at Y l in
    let e : at ≡ length B + 0 = omega (arith, E) in
    ap (drop at) (number_in_front Y at p n v h l) ∙ ap (λ (i : ℕ). drop i (B ++ drop at Y)) e ∙ drop-append-add B (drop at Y) 0

-- a number stored before a run
pub number_before_run : (Y xs : List ℕ) (at p n v : ℕ) → p + n ≤ at → at ≤ length Y → with_number (with_run Y at xs) p n v ≡ with_run (with_number Y p n v) at xs
number_before_run Y xs at p n v h l =
    let b = take at Y in
    let B = with_number b p n v in
    let e : length b ≡ at = length-take-le at Y l in
    let E : length B ≡ at = length_kept b p n v ∙ e in
    let whole = number_in_front Y at p n v h l in
    let front : take at (with_number Y p n v) ≡ B = ap (take at) whole ∙ ap (λ (i : ℕ). take i (B ++ drop at Y)) (sym E) ∙ take-append_seam B (drop at Y) in
    let back : drop (at + length xs) (with_number Y p n v) ≡ drop (at + length xs) Y =
    sym (drop-drop (length xs) at (with_number Y p n v)) ∙ ap (drop (length xs)) (drop_past_number Y at p n v h l) ∙ drop-drop (length xs) at Y in
    number_of_front b (xs ++ drop (at + length xs) Y) p n v (omega (arith, e)) ∙ sym (ap₂ (λ (s t : List ℕ). s ++ (xs ++ t)) front back)

-- two numbers, the one before the other
pub numbers_apart : (X : List ℕ) (p n v q m w : ℕ) → p + n ≤ q → q + m ≤ length X → with_number (with_number X q m w) p n v ≡ with_number (with_number X p n v) q m w
numbers_apart X p n v q m w h l =
    let b = take q X in
    let c = drop q X in
    let B = with_number b p n v in
    let C = with_number c 0 m w in
    let e : length b ≡ q = length-take-le q X (omega arith) in
    let E : length B ≡ q = length_kept b p n v ∙ e in
    let room : m ≤ length c = omega (arith, length-drop q X) in
    let second : with_number X q m w ≡ b ++ C =
    ap₂ (λ (s : List ℕ) (i : ℕ). with_number s i m w) (sym (take-append-drop q X)) (let f : q ≡ length b + 0 = omega (arith, e) in f) ∙ number_of_back b c m w room in
    let both : with_number (with_number X p n v) q m w ≡ B ++ C =
    ap₂ (λ (s : List ℕ) (i : ℕ). with_number s i m w) (number_in_front X q p n v h (omega arith)) (let f : q ≡ length B + 0 = omega (arith, E) in f) ∙ number_of_back B c m w room in
    ap (λ (s : List ℕ). with_number s p n v) second ∙ number_of_front b C p n v (omega (arith, e)) ∙ sym both
