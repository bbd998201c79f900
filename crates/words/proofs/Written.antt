-- A number's bytes, as the library's `to_le_bytes` has them, put over those of a slice. Assumes nothing.
use mathlib.Core.Path.{◌≡◌, refl, sym, ap, ◌∙◌}
use mathlib.Core.List.{List, [], ◌∷◌, ◌++◌}
use Prim.Native.Nat.{ℕ, zero, suc, ◌+◌, ◌-◌, ◌/◌, ◌%◌, ◌^◌, ◌≤◌}
use native.Mathlib.Nat.{add-zero, zero-add, div-one}
use native.Mathlib.Omega.{arith}
use borrow.Rule.Slice.PartMut.{put_mid}
use lib.ListN.{length, get_or, set, take, drop}
use Rattle.std.specs.Int.{byte_at, bytes_low_first}
use Rattle.std.proofs.Common.{append_assoc, drop-cons, drop-drop, length-append}
use lib.Seq.{length-take-le}
use Rattle.std.proofs.lemmas.List.{set_at, take-append-drop}
use Rattle.words.specs.Words.{with_number}

byte_is : (n v : ℕ) → byte_at n v ≡ v / 256 ^ n % 256
byte_is zero v = rw div-one refl
byte_is (suc n) v = refl

bytes_more : (i n v : ℕ) → bytes_low_first i (suc n) v ≡ bytes_low_first i n v ++ (byte_at (i + n) v ∷ [])
bytes_more i zero v = rw add-zero refl
bytes_more i (suc n) v = ap (λ (l : List ℕ). byte_at i v ∷ l) (rw (let e : i + suc n ≡ suc i + n = omega arith in e) (bytes_more (suc i) n v))

length_bytes : (i n v : ℕ) → length (bytes_low_first i n v) ≡ n
length_bytes i zero v = refl
length_bytes i (suc n) v = ap suc (length_bytes (suc i) n v)

written : (s : List ℕ) (at n v : ℕ) → at + n ≤ length s → take at s ++ (bytes_low_first 0 n v ++ drop (at + n) s) ≡ with_number s at n v
unfolding with_number
written s at zero v h = rw add-zero (take-append-drop at s)
written s at (suc n) v h =
    let p = take at s in
    let bs = bytes_low_first 0 n v in
    let new = v / 256 ^ n % 256 in
    let d = drop (at + suc n) s in
    let l : length (p ++ bs) ≡ at + n = rw (length-append p bs, length-take-le at s (omega arith), length_bytes 0 n v) refl in
    let rest : drop (at + n) s ≡ get_or s (at + n) 0 ∷ d = drop-cons s (at + n) 0 (omega arith) ∙ ap (λ (k : ℕ). get_or s (at + n) 0 ∷ drop k s) (let e : suc (at + n) ≡ at + suc n = omega arith in e) in
    let before : with_number s at n v ≡ p ++ bs ++ (get_or s (at + n) 0 ∷ d) =
    sym (written s at n v (omega arith)) ∙ sym (append_assoc p bs (drop (at + n) s)) ∙ ap (λ (t : List ℕ). p ++ bs ++ t) rest in
    let more : bytes_low_first 0 (suc n) v ≡ bs ++ (new ∷ []) = rw zero-add at (bytes_more 0 n v) ∙ ap (λ (b : ℕ). bs ++ (b ∷ [])) (byte_is n v) in
    sym (ap (λ (t : List ℕ). set t (at + n) new) before
    ∙ set_at (p ++ bs) (get_or s (at + n) 0) d new (at + n) l
    ∙ append_assoc p bs (new ∷ d)
    ∙ ap (λ (t : List ℕ). p ++ t) (sym (append_assoc bs (new ∷ []) d))
    ∙ ap (λ (t : List ℕ). p ++ (t ++ d)) (sym more))

-- what `s[at..e].copy_from_slice(&v.to_le_bytes())` leaves
pub number_put : (s : List ℕ) (at e n v : ℕ) (ys : List ℕ) → e ≡ at + n → e ≤ length s → ys ≡ bytes_low_first 0 n v → put_mid at (e - at) s ys ≡ with_number s at n v
number_put s at e n v ys is h f =
    let k : e - at ≡ n = omega arith in
    rw (k, f) (ap (λ (t : List ℕ). take at s ++ (bytes_low_first 0 n v ++ t)) (drop-drop n at s) ∙ written s at n v (omega arith))
