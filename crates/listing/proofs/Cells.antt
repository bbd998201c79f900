-- A sample's line in a buffer of its own, which grows by a cell. Assumes nothing.
use Prim.Native.Nat.{ℕ, suc, ◌+◌, ◌-◌, ◌*◌, ◌≤◌}
use mathlib.Core.Path.{◌≡◌, refl, sym, ap, ◌∙◌}
use mathlib.Core.List.{List, [], ◌∷◌, ◌++◌, append_assoc}
use native.Mathlib.Numerals.{add-one}
use native.Mathlib.Omega.{arith}
use lib.ListN.{get_or, set, length, take, drop, length-append}
use lib.Seq.{take_at, set_at, drop-cons, drop-length, length-take-le}
use borrow.Rule.Slice.PartMut.{put_mid, Post-is, mid_len, mid_of}
use Rattle.words.specs.Words.{word}
use Rattle.listing.specs.Line.{hex8, cells}

pub hex8_length : (w : ℕ) → length (hex8 w) ≡ 8
unfolding hex8
hex8_length w = refl

module _ (w end at : ℕ) (line t : List ℕ) (fits : at + 9 ≤ length line) (digits8 : take 8 t ≡ hex8 w) where
  abbrev place : List ℕ
  place = mid_of at (at + 8 - at) line

  none : drop (length (hex8 w)) place ≡ []
  none =
      let e : length (hex8 w) ≡ length place = hex8_length w ∙ sym (mid_len at (at + 8) line (omega arith) ∙ (omega arith)) in
      ap (λ (n : ℕ). drop n place) e ∙ drop-length place

  -- the digits in their place of the line
  laid : put_mid at (at + 8 - at) line (take 8 t ++ drop (length (take 8 t)) place) ≡ (take at line ++ hex8 w) ++ (get_or line (at + 8) 0 ∷ drop (suc (at + 8)) line)
  laid = rw (digits8, none, Post-is at (at + 8) line (omega arith), drop-cons line (at + 8) 0 (omega arith)) (simp append_assoc)

  -- the cell in its place
  pub put_cell : set (put_mid at (at + 8 - at) line (take 8 t ++ drop (length (take 8 t)) place)) (at + 8) end ≡ take at line ++ (hex8 w ++ (end ∷ drop (at + 9) line))
  put_cell =
      let n : length (take at line ++ hex8 w) ≡ at + 8 = length-append (take at line) (hex8 w) ∙ (omega (arith, length-take-le at line (omega arith), hex8_length w)) in
      let s : suc (at + 8) ≡ at + 9 = omega arith in
      rw laid (set_at (take at line ++ hex8 w) _ _ end (at + 8) n ∙ append_assoc (take at line) (hex8 w) _ ∙ rw s)

-- the line's beginning, cell by cell
pub cells_none : (out : List ℕ) (i : ℕ) → [] ≡ cells out i 0
unfolding cells
cells_none out i = refl

pub cells_more : (out : List ℕ) (i c : ℕ) (line : List ℕ) → 9 * c + 9 ≤ length line → take (9 * c) line ≡ cells out i c
    → take (9 * (c + 1)) (take (9 * c) line ++ (hex8 (word out (1024 * c + 4 * i)) ++ (32 ∷ drop (9 * c + 9) line))) ≡ cells out i (c + 1)
unfolding cells
cells_more out i c line h p =
    let v = hex8 (word out (1024 * c + 4 * i)) in
    let q = take (9 * c) line ++ (v ++ (32 ∷ [])) in
    let n : length q ≡ 9 * (c + 1) = length-append (take (9 * c) line) (v ++ (32 ∷ []))
    ∙ (omega (arith, length-take-le (9 * c) line (omega arith), length-append v (32 ∷ []), hex8_length (word out (1024 * c + 4 * i)))) in
    let e : take (9 * c) line ++ (v ++ (32 ∷ drop (9 * c + 9) line)) ≡ q ++ drop (9 * c + 9) line = simp append_assoc in
    ap (take (9 * (c + 1))) e ∙ take_at q (drop (9 * c + 9) line) (9 * (c + 1)) n ∙ rw (p, add-one)

-- the last word and the line's end close it
pub line_whole : (out : List ℕ) (i : ℕ) (line : List ℕ) → length line ≡ 108 → take 99 line ≡ cells out i 11
    → take 99 line ++ (hex8 (word out (11264 + 4 * i)) ++ (10 ∷ drop 108 line)) ≡ cells out i 11 ++ (hex8 (word out (11264 + 4 * i)) ++ (10 ∷ []))
line_whole out i line n p =
    let d : drop 108 line ≡ [] = ap (λ (k : ℕ). drop k line) (sym n) ∙ drop-length line in
    rw (d, p)
