-- A part of a list put through a function that keeps its length: outside the part nothing changes. Assumes nothing.
use mathlib.Core.Path.{◌≡◌, sym, ap, ◌∙◌}
use mathlib.Core.List.{List, ◌++◌}
use Prim.Native.Nat.{ℕ, ◌+◌, ◌-◌, ◌<◌, ◌≤◌}
use native.Mathlib.Omega.{arith}
use lib.ListN.{length, get_or, take, drop, length-append, length-drop, take-append-drop, get_or-append}
use lib.Seq.{get_or-append-add, get_or-take, get_or-drop, length-take-le, drop_at, take_at, drop-drop, drop-append-le, take-append-le}
use Rattle.mixing.specs.Part.{on_part}

-- a part from b to b + n that came back as ys
pub part_back : {A : Type 0} (f : List A → List A) (b n : ℕ) (os ys : List A) → ys ≡ f (take (b + n - b) (drop b os))
    → take b os ++ (ys ++ drop (b + n - b) (drop b os)) ≡ on_part f b n os
unfolding on_part
part_back f b n os ys e =
    let m : b + n - b ≡ n = omega arith in
    rw e (rw m)

module _ {A : Type 0} (f : List A → List A) (keeps : (xs : List A) → length (f xs) ≡ length xs) (b n : ℕ) (os : List A) (h : b + n ≤ length os) where
  mid : List A
  mid = f (take n (drop b os))

  long : length mid ≡ n
  unfolding mid
  long = keeps (take n (drop b os)) ∙ length-take-le n (drop b os) (rw length-drop (omega arith))

  front : length (take b os) ≡ b
  front = length-take-le b os (omega arith)

  pub length_part : length (on_part f b n os) ≡ length os
  unfolding on_part mid
  length_part =
      let l = long in
      let m = front in
      rw (length-append, length-append, length-drop, length-drop) (omega arith)

  -- the part itself, and another before or after it
  pub part_same : take n (drop b (on_part f b n os)) ≡ f (take n (drop b os))
  unfolding on_part mid
  part_same =
      ap (take n) (drop_at (take b os) (mid ++ drop n (drop b os)) b front) ∙ take_at mid (drop n (drop b os)) n long

  pub part_earlier : (a m : ℕ) → a + m ≤ b → take m (drop a (on_part f b n os)) ≡ take m (drop a os)
  unfolding on_part
  part_earlier a m l = ahead _ ∙ sym (ahead (drop b os)) ∙ ap (λ (t : List A). take m (drop a t)) (take-append-drop b os)
    where
      ahead : (ys : List A) → take m (drop a (take b os ++ ys)) ≡ take m (drop a (take b os))
      ahead ys =
          let e = front in
          ap (take m) (drop-append-le a (take b os) ys (omega arith)) ∙ take-append-le m (drop a (take b os)) ys (rw length-drop (omega arith))

  rest : drop (b + n) (on_part f b n os) ≡ drop (b + n) os
  unfolding on_part mid
  rest =
      sym (drop-drop n b (on_part f b n os))
      ∙ ap (drop n) (drop_at (take b os) (mid ++ drop n (drop b os)) b front)
      ∙ drop_at mid (drop n (drop b os)) n long
      ∙ drop-drop n b os

  pub part_later : (a m : ℕ) → b + n ≤ a → take m (drop a (on_part f b n os)) ≡ take m (drop a os)
  part_later a m l = ap (take m) (past (on_part f b n os) ∙ ap (drop (a - (b + n))) rest ∙ sym (past os))
    where
      past : (xs : List A) → drop a xs ≡ drop (a - (b + n)) (drop (b + n) xs)
      past xs =
          let e : b + n + (a - (b + n)) ≡ a = omega arith in
          rw (drop-drop, e)

  -- before the part
  pub part_before : (i : ℕ) (d : A) → i < b → get_or (on_part f b n os) i d ≡ get_or os i d
  unfolding on_part
  part_before i d l = let m = front in get_or-append (take b os) _ d i (omega arith) ∙ get_or-take b os i d l

  -- within it
  pub part_within : (i : ℕ) (d : A) → i < n → get_or (on_part f b n os) (b + i) d ≡ get_or (f (take n (drop b os))) i d
  unfolding on_part mid
  part_within i d l =
      let m = long in
      ap (λ (k : ℕ). get_or (on_part f b n os) (k + i) d) (sym front)
      ∙ get_or-append-add (take b os) _ i d
      ∙ get_or-append (f (take n (drop b os))) _ d i (omega arith)

  -- past it
  pub part_past : (i : ℕ) (d : A) → get_or (on_part f b n os) (b + (n + i)) d ≡ get_or os (b + (n + i)) d
  unfolding on_part mid
  part_past i d =
      ap (λ (k : ℕ). get_or (on_part f b n os) (k + (n + i)) d) (sym front)
      ∙ get_or-append-add (take b os) _ (n + i) d
      ∙ ap (λ (k : ℕ). get_or (mid ++ drop n (drop b os)) (k + i) d) (sym long)
      ∙ get_or-append-add mid _ i d
      ∙ get_or-drop n (drop b os) i d
      ∙ get_or-drop b os (n + i) d
