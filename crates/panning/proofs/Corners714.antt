-- The corners of the 7.1.4 hall are those of the choice, for a position of any floats. Along each axis the choice depends on a few tests of the position: it is computed for
-- each outcome of them. Assumes nothing.
use mathlib.Core.Path.{◌≡◌, refl, sym, ap, subst, fun_ext}
use mathlib.Core.Bool.{Bool, true, false, not, ◌&&◌, ◌||◌, cond}
use mathlib.Core.List.{List, [], ◌∷◌}
use Prim.Native.Nat.{ℕ, ◌+◌, ◌<◌, ◌≤◌}
use native.Mathlib.Omega.{arith}
use lib.Dec.{T, not_T, eqb, eqb→eq, leb}
use lib.Ieee.{Float, nan, inf, fin, binary32, fits, le, lt, eq}
use lib.Ieee.Fits.{and_i, and_l, and_r}
use Rattle.ieee.specs.Units.{F32, P, N}
use Rattle.ieee.proofs.Compare.{lt→, →lt, le→, eq→}
use Rattle.corners.proofs.Rising.{eq_finite}
use Rattle.vectors.specs.declared.Vec3.{Vec3}
use Rattle.corners.specs.Choice.{0·0, keep, every_of, or_list, first, ge, outermost, below, above, level, end, flank, layer, row_among, side, corner}
use Rattle.corners.specs.declared.Ends.{Ends}
use Rattle.corners.specs.Found.{side_of, row_of, layer_of, chosen}
use Rattle.panning.specs.Corners714.{pair_ends, narrow_ends, wide_ends, front_ends, floor_ends, ceiling_ends, cube714}
use Rattle.panning.specs.Speakers.{positions714, hall714, full_range, surround, one}

abbrev floor : List ℕ
floor = 0 ∷ 1 ∷ 2 ∷ 4 ∷ 5 ∷ 6 ∷ 7 ∷ []

abbrev ceiling : List ℕ
ceiling = 8 ∷ 9 ∷ 10 ∷ 11 ∷ []

-- the ends, by the outcomes g and e of the tests "up to the position" and "at the position"
abbrev end_by : Bool → (ℕ → Float) → (ℕ → Bool) → List ℕ → List ℕ
end_by false c g l = or_list (outermost le c (keep g l)) (outermost ge c (keep (λ k. not (g k)) l))
end_by true c g l = or_list (outermost ge c (keep (λ k. not (g k)) l)) (outermost le c (keep g l))

abbrev flank_by : Bool → (ℕ → Float) → (ℕ → Bool) → (ℕ → Bool) → List ℕ → List ℕ
flank_by false c g e l = end_by false c g l
flank_by true c g e l = or_list (keep e l) (end_by true c g l)

abbrev X : ℕ → Float
X k = (hall714 k).x

abbrev Y : ℕ → Float
Y k = (hall714 k).y

abbrev Z : ℕ → Float
Z k = (hall714 k).z

-- ---- height and depth
heights : (top a b : Bool) → end_by top Y (λ k. cond (leb 8 k) b a) full_range ≡ cond (cond top a b) ceiling floor
unfolding outermost keep every_of or_list hall714 positions714 le lt eq
heights false true true = refl
heights false true false = refl
heights false false true = refl
heights false false false = refl
heights true true true = refl
heights true true false = refl
heights true false true = refl
heights true false false = refl

-- a, b and c: the position has reached the rows of 4 and 5, of 6 and 7, of 0, 1 and 2
floor_rows : (front a b c : Bool) → end_by front Z (λ k. cond (leb k 2) c (cond (leb k 5) a b)) floor
    ≡ cond front (cond a (cond b (0 ∷ 1 ∷ 2 ∷ []) (6 ∷ 7 ∷ [])) (4 ∷ 5 ∷ [])) (cond c (0 ∷ 1 ∷ 2 ∷ []) (cond b (6 ∷ 7 ∷ []) (4 ∷ 5 ∷ [])))
unfolding outermost keep every_of or_list hall714 positions714 le lt eq
floor_rows false true true true = refl
floor_rows false true true false = refl
floor_rows false true false true = refl
floor_rows false true false false = refl
floor_rows false false true true = refl
floor_rows false false true false = refl
floor_rows false false false true = refl
floor_rows false false false false = refl
floor_rows true true true true = refl
floor_rows true true true false = refl
floor_rows true true false true = refl
floor_rows true true false false = refl
floor_rows true false true true = refl
floor_rows true false true false = refl
floor_rows true false false true = refl
floor_rows true false false false = refl

-- a and b: it has reached those of 10 and 11, of 8 and 9
ceiling_rows : (front a b : Bool) → end_by front Z (λ k. cond (leb k 9) b a) ceiling ≡ cond (cond front a b) (8 ∷ 9 ∷ []) (10 ∷ 11 ∷ [])
unfolding outermost keep every_of or_list hall714 positions714 le lt eq
ceiling_rows false true true = refl
ceiling_rows false true false = refl
ceiling_rows false false true = refl
ceiling_rows false false false = refl
ceiling_rows true true true = refl
ceiling_rows true true false = refl
ceiling_rows true false true = refl
ceiling_rows true false false = refl

-- ---- sides
-- a law of truth values that holds for all of them
all : (Bool → Bool) → Bool
all f = f true && f false

at_all : (f : Bool → Bool) → T (all f) → (b : Bool) → T (f b)
unfolding all
at_all f h true = and_l (f true) (f false) h
at_all f h false = and_r (f true) (f false) h

abbrev implies : Bool → Bool → Bool
implies true b = b
implies false b = true

implied : (a b : Bool) → T (implies a b) → T a → T b
implied true b h t = h
implied false b h t = absurd t

-- the position is past the coordinate (a), or at it (b), and not both; where it has reached the next one, it is past this one
abbrev exclusive : Bool → Bool → Bool
exclusive a b = not (a && b)

abbrev beyond : Bool → Bool → Bool → Bool
beyond a c d = implies (c || d) a

-- a row of two: past (a) or at (b) the left one, past (c) or at (d) the right one
abbrev pair_right : ℕ → ℕ → Bool → Bool → Bool → Bool → Bool
pair_right i j a b c d =
    let g : ℕ → Bool = λ k. cond (eqb k i) (a || b) (c || d) in
    let e : ℕ → Bool = λ k. cond (eqb k i) b d in
    implies (exclusive a b && (exclusive c d && beyond a c d))
    (eqb (first (flank_by false X g e (i ∷ j ∷ []))) (cond (c || d) j i) && eqb (first (flank_by true X g e (i ∷ j ∷ []))) (cond a j i))

abbrev pairs_right : ℕ → ℕ → Bool
pairs_right i j = all (λ a. all (λ b. all (λ c. all (pair_right i j a b c))))

record Pair (i j : ℕ) : Type 0 where
  left : F32 (X i)
  right : F32 (X j)
  order : T (lt (X i) (X j))
  right_all : T (pairs_right i j)

four : Pair 4 5 × Pair 6 7 × Pair 8 9 × Pair 10 11
unfolding all outermost keep every_of or_list first hall714 positions714 le lt eq fits
four = (
  record { left = record { fine = tt; fit = tt }; right = record { fine = tt; fit = tt }; order = tt; right_all = tt },
  record { left = record { fine = tt; fit = tt }; right = record { fine = tt; fit = tt }; order = tt; right_all = tt },
  record { left = record { fine = tt; fit = tt }; right = record { fine = tt; fit = tt }; order = tt; right_all = tt },
  record { left = record { fine = tt; fit = tt }; right = record { fine = tt; fit = tt }; order = tt; right_all = tt },
)

-- the row of three: past (a) or at (b) 0, past (c) or at (d) 2, past (e) or at (f) 1
abbrev three_right : Bool → Bool → Bool → Bool → Bool → Bool → Bool
three_right a b c d e f =
    let g : ℕ → Bool = λ k. cond (eqb k 0) (a || b) (cond (eqb k 1) (e || f) (c || d)) in
    let h : ℕ → Bool = λ k. cond (eqb k 0) b (cond (eqb k 1) f d) in
    implies (exclusive a b && (exclusive c d && (exclusive e f && (beyond a c d && beyond c e f))))
    (eqb (first (flank_by false X g h (0 ∷ 1 ∷ 2 ∷ []))) (cond (e || f) 1 (cond (c || d) 2 0)) && eqb (first (flank_by true X g h (0 ∷ 1 ∷ 2 ∷ []))) (cond c 1 (cond a 2 0)))

three : T (all (λ a. all (λ b. all (λ c. all (λ d. all (λ e. all (three_right a b c d e)))))))
unfolding all outermost keep every_of or_list first hall714 positions714 le lt eq
three = tt

-- ---- what the comparisons of floats say
imply : (a b : Bool) → (T a → T b) → T (implies a b)
imply true b h = h tt
imply false b h = tt

exclusive_at : (a v : Float) → F32 a → T (fits binary32 v) → T (exclusive (lt a v) (eq a v))
exclusive_at a v f w = not_T (lt a v && eq a v) (λ h. no (and_l (lt a v) (eq a v) h) (and_r (lt a v) (eq a v) h))
  where
    no : T (lt a v) → T (eq a v) → ⊥
    no l e = let g = eq_finite a v f w e in let i = lt→ a v f g l in let j = eq→ a v f g e in omega (arith, i, j)

past : (a b v : Float) → F32 a → F32 b → T (fits binary32 v) → T (lt a b) → T (le b v) → T (lt a v)
unfolding le lt eq
past nan b v f g w h k = absurd f.fine
past (inf s) b v f g w h k = absurd f.fine
past (fin s m e) nan v f g w h k = absurd g.fine
past (fin s m e) (inf t) v f g w h k = absurd g.fine
past (fin s m e) (fin t n d) nan f g w h k = absurd k
past (fin s m e) (fin t n d) (inf true) f g w h k = absurd k
past (fin s m e) (fin t n d) (inf false) f g w h k = tt
past (fin s m e) (fin t n d) (fin u o c) f g w h k =
    let i : F32 (fin u o c) = record { fine = tt; fit = w } in
    →lt (fin s m e) (fin u o c) f i (through (P (fin s m e)) (N (fin s m e)) (P (fin t n d)) (N (fin t n d)) (P (fin u o c)) (N (fin u o c)) (lt→ (fin s m e) (fin t n d) f g h)
    (le→ (fin t n d) (fin u o c) g i k))
  where
    through : (a a' b b' c c' : ℕ) → a + b' < b + a' → b + c' ≤ c + b' → a + c' < c + a'
    through a a' b b' c c' h k = omega arith

beyond_at : (a b v : Float) → F32 a → F32 b → T (fits binary32 v) → T (lt a b) → T (beyond (lt a v) (lt b v) (eq b v))
unfolding le
beyond_at a b v f g w h = imply (lt b v || eq b v) (lt a v) (past a b v f g w h)

-- ---- the sides of each row
centre : F32 (X 0) × F32 (X 2) × F32 (X 1) × T (lt (X 0) (X 2)) × T (lt (X 2) (X 1))
unfolding hall714 positions714 lt fits
centre = (record { fine = tt; fit = tt }, record { fine = tt; fit = tt }, record { fine = tt; fit = tt }, tt, tt)

record Sides (p : Vec3) (l : List ℕ) (e : Ends) : Type 0 where
  is : (right : Bool) → first (side right hall714 p l) ≡ side_of right e

module _ (p : Vec3) (w : T (fits binary32 p.x)) where
  abbrev past·0 : ℕ → Bool
  past·0 k = lt (X k) p.x

  abbrev at·0 : ℕ → Bool
  at·0 k = eq (X k) p.x

  module _ (i j : ℕ) (r : Pair i j) where
    abbrev sides : Bool → ℕ
    sides right = first (flank_by right X (λ k. cond (eqb k i) (le (X i) p.x) (le (X j) p.x)) (λ k. cond (eqb k i) (at·0 i) (at·0 j)) (i ∷ j ∷ []))

    both : T (eqb (sides false) (cond (le (X j) p.x) j i) && eqb (sides true) (cond (past·0 i) j i))
    unfolding le
    both =
        let a = past·0 i in
        let b = at·0 i in
        let c = past·0 j in
        let d = at·0 j in
        let t = at_all (pair_right i j a b c) (at_all (λ c. all (pair_right i j a b c))
        (at_all (λ b. all (λ c. all (pair_right i j a b c))) (at_all (λ a. all (λ b. all (λ c. all (pair_right i j a b c)))) r.right_all a) b) c) d in
        implied (exclusive a b && (exclusive c d && beyond a c d)) _ t
        (and_i (exclusive a b) _ (exclusive_at (X i) p.x r.left w)
        (and_i (exclusive c d) (beyond a c d) (exclusive_at (X j) p.x r.right w) (beyond_at (X i) (X j) p.x r.left r.right w r.order)))

    pair_is : (right : Bool) → sides right ≡ side_of right (pair_ends i j (X i) (X j) p.x)
    pair_is false = eqb→eq (sides false) _ (and_l (eqb (sides false) (cond (le (X j) p.x) j i)) _ both)
    pair_is true = eqb→eq (sides true) _ (and_r (eqb (sides false) (cond (le (X j) p.x) j i)) _ both)

  row_45 : Sides p (4 ∷ 5 ∷ []) (narrow_ends 4 5 p.x)
  unfolding side flank level end below above outermost keep every_of or_list first hall714 positions714
  row_45 = record {
    is = λ right. elim right as (λ b. first (side b hall714 p (4 ∷ 5 ∷ [])) ≡ side_of b (narrow_ends 4 5 p.x)) [
      | false ↦ pair_is 4 5 four.0 false
      | true ↦ pair_is 4 5 four.0 true
    ];
  }

  row_67 : Sides p (6 ∷ 7 ∷ []) (wide_ends 6 7 p.x)
  unfolding side flank level end below above outermost keep every_of or_list first hall714 positions714
  row_67 = record {
    is = λ right. elim right as (λ b. first (side b hall714 p (6 ∷ 7 ∷ [])) ≡ side_of b (wide_ends 6 7 p.x)) [ false ↦ pair_is 6 7 four.1 false | true ↦ pair_is 6 7 four.1 true ];
  }

  row_89 : Sides p (8 ∷ 9 ∷ []) (wide_ends 8 9 p.x)
  unfolding side flank level end below above outermost keep every_of or_list first hall714 positions714
  row_89 = record {
    is = λ right. elim right as (λ b. first (side b hall714 p (8 ∷ 9 ∷ [])) ≡ side_of b (wide_ends 8 9 p.x)) [ false ↦ pair_is 8 9 four.2 false | true ↦ pair_is 8 9 four.2 true ];
  }

  row_1011 : Sides p (10 ∷ 11 ∷ []) (narrow_ends 10 11 p.x)
  unfolding side flank level end below above outermost keep every_of or_list first hall714 positions714
  row_1011 = record {
    is = λ right. elim right as (λ b. first (side b hall714 p (10 ∷ 11 ∷ [])) ≡ side_of b (narrow_ends 10 11 p.x)) [
      | false ↦ pair_is 10 11 four.3 false
      | true ↦ pair_is 10 11 four.3 true
    ];
  }

  thirds : Bool → ℕ
  thirds right = first (flank_by right X (λ k. cond (eqb k 0) (le (X 0) p.x) (cond (eqb k 1) (le (X 1) p.x) (le (X 2) p.x)))
      (λ k. cond (eqb k 0) (at·0 0) (cond (eqb k 1) (at·0 1) (at·0 2))) (0 ∷ 1 ∷ 2 ∷ []))

  all_three : T (eqb (thirds false) (cond (le (X 1) p.x) 1 (cond (le (X 2) p.x) 2 0)) && eqb (thirds true) (cond (past·0 2) 1 (cond (past·0 0) 2 0)))
  unfolding le thirds
  all_three =
      let a = past·0 0 in
      let b = at·0 0 in
      let c = past·0 2 in
      let d = at·0 2 in
      let e = past·0 1 in
      let f = at·0 1 in
      let t = at_all (three_right a b c d e) (at_all (λ e. all (three_right a b c d e))
      (at_all (λ d. all (λ e. all (three_right a b c d e))) (at_all (λ c. all (λ d. all (λ e. all (three_right a b c d e))))
      (at_all (λ b. all (λ c. all (λ d. all (λ e. all (three_right a b c d e)))))
      (at_all (λ a. all (λ b. all (λ c. all (λ d. all (λ e. all (three_right a b c d e)))))) three a) b) c) d) e) f in
      implied (exclusive a b && (exclusive c d && (exclusive e f && (beyond a c d && beyond c e f)))) _ t
      (and_i (exclusive a b) _ (exclusive_at (X 0) p.x centre.0 w)
      (and_i (exclusive c d) _ (exclusive_at (X 2) p.x centre.1 w) (and_i (exclusive e f) _ (exclusive_at (X 1) p.x centre.2 w)
      (and_i (beyond a c d) (beyond c e f) (beyond_at (X 0) (X 2) p.x centre.0 centre.1 w centre.3)
      (beyond_at (X 2) (X 1) p.x centre.1 centre.2 w centre.4)))))

  row_012 : Sides p (0 ∷ 1 ∷ 2 ∷ []) (front_ends p.x)
  unfolding thirds side flank level end below above outermost keep every_of or_list first hall714 positions714
  row_012 = record {
    is = λ right. elim right as (λ b. first (side b hall714 p (0 ∷ 1 ∷ 2 ∷ [])) ≡ side_of b (front_ends p.x)) [
      | false ↦ eqb→eq (thirds false) _ (and_l (eqb (thirds false) (cond (le (X 1) p.x) 1 (cond (le (X 2) p.x) 2 0))) _ all_three)
      | true ↦ eqb→eq (thirds true) _ (and_r (eqb (thirds false) (cond (le (X 1) p.x) 1 (cond (le (X 2) p.x) 2 0))) _ all_three)
    ];
  }

  -- ---- the layers
  either : {k l : List ℕ} {e f : Ends} → Sides p k e → Sides p l f → (b : Bool) → Sides p (cond b k l) (cond b e f)
  either h i true = h
  either h i false = i

  moved : {k l : List ℕ} {e : Ends} → k ≡ l → Sides p l e → Sides p k e
  moved {e = e} q h = subst (λ (l : List ℕ). Sides p l e) (sym q) h

  floor_sides : (front : Bool) → Sides p (row_among front hall714 p floor) (row_of front (floor_ends p.z p.x))
  unfolding row_among end below above hall714 positions714
  floor_sides true =
      moved (floor_rows true (le (one true) p.z) (le (surround true) p.z) (le (one false) p.z))
      (either (either row_012 row_67 (le (surround true) p.z)) row_45 (le (one true) p.z))
  floor_sides false =
      moved (floor_rows false (le (one true) p.z) (le (surround true) p.z) (le (one false) p.z))
      (either row_012 (either row_67 row_45 (le (surround true) p.z)) (le (one false) p.z))

  ceiling_sides : (front : Bool) → Sides p (row_among front hall714 p ceiling) (row_of front (ceiling_ends p.z p.x))
  unfolding row_among end below above hall714 positions714
  ceiling_sides true = moved (ceiling_rows true (le (one true) p.z) (le (surround false) p.z)) (either row_89 row_1011 (le (one true) p.z))
  ceiling_sides false = moved (ceiling_rows false (le (one true) p.z) (le (surround false) p.z)) (either row_89 row_1011 (le (surround false) p.z))

  layer_sides : (b front : Bool) → Sides p (row_among front hall714 p (cond b ceiling floor)) (row_of front (cond b (ceiling_ends p.z p.x) (floor_ends p.z p.x)))
  layer_sides true = ceiling_sides
  layer_sides false = floor_sides

  cube_sides : (top front : Bool) → Sides p (row_among front hall714 p (layer top hall714 p full_range)) (row_of front (layer_of top (cube714 p)))
  unfolding layer end below above hall714 positions714
  cube_sides true front = moved (ap (row_among front hall714 p) (heights true (le 0·0 p.y) (le (one false) p.y))) (layer_sides (le 0·0 p.y) front)
  cube_sides false front = moved (ap (row_among front hall714 p) (heights false (le 0·0 p.y) (le (one false) p.y))) (layer_sides (le (one false) p.y) front)

  pub chosen_is : chosen (cube714 p) ≡ corner hall714 full_range p
  unfolding corner
  chosen_is = fun_ext (λ c. sym ((cube_sides c.top c.front).is c.right))
