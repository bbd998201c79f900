-- The halls that making calls make are in their ranges, and fit to be panned in. Assumes nothing.
use mathlib.Core.Path.{◌≡◌, refl, ap, ap₂, ◌∙◌}
use mathlib.Core.Bool.{Bool, true, ◌&&◌}
use mathlib.Core.List.{List, [], ◌∷◌}
use Prim.Native.Nat.{ℕ, ◌≤◌}
use borrow.Author.Tests.{leb-true, eqb-true, le-leb, eq-eqb}
use lib.Dec.{T, eqb, leb}
use lib.ListN.{length}
use lib.Ieee.{fits, binary32}
use lib.Ieee.Bits.{to_bits-lt}
use lib.Ieee.Fits.{and_l, and_r}
use Rattle.words.specs.Words.{Bytes, Words}
use Rattle.words.proofs.Theorems.{run_small}
use Rattle.vectors.specs.declared.Vec3.{Vec3}
use Rattle.panning.specs.Speakers.{positions714}
use Rattle.panning.specs.Setup.{Setup, HallFits, table_place, all_inside, all_apart, table_right, table_of, built_in_table, hall_with}
use Rattle.panning.proofs.Theorems.{right_fits, built_in_right, right_parts}
use Rattle.panning.proofs.Setup.{fitting}
use Rattle.rules.specs.Refusals.{Found, clear, stop, ◌then◌, unless}
use Rattle.rules.specs.Making.{table_words, hall_of, layout_found, table_found}
use Rattle.rules.specs.Ranges.{HallRanged}
use Rattle.rules.proofs.Judged.{then_clear, unless_clear}
use Rattle.rules.proofs.Accepted.{both_clear, passed}

-- every hall in its ranges may be panned in
pub ranged_fits : {h : Setup} → HallRanged h → HallFits h
ranged_fits {h} r = right_fits r.layout r.right

-- ---- the built-in table
words_of : (vs : List Vec3) → T (fitting vs) → Words (table_of vs)
unfolding table_of
words_of [] h = tt
words_of (v ∷ vs) h =
    let yz = and_r (fits binary32 v.x) (fits binary32 v.y && (fits binary32 v.z && fitting vs)) h in
    let z = and_r (fits binary32 v.y) (fits binary32 v.z && fitting vs) yz in (
      to_bits-lt binary32 v.x (and_l (fits binary32 v.x) (fits binary32 v.y && (fits binary32 v.z && fitting vs)) h),
      (
        to_bits-lt binary32 v.y (and_l (fits binary32 v.y) (fits binary32 v.z && fitting vs) yz),
        (to_bits-lt binary32 v.z (and_l (fits binary32 v.z) (fitting vs) z), words_of vs (and_r (fits binary32 v.z) (fitting vs) z)),
      ),
    )

built_in_long : length built_in_table ≡ 36
unfolding table_of positions714
built_in_long = refl

built_in_words : Words built_in_table
unfolding positions714 fits
built_in_words = words_of positions714 tt

-- the hall of a layout up to 3
pub right_hall : (n : ℕ) → n ≤ 3 → HallRanged (hall_with n)
right_hall n h = record { layout = h; long = built_in_long; words = built_in_words; right = built_in_right }

-- ---- what the refusals leave
pub layout_clear : (n : ℕ) → layout_found n ≡ clear → n ≤ 3
layout_clear n e = leb-true n 3 (unless_clear (leb n 3) 15 0 0 e)

pub layout_good : (n : ℕ) → n ≤ 3 → layout_found n ≡ clear
layout_good n h = passed 15 0 0 (le-leb n 3 h)

-- a layout up to 3, 144 bytes, and a table that keeps the rules
pub record TableGood (n : ℕ) (t : List ℕ) : Type 0 where
  pub layout : n ≤ 3
  pub long : length t ≡ 144
  pub right : table_right (table_words t) ≡ true

pub table_clear : (n : ℕ) (t : List ℕ) → table_found n t ≡ clear → TableGood n t
table_clear n t e =
    let sp = table_place (table_words t) in
    let a = then_clear (layout_found n) (unless (eqb (length t) 144) 16 0 0 then (unless (all_inside sp) 17 0 0 then unless (all_apart sp) 18 0 0)) e in
    let b = then_clear (unless (eqb (length t) 144) 16 0 0) (unless (all_inside sp) 17 0 0 then unless (all_apart sp) 18 0 0) a.1 in
    let c = then_clear (unless (all_inside sp) 17 0 0) (unless (all_apart sp) 18 0 0) b.1 in
    record {
      layout = layout_clear n a.0;
      long = eqb-true (length t) 144 (unless_clear (eqb (length t) 144) 16 0 0 b.0);
      right = ap₂ (λ (x y : Bool). x && y) (unless_clear (all_inside sp) 17 0 0 c.0) (unless_clear (all_apart sp) 18 0 0 c.1);
    }

nothing_more : (v : Found) → (v then clear) ≡ v
nothing_more clear = refl
nothing_more (stop n x y) = refl

-- where 144 bytes are such a table, the layout alone is judged
pub as_layout : (n : ℕ) (t : List ℕ) → length t ≡ 144 → table_right (table_words t) ≡ true → table_found n t ≡ layout_found n
as_layout n t long right =
    let r = right_parts (table_words t) right in
    let rest = both_clear (passed 16 0 0 (eq-eqb (length t) 144 long)) (both_clear (passed 17 0 0 r.0) (passed 18 0 0 r.1)) in
    ap (λ (v : Found). layout_found n then v) rest ∙ nothing_more (layout_found n)

pub table_good : (n : ℕ) (t : List ℕ) → TableGood n t → table_found n t ≡ clear
table_good n t g = as_layout n t g.long g.right ∙ layout_good n g.layout

pub hall_good : (n : ℕ) (t : List ℕ) → Bytes t → TableGood n t → HallRanged (hall_of n t)
hall_good n t bytes g = record { layout = g.layout; long = refl; words = run_small t 0 36 bytes; right = g.right }

-- so a making call that nothing stops makes a hall in its ranges
pub layout_makes : (n : ℕ) → layout_found n ≡ clear → HallRanged (hall_with n)
layout_makes n e = right_hall n (layout_clear n e)

pub table_makes : (n : ℕ) (t : List ℕ) → Bytes t → table_found n t ≡ clear → HallRanged (hall_of n t)
table_makes n t bytes e = hall_good n t bytes (table_clear n t e)
