-- Tables of other halls, by their words: one that is accepted, and those that either rule refuses. Assumes nothing.
use mathlib.Core.Path.{◌≡◌, refl}
use mathlib.Core.Bool.{true, false}
use mathlib.Core.List.{List, [], ◌∷◌}
use Prim.Native.Nat.{ℕ}
use lib.ListN.{set}
use lib.Ieee.{binary32, fits, lt, le, eq, of_bits}
use Rattle.std.proofs.Common.{Some}
use Rattle.vectors.specs.declared.Vec3.{Vec3}
use Rattle.corners.specs.Choice.{0·0, layer, row_among}
use Rattle.corners.specs.Table.{between}
use Rattle.panning.specs.Speakers.{full_range}
use Rattle.panning.specs.Setup.{table_place, all_inside, all_apart, table_right}
use Rattle.panning.specs.declared.table.TableFault.TheVariants.{Coordinate, SamePlaces}
use Rattle.panning.specs.Fault.{fault_of}

-- three heights, 0, 1/2 and 1; channels 4 and 5 are one step apart along the hall, 10 and 11 across it, and 3 stands where 2 does
three_heights : List ℕ
three_heights =
    0xbf3504f3 ∷ 0x00000000 ∷ 0x3f800000 ∷
    0x3f3504f3 ∷ 0x00000000 ∷ 0x3f800000 ∷
    0x00000000 ∷ 0x00000000 ∷ 0x3f800000 ∷
    0x00000000 ∷ 0x00000000 ∷ 0x3f800000 ∷
    0xbf3504f3 ∷ 0x3f000000 ∷ 0xbf7fffff ∷
    0x3f3504f3 ∷ 0x3f000000 ∷ 0xbf800000 ∷
    0xbf800000 ∷ 0x3f000000 ∷ 0xbef7a627 ∷
    0x3f800000 ∷ 0x3f000000 ∷ 0xbef7a627 ∷
    0xbf800000 ∷ 0x3f800000 ∷ 0x3ef7a627 ∷
    0x3f800000 ∷ 0x3f800000 ∷ 0x3ef7a627 ∷
    0x00000000 ∷ 0x3f800000 ∷ 0xbf800000 ∷
    0x00000001 ∷ 0x3f800000 ∷ 0xbf800000 ∷ []

three_right : table_right three_heights ≡ true
unfolding three_heights all_inside all_apart between table_place of_bits fits lt le eq
three_right = refl

-- at the height 3/4 the layers are the middle one and the top, and the rear row of the middle one is channel 5 alone
above_middle : Vec3
above_middle = record { x = 0·0; y = of_bits binary32 0x3f400000; z = of_bits binary32 0xbf800000 }

three_layers : (layer false (table_place three_heights) above_middle full_range ≡ 4 ∷ 5 ∷ 6 ∷ 7 ∷ [])
    × (layer true (table_place three_heights) above_middle full_range ≡ 8 ∷ 9 ∷ 10 ∷ 11 ∷ [])
    × (row_among false (table_place three_heights) above_middle (4 ∷ 5 ∷ 6 ∷ 7 ∷ []) ≡ 5 ∷ [])
unfolding three_heights above_middle layer row_among table_place of_bits lt le eq
three_layers = (refl, refl, refl)

-- 17: the next f32 above 1, also in channel 3, and a NaN
beyond_one : fault_of (table_place (set three_heights 11 0x3f800001)) ≡ Some Coordinate
unfolding three_heights all_inside all_apart between table_place of_bits fits lt le eq
beyond_one = refl

no_number : fault_of (table_place (set three_heights 35 0x7fc00000)) ≡ Some Coordinate
unfolding three_heights all_inside all_apart between table_place of_bits fits lt le eq
no_number = refl

-- 18: channels 10 and 11 at one place, the one at 0 and the other at -0
same_places : fault_of (table_place (set three_heights 33 0x80000000)) ≡ Some SamePlaces
unfolding three_heights all_inside all_apart between table_place of_bits fits lt le eq
same_places = refl

-- both: 17
both_faults : fault_of (table_place (set (set three_heights 33 0x80000000) 11 0x3f800001)) ≡ Some Coordinate
unfolding three_heights all_inside all_apart between table_place of_bits fits lt le eq
both_faults = refl
