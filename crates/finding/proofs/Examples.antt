-- Masks that are found, in the 7.1.4 hall with the built-in table. Assumes nothing.
use mathlib.Core.Path.{◌≡◌, refl, sym, ap, ◌∙◌}
use mathlib.Core.Logic.{inl, inr}
use Prim.Native.Nat.{ℕ, zero, suc, ◌≤◌, ◌<◌}
use lib.Ieee.{of_bits, to_bits, add, sub, mul, div, eq, ne, le, lt, fits, neg, round, of_int, binary32}
use Rattle.ieee.specs.Units.{mag}
use Rattle.roots.specs.Root.{root, root_units, digits, floor_root}
use Rattle.corners.specs.Choice.{keep, every_of, or_list, first, outermost, below, above, level, end, flank, layer, row_among, side, corner}
use Rattle.panning.specs.Terms.{ratio, up, ahead, across, row_weight, coefficient, inner_gain, extra, panned, audible, paired, on_channel}
use Rattle.panning.specs.Speakers.{positions714}
use Rattle.panning.specs.Setup.{table_place, table_of, present, speakers_in, divisor_in, hall_with, terms_in}
use Rattle.panning.specs.Sounding.{terms_bits}
use Rattle.corners.specs.Choice.{0·0, 1·0}
use Rattle.std.specs.Prelude.{Some, None}
use Rattle.panning.proofs.Theorems.{hall_fits}
use Rattle.finding.specs.Search.{mask_at, search}
use Rattle.finding.proofs.Masks.{mask_is}
use Rattle.finding.proofs.Grids.{searched}
use Rattle.finding.proofs.Sets.{position, never_found}
use native.Mathlib.Omega.{arith}
use lib.Dec.{T, lit<, lit≤}
use Rattle.finding.specs.Grid.{Spot, spot_place, across_at, up_at}

-- where the spot (0, 0, i) is: the lowest height, the rearmost depth
abbrev rear : ℕ → Spot
rear i = record { y = 0; z = 0; x = i }

-- what sounds there: channel 4 alone up to x = -0.71875, channels 4 and 5 at x = -0.6875
abbrev heard : ℕ → ℕ
heard i = terms_bits (terms_in (hall_with 0) (spot_place (rear i)) 1·0 0·0)

heard_there : (heard 0 ≡ 16) × (heard 1 ≡ 16) × (heard 2 ≡ 16) × (heard 3 ≡ 16) × (heard 4 ≡ 16) × (heard 5 ≡ 16) × (heard 6 ≡ 16) × (heard 7 ≡ 16) × (heard 8 ≡ 16)
    × (heard 9 ≡ 16) × (heard 10 ≡ 48)
unfolding of_bits to_bits add sub mul div eq ne le lt fits neg round of_int mag root root_units digits floor_root keep every_of or_list first outermost below above level end flank
    layer row_among side corner ratio up ahead across row_weight coefficient inner_gain extra panned audible paired on_channel positions714 table_place table_of present speakers_in
    divisor_in terms_bits across_at up_at
heard_there = (refl, refl, refl, refl, refl, refl, refl, refl, refl, refl, refl)

-- so the rear pair, channels 4 and 5, is found at (-0.6875, 0, -1), where no spot before has it
pub pair_found : search (hall_with 0) 0x030 ≡ Some (record { x = of_bits binary32 0xbf300000; y = 0·0; z = of_bits binary32 0xbf800000 })
unfolding of_bits across_at up_at sub div round of_int fits
pair_found = (searched (hall_with 0) 0x030).first (rear 10) (record {
  on = record { y = lit< tt; z = lit< tt; x = lit< tt };
  exact = sym (mask_is (hall_with 0) (hall_fits 0 (lit≤ tt)) (spot_place (rear 10)) (position (rear 10))) ∙ heard_there.10;
  first = λ t g w. elim w [
    | inl y ↦ absurd (omega (arith, y))
    | inr v ↦ elim v.1 [
      | inl z ↦ absurd (omega (arith, z))
      | inr u ↦ λ e. not_pair t.x u.1 (mask_is (hall_with 0) (hall_fits 0 (lit≤ tt)) (spot_place (rear t.x)) (position (rear t.x)) ∙ sym (there t v.0 u.0) ∙ e)
    ]
  ];
})
  where
    there : (t : Spot) → t.y ≡ 0 → t.z ≡ 0 → mask_at (hall_with 0) (spot_place t) ≡ mask_at (hall_with 0) (spot_place (rear t.x))
    there t y z = ap (λ (j : ℕ). mask_at (hall_with 0) (spot_place (record { y = j; z = t.z; x = t.x }))) y
        ∙ ap (λ (k : ℕ). mask_at (hall_with 0) (spot_place (record { y = 0; z = k; x = t.x }))) z

    other : {n : ℕ} → n ≡ 16 → n ≡ 48 → ⊥
    other a b = omega (arith, a, b)

    not_pair : (i : ℕ) → i < 10 → heard i ≡ 48 → ⊥
    not_pair zero h e = other heard_there.0 e
    not_pair (suc zero) h e = other heard_there.1 e
    not_pair (suc (suc zero)) h e = other heard_there.2 e
    not_pair (suc (suc (suc zero))) h e = other heard_there.3 e
    not_pair (suc (suc (suc (suc zero)))) h e = other heard_there.4 e
    not_pair (suc (suc (suc (suc (suc zero))))) h e = other heard_there.5 e
    not_pair (suc (suc (suc (suc (suc (suc zero)))))) h e = other heard_there.6 e
    not_pair (suc (suc (suc (suc (suc (suc (suc zero))))))) h e = other heard_there.7 e
    not_pair (suc (suc (suc (suc (suc (suc (suc (suc zero)))))))) h e = other heard_there.8 e
    not_pair (suc (suc (suc (suc (suc (suc (suc (suc (suc zero))))))))) h e = other heard_there.9 e
    not_pair (suc (suc (suc (suc (suc (suc (suc (suc (suc (suc i)))))))))) h e = absurd (omega (arith, h))

-- and in layout 1, which has neither, it is not found; nor is the bass channel in any hall
no_rear : T (present 1 4) → ⊥
unfolding present every_of
no_rear t = t

pub pair_absent : search (hall_with 1) 0x030 ≡ None
pair_absent = (never_found (hall_with 1) (hall_fits 1 (lit≤ tt))).absent 0x030 4 (lit< tt) refl no_rear

pub bass_absent : (n : ℕ) → n ≤ 3 → search (hall_with n) 0x008 ≡ None
bass_absent n h = (never_found (hall_with n) (hall_fits n h)).bass 0x008 refl
