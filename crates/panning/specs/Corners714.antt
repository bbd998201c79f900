-- A reader may skip this file: how the code finds the corners in a hall, and those of the 7.1.4 hall, by its coordinates. The floor's rows are 4 and 5, 6 and 7, then 0, 2 and 1;
-- the ceiling's 10 and 11, then 8 and 9. That they are the corners of specs/Choice is `chosen_is` of proofs/Corners714. Assumes nothing.
use Rattle.std.specs.Prelude.{ℕ, ◌≡◌, true, false, cond, List, MatchOption, Float}
use Rattle.std.specs.declared.option.Option.{Option}
use Rattle.std.specs.Float.Ieee.{le, lt}
use Rattle.vectors.specs.declared.Vec3.{Vec3}
use Rattle.corners.specs.declared.Ends.{Ends}
use Rattle.corners.specs.declared.Layer.{Layer}
use Rattle.corners.specs.declared.Cube.{Cube}
use Rattle.corners.specs.Choice.{0·0}
use Rattle.corners.specs.declared.SortedSpeakers.{SortedSpeakers}
use Rattle.corners.specs.Axes.{place_among}
use Rattle.corners.specs.Sorted.{CanWalk, StandIn}
use Rattle.panning.specs.Speakers.{diagonal, surround, one, positions714}
use Rattle.panning.specs.Setup.{speakers_in}

-- a row of two speakers, at a and b
abbrev pub pair_ends : ℕ → ℕ → Float → Float → Float → Ends
pair_ends left right a b x = record { low = cond (le b x) right left; high = cond (lt a x) right left }

abbrev pub narrow_ends : ℕ → ℕ → Float → Ends
narrow_ends left right x = pair_ends left right (diagonal true) (diagonal false) x

abbrev pub wide_ends : ℕ → ℕ → Float → Ends
wide_ends left right x = pair_ends left right (one true) (one false) x

-- the floor's front row, with the centre
abbrev pub front_ends : Float → Ends
front_ends x = record {
  low = cond (le (diagonal false) x) 1 (cond (le 0·0 x) 2 0);
  high = cond (lt 0·0 x) 1 (cond (lt (diagonal true) x) 2 0);
}

abbrev pub floor_ends : Float → Float → Layer
floor_ends z x = record {
  front = cond (le (one true) z) (cond (le (surround true) z) (front_ends x) (wide_ends 6 7 x)) (narrow_ends 4 5 x);
  rear = cond (le (one false) z) (front_ends x) (cond (le (surround true) z) (wide_ends 6 7 x) (narrow_ends 4 5 x));
}

abbrev pub ceiling_ends : Float → Float → Layer
ceiling_ends z x = record {
  front = cond (le (one true) z) (wide_ends 8 9 x) (narrow_ends 10 11 x);
  rear = cond (le (surround false) z) (wide_ends 8 9 x) (narrow_ends 10 11 x);
}

abbrev pub cube714 : Vec3 → Cube
cube714 p = record {
  bottom = cond (le (one false) p.y) (ceiling_ends p.z p.x) (floor_ends p.z p.x);
  top = cond (le 0·0 p.y) (ceiling_ends p.z p.x) (floor_ends p.z p.x);
}

-- the corners in a hall of layout n: with no sorted speakers it is 7.1.4 with the built-in places, else these are its speakers
abbrev pub FoundBy : ℕ → List Vec3 → Option SortedSpeakers → Type 0
FoundBy n places o = MatchOption o ((n ≡ 0) × (places ≡ positions714)) (λ s. CanWalk s × ∥ StandIn (place_among places) (speakers_in n) s ∥₁)
