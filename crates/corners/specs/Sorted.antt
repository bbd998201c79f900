-- A hall whose speakers can be walked, who stands in it, and what `SortedSpeakers::of` answers: the channels of l, at the places sp, so that they can be walked. Assumes nothing.
use Rattle.std.specs.Prelude.{ℕ, ◌≤◌, ◌<◌, List}
use Rattle.vectors.specs.declared.Vec3.{Vec3}
use Rattle.corners.specs.declared.Axis.{Axis}
use Rattle.corners.specs.declared.Axis.TheVariants.{X, Y, Z}
use Rattle.corners.specs.declared.SortedSpeakers.{SortedSpeakers}
use Rattle.corners.specs.Axes.{along, channel_at, index_at, run_after}
use Rattle.corners.specs.EqualRuns.{Runs}
use Rattle.corners.specs.Walkable.{Walkable, StandAt}

-- from a up to b there are runs along an axis
abbrev pub RunsIn : Axis → SortedSpeakers → ℕ → ℕ → Type 0
RunsIn axis h a b = Runs (along axis h.speakers) (run_after axis h) a b × (a < b) × (b ≤ 12)

abbrev pub CanWalk : SortedSpeakers → Type 0
CanWalk h = Walkable (along X h.speakers) (along Y h.speakers) (along Z h.speakers) (index_at h.layers) (index_at h.rows) h.count

abbrev pub StandIn : (ℕ → Vec3) → List ℕ → SortedSpeakers → Type 0
StandIn sp l h = StandAt sp l (along X h.speakers) (along Y h.speakers) (along Z h.speakers) (channel_at h.speakers) h.count

pub record Sorted (sp : ℕ → Vec3) (l : List ℕ) (h : SortedSpeakers) : Type 0 where
  pub walk : CanWalk h
  pub stand : StandIn sp l h
