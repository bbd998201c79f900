-- The speakers of a hall by index: their places, their coordinates along an axis, and where the runs of equal ones end. Assumes nothing.
use Rattle.std.specs.Prelude.{ℕ, ◌+◌, List, get_or, Float}
use Rattle.std.specs.Float.{nan}
use Rattle.vectors.specs.declared.Vec3.{Vec3}
use Rattle.corners.specs.declared.Axis.{Axis}
use Rattle.corners.specs.declared.Axis.TheVariants.{X, Y, Z}
use Rattle.corners.specs.declared.Speaker.{Speaker}
use Rattle.corners.specs.declared.SortedSpeakers.{SortedSpeakers}

abbrev pub coordinate : Axis → Vec3 → Float
coordinate X v = v.x
coordinate Y v = v.y
coordinate Z v = v.z

-- what stands in an array
abbrev pub place_among : List Vec3 → ℕ → Vec3
place_among places i = get_or places i (record { x = nan; y = nan; z = nan })

abbrev pub speaker_at : List Speaker → ℕ → Speaker
speaker_at speakers i = get_or speakers i (record { channel = 0; place = record { x = nan; y = nan; z = nan } })

abbrev pub channel_at : List Speaker → ℕ → ℕ
channel_at speakers i = (speaker_at speakers i).channel

abbrev pub along : Axis → List Speaker → ℕ → Float
along axis speakers i = coordinate axis (speaker_at speakers i).place

abbrev pub index_at : List ℕ → ℕ → ℕ
index_at l i = get_or l i 0

-- where the run at i ends; along a row each speaker is a run
abbrev pub run_after : Axis → SortedSpeakers → ℕ → ℕ
run_after X h i = i + 1
run_after Y h i = index_at h.layers i
run_after Z h i = index_at h.rows i
