-- What an update makes of the infos: `apply_parsed_update` for each object in each block. An info is as in timed/specs/InfoSizes. Assumes nothing.
use Rattle.std.specs.Prelude.{ℕ, ◌+◌, ◌*◌, Bool, List, ltb}
use Rattle.timed.specs.Turns.{times}
use Rattle.timed.specs.InfoSizes.{most_blocks, info_at}
use Rattle.info.specs.Written.{with_info}
use Rattle.updates.specs.Said.{Element}

abbrev pub info_given : Bool → Bool → Element → ℕ → ℕ → ℕ → List ℕ → List ℕ
info_given fresh bed x first o b is = with_info fresh bed (x.info o b) (info_at (first + b)) is

-- object o in each block; its infos are those from `first` on
unfoldable pub object_stored : Bool → Bool → Element → ℕ → ℕ → List ℕ → List ℕ
unfolding times with_info
object_stored fresh bed x first o is = times x.blocks 0 (info_given fresh bed x first o) is

abbrev pub object_given : Bool → ℕ → Element → ℕ → ℕ → List ℕ → List ℕ
object_given fresh isf x first o is = object_stored fresh (ltb o isf) x (first + most_blocks * o) o is

-- n objects, the first `isf` of them beds or ISF; the infos are those from `first` on
unfoldable pub objects_stored : Bool → ℕ → Element → ℕ → ℕ → List ℕ → List ℕ
unfolding times object_stored
objects_stored fresh isf x first n is = times n 0 (object_given fresh isf x first) is
