-- Document 02, R-5: "5.1.4 lacks channels 4 and 5, 7.1.0 lacks the four top channels, 5.1.0 lacks both groups". Such a channel has no samples: among its places for pending
-- samples in the block no call changes a byte, whatever stands there, but one that fills the block anew. Assumes nothing.
use Rattle.std.specs.Prelude.{ℕ, ◌+◌, ◌*◌, ◌<◌, ◌≡◌, false, List, get_or}
use Rattle.words.specs.Words.{Bytes}
use Rattle.formats.specs.Areas.{row_count, row_bytes}
use Rattle.panning.specs.Setup.{present}
use Rattle.rules.specs.Absent.{starts_anew}
use Rattle.rules.specs.Calls.{Call}
use Rattle.rules.specs.BlockCalls.{made}
use Rattle.rules.specs.Demand3.{Lent}
use Rattle.store.specs.Layout.{places_at, layout_of}
use Rattle.theorem.specs.Instance.{hall, block}

-- byte k of channel c's places is in d as in b
abbrev pub SameByte : List ℕ → List ℕ → ℕ → ℕ → Type 0
SameByte b d c k = let at = places_at + row_bytes * c + k in get_or d at 0 ≡ get_or b at 0

-- on a block of any bytes, accepted or refused
abbrev pub AbsentKept : Type 0
AbsentKept =
    (b : List ℕ) → Bytes b → (call : Call) → Lent call → starts_anew call ≡ false
    → (c k : ℕ) → c < row_count → present (layout_of b) c ≡ false → k < row_bytes → SameByte b (made hall block call b).state c k
