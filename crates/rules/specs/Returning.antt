-- How soon the level returns, over calls in a row. Document 02, R-8: "from any limiter gain from 0 to 1, floor(rate / 64) + 2 completed blocks of 64 in a row, in none of which
-- p × g > 1, end with gain exactly 1." The blocks are those that accepted pushes complete; between them may stand refused calls, flushes that say none, holds, releases and
-- searches. Assumes nothing.
use Rattle.std.specs.Prelude.{ℕ, ◌≡◌, Bool, true, false, ◌||◌, List, [], ◌∷◌, ◌++◌, T, map, Float}
use Rattle.words.specs.Words.{Bytes}
use Rattle.limiter.specs.Limiter.{1·0}
use Rattle.limiter.specs.Return.{ZeroToOne, after_blocks, Quiet, Enough}
use Rattle.limiter.specs.declared.meters.Meters.{Meters}
use Rattle.rules.specs.Leaves.{Leaves}
use Rattle.rules.specs.Samples.{State, pushed}
use Rattle.rules.specs.Refusals.{Args, Found, clear, stop}
use Rattle.rules.specs.Calls.{Call, push, flush, reset, make, make_with, mark, find, Answer, refused, rendered, nothing, cleared, marked, place, frame_of, found, step, final}
use Rattle.rules.specs.BlockCalls.{Layout, final_on}
use Rattle.rules.specs.Demand3.{AllLent}

abbrev pub peaks : List Meters → List Float
peaks ms = map (λ (m : Meters). m.peak) ms

-- refused, a flush that says none, a hold, a release, a search
abbrev pub is_idle : Answer → Bool
is_idle (refused n a b) = true
is_idle (rendered rs m) = false
is_idle nothing = true
is_idle cleared = false
is_idle (marked c) = true
is_idle (place p) = true

abbrev pub is_push : Call → Bool
is_push (push a) = true
is_push (flush out stride) = false
is_push reset = false
is_push (make n) = false
is_push (make_with n t) = false
is_push (mark w d) = false
is_push (find m) = false

module _ (L : Leaves) where
  -- the peaks of the blocks of 64 that a push completes; none where it is refused
  abbrev pub pushes_blocks : Found → State L → Args → List Float
  pushes_blocks (stop n x y) r a = []
  pushes_blocks clear r a = peaks (pushed L (frame_of L r a) r).meters

  abbrev pub completed : State L → Call → List Float
  completed r (push a) = pushes_blocks (found L r a) r a
  completed r (flush out stride) = []
  completed r reset = []
  completed r (make n) = []
  completed r (make_with n t) = []
  completed r (mark w d) = []
  completed r (find m) = []

  -- of calls in a row, each handed what the one before left
  abbrev pub all_completed : State L → List Call → List Float
  all_completed r [] = []
  all_completed r (c ∷ cs) = completed r c ++ all_completed (step L r c).next cs

  -- no reset, no making call and no flush of waiting samples, but where it is refused: "its shorter block is not one of 64"
  abbrev pub Unbroken : State L → List Call → Type 0
  Unbroken r [] = Unit {0}
  Unbroken r (c ∷ cs) = T (is_push c || is_idle (step L r c).answer) × Unbroken (step L r c).next cs

  -- the last blocks that they complete are quiet and enough, whatever those before them; the gain that the first of the last finds is what these leave
  pub record QuietRow (r : State L) (cs : List Call) : Type 0 where
    pub unbroken : Unbroken r cs
    pub earlier : List Float
    pub last : List Float
    pub blocks : all_completed r cs ≡ earlier ++ last
    pub enough : Enough (final L r cs).rate last
    pub quiet : Quiet (final L r cs).rate (after_blocks (final L r cs).rate r.limiter.gain earlier) last

  -- of any renderer, its other fields of any values
  abbrev pub LevelReturns : Type 0
  LevelReturns = (r : State L) → ZeroToOne r.limiter.gain → (cs : List Call) → QuietRow r cs → (final L r cs).limiter.gain ≡ 1·0

  -- of any block in its ranges, one that the host hands in too: the gain in the block that the calls leave
  abbrev pub LevelReturnsOn : Layout L → Type 0
  LevelReturnsOn B =
      (b : List ℕ) → Bytes b → B.valid b ≡ true → ZeroToOne (B.decode b).limiter.gain → (cs : List Call) → AllLent cs → QuietRow (B.decode b) cs
      → (B.decode (final_on L B b cs)).limiter.gain ≡ 1·0
