-- What the host passes and gets, in the words of the rules. Assumes nothing.
use Rattle.std.specs.Prelude.{ℕ, ◌<◌, ◌≡◌, true, List, length, Result, Ok, Err}
use Rattle.limiter.specs.Limiter.{0·0, 1·0}
use Rattle.limiter.specs.declared.meters.Meters.{Meters}
use Rattle.rules.specs.Refusals.{room}
use Rattle.rules.specs.Calls as rules
use Rattle.rules.specs.Samples.{After}
use Rattle.rules.specs.Calls.{refused, rendered, nothing, cleared, marked, place, answered}
use Rattle.theorem.specs.Instance.{hall}
use Rattle.rules.specs.BlockCalls as block
use Rattle.rules.specs.BlockCalls.{written}
use Rattle.refusals.specs.RefusalNumbers.{numbers_of}
use Rattle.refusals.specs.declared.Refusal.{Refusal}
use Rattle.words.specs.Words.{words_at}
use Rattle.store.specs.declared.renderer.Renderer714.{Renderer714}
use Rattle.store.specs.Fields.{small_of}
use Rattle.store.specs.Layout.{small_width, encode}
use Rattle.store.specs.ValidBlocks.{valid}
use Rattle.hall.specs.declared.answer.Answer.{Answer}
use Rattle.hall.specs.declared.answer.Given.{Given}
use Rattle.hall.specs.declared.answer.Outcome.{Outcome}
use Rattle.hall.specs.declared.answer.Outcome.TheVariants.{Ready, Nothing, Fresh, Marked}

-- "`ready N`": so many samples given out on each channel that is there; R-2: "the greatest peak and the least gain of the call"
abbrev pub ready_of : ℕ → Meters → Answer
ready_of n m = record { kind = 0; number = 0; first = 0; second = 0; ready = n; peak = m.peak; gain = m.gain }

-- an answer that gives nothing out: its meters "are 0 and 1"
abbrev pub bare : ℕ → ℕ → ℕ → ℕ → Answer
bare kind n a b = record { kind = kind; number = n; first = a; second = b; ready = 0; peak = 0·0; gain = 1·0 }

-- "A refusal gives its number and two counts"
abbrev pub code_of : rules.Answer → Answer
code_of (rendered given m) = ready_of (length (given 0)) m
code_of (refused n a b) = bare 1 n a b
code_of nothing = bare 2 0 0 0
code_of cleared = bare 3 0 0 0
code_of (marked c) = bare 3 0 0 0
-- a search answers in a form of its own: `place_of` of specs/Places
code_of (place p) = bare 3 0 0 0

-- the interface's number: it steps with every change of the block's layout or of a signature
abbrev pub version : ℕ
version = 7

abbrev pub given_as : Given → Answer
given_as g = ready_of g.samples g.meters

-- what an entry answers, as C reads it
abbrev pub coded : Result Outcome Refusal → Answer
coded (Ok (Ready g)) = given_as g
coded (Ok Nothing) = bare 2 0 0 0
coded (Ok Fresh) = bare 3 0 0 0
coded (Ok Marked) = bare 3 0 0 0
coded (Err r) = let n = numbers_of r in bare 1 n.number n.first n.second

-- an entry left what the rules say: the answer, the state block, the output
pub record Left (o : block.Outcome) (r : Answer) (state out : List ℕ) : Type 0 where
  pub answer : r ≡ code_of o.answer
  pub block : state ≡ o.state
  pub output : out ≡ o.out

-- a making call, a reset, a hold or a release left what the rules say: the answer and the state block. No output is lent.
pub record MadeNew (o : block.Outcome) (r : Answer) (state : List ℕ) : Type 0 where
  pub answer : r ≡ code_of o.answer
  pub block : state ≡ o.state

-- The renderer's part of the block, and the output, after what the rules say that a push or a flush leaves and gives out: d; what waits stands behind that part, and stays.
pub record Worked (d : After hall) (stride : ℕ) (r : Answer) (state out out' : List ℕ) : Type 0 where
  pub answer : r ≡ code_of (answered hall d)
  pub block : state ≡ encode d.next
  pub output : out' ≡ written d.given stride out

-- ---- what is known when the work begins

-- s is the small part of the valid block b
pub record Loaded (s : Renderer714) (b : List ℕ) : Type 0 where
  pub small : s ≡ small_of (words_at b 0 small_width)
  pub valid : valid b ≡ true

-- samples wait, and the output has room
pub record Waiting (s : Renderer714) (b out : List ℕ) (stride : ℕ) : Type 0 where
  pub loaded : Loaded s b
  pub room : room stride (length out) ≡ true
  pub some : 0 < s.pending
