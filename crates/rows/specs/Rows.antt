-- A row: calls in turn, each with what the host sees of it. `Holds`: that is what it sees by the definitions alone, with no block and no code. Assumes nothing.
use Rattle.std.specs.Prelude.{ℕ, zero, suc, ◌+◌, ◌*◌, ◌≡◌, Bool, List, [], ◌∷◌, map, length, Option, Some, None}
use Rattle.std.specs.Float.{binary32}
use Rattle.std.specs.Float.Ieee.{to_bits}
use Rattle.vectors.specs.declared.Vec3.{Vec3}
use Rattle.words.specs.Words.{word}
use Rattle.rules.specs.Samples.{hall_with, State, fresh}
use Rattle.rules.specs.Calls.{Call, Answer, refused, rendered, nothing, cleared, marked, place}
use Rattle.rules.specs.BlockCalls.{Seen, stride_of, told}
use Rattle.theorem.specs.Instance.{hall, block}

-- ---- what is seen of a call

pub data Said : Type 0 where
  -- a refusal: its number and two counts
  refusal : ℕ → ℕ → ℕ → Said
  -- the ready samples, each with the words of the twelve channels
  ready : List (List ℕ) → Said
  -- a flush with nothing pending
  none : Said
  -- a reset, or a renderer made
  renewed : Said
  -- a hold or a release: whether it changed anything
  noted : Bool → Said
  -- a search: the words of the place, or that there is none
  found : ℕ → ℕ → ℕ → Said
  nowhere : Said

-- the words of an output at sample i, on the n channels from c on
abbrev pub words_on : ℕ → ℕ → ℕ → ℕ → List ℕ → List ℕ
words_on zero c stride i out = []
words_on (suc n) c stride i out = word out (4 * (c * stride + i)) ∷ words_on n (suc c) stride i out

-- the words of all twelve channels, at the n samples from i on
abbrev pub samples_on : ℕ → ℕ → ℕ → List ℕ → List (List ℕ)
samples_on zero i stride out = []
samples_on (suc n) i stride out = words_on 12 0 stride i out ∷ samples_on n (suc i) stride out

abbrev pub said_place : Option Vec3 → Said
said_place (Some p) = found (to_bits binary32 p.x) (to_bits binary32 p.y) (to_bits binary32 p.z)
said_place None = nowhere

-- from an answer, the call's stride, and the output after the call
abbrev pub said : Answer → ℕ → List ℕ → Said
said (refused n a b) stride out = refusal n a b
said (rendered g m) stride out = ready (samples_on (length (g 0)) 0 stride out)
said nothing stride out = none
said cleared stride out = renewed
said (marked c) stride out = noted c
said (place p) stride out = said_place p

-- call after call
abbrev pub all_said : List Call → List (Seen hall block) → List Said
all_said [] ss = []
all_said (c ∷ cs) [] = []
all_said (c ∷ cs) (s ∷ ss) = said s.answer (stride_of c) s.out ∷ all_said cs ss

-- ---- rows

-- a call, and what is said to be seen of it
pub record Turn : Type 0 where
  pub call : Call
  pub says : Said

infix 70 ◌⇒◌
abbrev pub ◌⇒◌ : Call → Said → Turn
c ⇒ s = record { call = c; says = s }

pub record Row : Type 0 where
  -- the stream's position before the first call; all else is as the making call of layout 0 leaves it
  pub start : ℕ
  pub turns : List Turn

-- a new renderer of layout 0, but for the stream's position
abbrev pub starting_at : ℕ → State hall
starting_at n =
    let r = fresh hall (hall_with 0) in
    record {
      setup = r.setup;
      rate = r.rate;
      clock = record { position = n; phase = r.clock.phase; start = r.clock.start };
      limiter = r.limiter;
      filter = r.filter;
      meta = r.meta;
      pending = r.pending;
      waits = r.waits;
    }

abbrev pub calls : Row → List Call
calls r = map (λ (t : Turn). t.call) r.turns

-- what the row says
abbrev pub says : Row → List Said
says r = map (λ (t : Turn). t.says) r.turns

-- what the rules have the host see
abbrev pub seen : Row → List Said
seen r = all_said (calls r) (told hall block (starting_at r.start) (calls r))

abbrev pub Holds : Row → Type 0
Holds r = seen r ≡ says r
