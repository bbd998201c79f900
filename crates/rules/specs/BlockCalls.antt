-- The calls as the host makes them, on the bytes of a state block. Assumes nothing.
use Rattle.std.specs.Prelude.{ℕ, zero, suc, ◌*◌, Bool, ◌&&◌, cond, List, [], ◌∷◌, map, eqb, length}
use Rattle.std.specs.Float.{binary32}
use Rattle.std.specs.Float.Ieee.{to_bits}
use Rattle.words.specs.Words.{with_words}
use Rattle.rules.specs.Parts.{Channels}
use Rattle.rules.specs.Leaves.{Leaves}
use Rattle.rules.specs.Samples.{State}
use Rattle.rules.specs.Calls.{Call, push, flush, reset, make, make_with, mark, find, Answer, refused, rendered, nothing, cleared, marked, place, is_refused, step}

-- The block's layout: how long it is, which blocks have every field in its range, which have the hall in its range, the renderer that a block holds, and the block that
-- holds a renderer.
pub record Layout (L : Leaves) : Type 0 where
  pub size : ℕ
  pub valid : List ℕ → Bool
  pub hall_valid : List ℕ → Bool
  pub decode : List ℕ → State L
  pub encode : State L → List ℕ

-- "channel c starts at c × stride and only its ready samples are written": n channels from c on
abbrev pub written_from : ℕ → ℕ → Channels → ℕ → List ℕ → List ℕ
written_from zero c given stride out = out
written_from (suc n) c given stride out = written_from n (suc c) given stride (with_words out (4 * (c * stride)) (map (to_bits binary32) (given c)))

unfoldable pub written : Channels → ℕ → List ℕ → List ℕ
written given stride out = written_from 12 0 given stride out

-- what a call leaves: its answer, the state block and the output
pub record Outcome : Type 0 where
  pub answer : Answer
  pub state : List ℕ
  pub out : List ℕ

abbrev pub out_of : Call → List ℕ
out_of (push a) = a.out
out_of (flush out stride) = out
out_of reset = []
out_of (make n) = []
out_of (make_with n t) = []
out_of (mark w d) = []
out_of (find m) = []

abbrev pub stride_of : Call → ℕ
stride_of (push a) = a.stride
stride_of (flush out stride) = stride
stride_of reset = 0
stride_of (make n) = 0
stride_of (make_with n t) = 0
stride_of (mark w d) = 0
stride_of (find m) = 0

module _ (L : Leaves) (B : Layout L) where
  -- only an answer with samples, a reset, a making call, and a hold or a release that is not known change the block
  abbrev pub left : Answer → State L → List ℕ → ℕ → List ℕ → Outcome
  left (refused n x y) s out stride b = record { answer = refused n x y; state = b; out = out }
  left (rendered g m) s out stride b = record { answer = rendered g m; state = B.encode s; out = written g stride out }
  left nothing s out stride b = record { answer = nothing; state = b; out = out }
  left cleared s out stride b = record { answer = cleared; state = B.encode s; out = out }
  left (marked c) s out stride b = record { answer = marked c; state = cond c (B.encode s) b; out = out }
  left (place p) s out stride b = record { answer = place p; state = b; out = out }

  -- "a state block of wrong length, or with a field outside its range"; R-5: reset "refuses by 1 a block whose code is above 3", and R-6: one
  -- whose table "breaks these rules"; a making call one of "a wrong length"
  abbrev pub takes : Call → List ℕ → Bool
  takes (push a) b = B.valid b
  takes (flush out stride) b = B.valid b
  takes reset b = eqb (length b) B.size && B.hall_valid b
  takes (make n) b = eqb (length b) B.size
  takes (make_with n t) b = eqb (length b) B.size
  takes (mark w d) b = B.valid b
  takes (find m) b = B.valid b

  -- a call on a block: what the entries' contracts say
  abbrev pub made : Call → List ℕ → Outcome
  made c b =
      let x = step L (B.decode b) c in
      cond (takes c b) (left x.answer x.next (out_of c) (stride_of c) b) (record { answer = refused 1 0 0; state = b; out = out_of c })

  abbrev pub run_on : List ℕ → List Call → List Outcome
  run_on b [] = []
  run_on b (c ∷ cs) = made c b ∷ run_on (made c b).state cs

  abbrev pub final_on : List ℕ → List Call → List ℕ
  final_on b [] = b
  final_on b (c ∷ cs) = final_on (made c b).state cs

  abbrev pub kept_on : List ℕ → List Call → List Call
  kept_on b [] = []
  kept_on b (c ∷ cs) = cond (is_refused (made c b).answer) (kept_on (made c b).state cs) (c ∷ kept_on (made c b).state cs)

  abbrev pub accepted_on : List Outcome → List Outcome
  accepted_on [] = []
  accepted_on (x ∷ xs) = cond (is_refused x.answer) (accepted_on xs) (x ∷ accepted_on xs)

  -- what the host sees of a call: no block
  pub record Seen : Type 0 where
    pub answer : Answer
    pub out : List ℕ

  abbrev pub as_seen : Outcome → Seen
  as_seen o = record { answer = o.answer; out = o.out }

  abbrev pub seen_on : List ℕ → List Call → List Seen
  seen_on b [] = []
  seen_on b (c ∷ cs) = as_seen (made c b) ∷ seen_on (made c b).state cs

  -- the same from the rules alone, with no block
  abbrev pub told : State L → List Call → List Seen
  told r [] = []
  told r (c ∷ cs) = let x = step L r c in as_seen (left x.answer x.next (out_of c) (stride_of c) []) ∷ told x.next cs
