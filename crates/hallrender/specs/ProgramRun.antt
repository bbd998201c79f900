-- Document 01's `hallrender`: a run of it, record after record. Assumes nothing.
use Rattle.std.specs.Prelude.{ℕ, ◌≡◌, true, List, [], ◌∷◌, length}
use Rattle.rules.specs.Samples.{hall_with, fresh}
use Rattle.rules.specs.Calls.{Call}
use Rattle.rules.specs.BlockCalls.{made, final_on}
use Rattle.theorem.specs.Instance.{hall, block}
use Rattle.calls.specs.Asked.{out_after, call_of, is_call}

-- what is read for a call: a record, and behind a frame's header its body, as laid out
pub record Input : Type 0 where
  pub rec : List ℕ
  pub body : List ℕ
  pub whole : length rec ≡ 40
  pub laid : is_call rec body ≡ true
  pub room : length body ≡ 86720

-- the calls of these in a row, each lent the output that the one before left; and the output at their end
abbrev pub calls_of : List Input → List ℕ → List ℕ → List Call
calls_of [] b o = []
calls_of (x ∷ xs) b o = let c = call_of x.rec x.body o in c ∷ calls_of xs (made hall block c b).state (out_after c b o)

abbrev pub out_on : List Input → List ℕ → List ℕ → List ℕ
out_on [] b o = o
out_on (x ∷ xs) b o = let c = call_of x.rec x.body o in out_on xs (made hall block c b).state (out_after c b o)

-- the block of a 7.1.4 renderer to which nothing was said
unfoldable pub new_block : List ℕ
new_block = block.encode (fresh hall (hall_with 0))

-- a run of the program on the block b and the output o: calls of records as laid out, and no other change
pub record Ran (b o state out : List ℕ) : Type 0 where
  pub inputs : List Input
  pub block : state ≡ final_on hall block b (calls_of inputs b o)
  pub output : out ≡ out_on inputs b o
