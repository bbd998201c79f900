-- The halls that a host can have: those that an accepted making call makes. Assumes nothing.
use Rattle.std.specs.Prelude.{ℕ, ◌≡◌, List, length}
use Rattle.panning.specs.Setup.{Setup}
use Rattle.rules.specs.Calls.{Call, cleared}
use Rattle.rules.specs.BlockCalls.{made}
use Rattle.rules.specs.Demand3.{Lent, Makes}
use Rattle.theorem.specs.Instance.{hall, block}

-- the call m makes the hall h, in every block of the right length
pub record MakesHall (m : Call) (h : Setup) : Type 0 where
  pub lent : Lent m
  pub makes : Makes m h
  pub accepted : (b : List ℕ) → length b ≡ block.size → (made hall block m b).answer ≡ cleared
