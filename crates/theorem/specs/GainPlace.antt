-- How soon the level returns, on the real state block. Document 02, R-8: "from any limiter gain from 0 to 1, floor(rate / 64) + 2 completed blocks of 64 in a row, in none of
-- which p × g > 1, end with gain exactly 1." Assumes nothing.
use Rattle.std.specs.Prelude.{ℕ, ◌*◌, ◌≡◌, true, List, Float}
use Rattle.words.specs.Words.{Bytes, float_at}
use Rattle.limiter.specs.Limiter.{1·0}
use Rattle.limiter.specs.Return.{ZeroToOne}
use Rattle.store.specs.FieldPlaces.{limiter_gain_at}
use Rattle.rules.specs.Calls.{Call}
use Rattle.rules.specs.BlockCalls.{final_on}
use Rattle.rules.specs.Demand3.{AllLent}
use Rattle.rules.specs.Returning.{QuietRow}
use Rattle.theorem.specs.Instance.{hall, block}

-- the gain that a block holds: its word 6, docs/STATE-BLOCK.md
abbrev pub gain_held : List ℕ → Float
gain_held b = float_at b (4 * limiter_gain_at)

-- from any block in its ranges, one that the host hands in too
abbrev pub GainReturns : Type 0
GainReturns =
    (b : List ℕ) → Bytes b → block.valid b ≡ true → ZeroToOne (gain_held b) → (cs : List Call) → AllLent cs → QuietRow hall (block.decode b) cs
    → gain_held (final_on hall block b cs) ≡ 1·0
