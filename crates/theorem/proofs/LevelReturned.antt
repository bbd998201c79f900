-- R-8 on the real state block: how soon the level returns, read from the gain's four bytes. Assumes nothing.
use Prim.Native.Nat.{ℕ, ◌*◌}
use mathlib.Core.Path.{◌≡◌, refl, sym, ap, subst, ◌∙◌}
use mathlib.Core.List.{List}
use Rattle.limiter.specs.Return.{ZeroToOne}
use Rattle.rules.specs.BlockCalls.{final_on}
use Rattle.rules.specs.Returning.{LevelReturns}
use Rattle.rules.proofs.Returning as rules
use lib.Dec.{lit≤}
use lib.Ieee.{of_bits, binary32}
use Rattle.words.specs.Words.{float_at}
use Rattle.store.specs.Layout.{decode}
use Rattle.store.specs.FieldPlaces.{limiter_gain_at}
use Rattle.theorem.specs.Instance.{hall, block, front, block_decode}
use Rattle.theorem.proofs.Front.{front_word}
use Rattle.theorem.specs.GainPlace.{gain_held, GainReturns}
use Rattle.theorem.proofs.Opened.{everything}
use Rattle.theorem.proofs.Demand3.{facts}

-- what a block holds there, and its front
gain_in : (b : List ℕ) → (decode b).limiter.gain ≡ gain_held b
unfolding everything decode Rattle.store.specs.Fields.small_of
gain_in b = refl

pub gain_there : (b : List ℕ) → (block_decode b).limiter.gain ≡ gain_held b
unfolding float_at
gain_there b = gain_in (front b) ∙ ap (of_bits binary32) (front_word b (4 * limiter_gain_at) (lit≤ tt))

-- of any renderer
pub level_returns : LevelReturns hall
level_returns = rules.level_returns hall

-- and of any block in its ranges
pub gain_returns : GainReturns
gain_returns b bytes v z cs h q =
    sym (gain_there (final_on hall block b cs)) ∙ rules.level_returns_on hall block facts b bytes v (subst ZeroToOne (sym (gain_there b)) z) cs h q
