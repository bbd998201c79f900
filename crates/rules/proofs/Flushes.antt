-- What a flush with room promises: none where nothing is pending, else the pending samples as one shorter block. Assumes nothing beyond `Facts`.
use mathlib.Core.Path.{◌≡◌, refl, sym, subst}
use mathlib.Core.Bool.{Bool, true, false}
use mathlib.Core.List.{List}
use Prim.Native.Nat.{ℕ}
use native.Mathlib.Omega.{arith}
use borrow.Author.Tests.{eqb-true, eqb-false}
use lib.Dec.{eqb}
use lib.ListN.{length}
use Rattle.rules.specs.Leaves.{Leaves}
use Rattle.rules.specs.Samples.{State, flushed}
use Rattle.rules.specs.Refusals.{room}
use Rattle.rules.specs.Calls.{flush, drained, step}
use Rattle.rules.specs.Promises.{FlushHolds}
use Rattle.rules.specs.BlockCalls.{Layout}
use Rattle.rules.proofs.Owed.{Facts}
use Rattle.rules.proofs.Invariant.{Rest}
use Rattle.rules.proofs.Frames.{flushed_fine}
use Rattle.rules.proofs.Called.{waiting_good}

module _ (L : Leaves) (B : Layout L) (F : Facts L B) (r : State L) (rest : Rest L B F r) where
  drained_holds : (e : Bool) → eqb r.pending.count 0 ≡ e → FlushHolds L r (drained L true e r)
  drained_holds true e =
      let z = eqb-true r.pending.count 0 e in
      record {
        none = λ h. (refl, refl);
        gives = λ h. absurd (omega arith);
        within = λ h. absurd (omega arith);
        ready = λ h. absurd (omega arith);
        gain = λ h. absurd (omega arith);
        untouched = λ h. absurd (omega arith);
      }
  drained_holds false e =
      let n = eqb-false r.pending.count 0 e in
      record {
        none = λ h. absurd (n h);
        gives = λ h. unfold flushed in refl;
        within = λ h. unfold flushed in (flushed_fine L B F r (waiting_good L B F r rest e)).within;
        ready = λ h. (flushed_fine L B F r (waiting_good L B F r rest e)).length;
        gain = λ h. unfold flushed in refl;
        untouched = λ h. unfold flushed in record { pending = refl; setup = refl; rate = refl; clock = refl; filter = refl; meta = refl; places = refl; waits = refl };
      }

  pub flush_holds : (out : List ℕ) (stride : ℕ) → room stride (length out) ≡ true → FlushHolds L r (step L r (flush out stride))
  flush_holds out stride h = subst (λ (b : Bool). FlushHolds L r (drained L b (eqb r.pending.count 0) r)) (sym h) (drained_holds (eqb r.pending.count 0) refl)
