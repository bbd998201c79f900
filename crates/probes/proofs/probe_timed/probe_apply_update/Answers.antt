-- The update is applied where all four conditions hold, and nothing is done where the metadata has a fault. Assumes nothing.
use Prim.Native.Nat.{ℕ, ◌<◌}
use mathlib.Core.Path.{◌≡◌, refl, ap, subst, ◌∙◌}
use mathlib.Core.Bool.{Bool, true, false, ◌&&◌}
use mathlib.Core.List.{List}
use lib.Dec.{T, ltb}
use native.Mathlib.Omega.{arith}
use borrow.Author.Tests.{eq-eqb, lt-ltb}
use Rattle.std.specs.Prelude.{Err}
use Rattle.timed.specs.State.{Timed}
use Rattle.timed.specs.TimedResults.{IsTimed}
use Rattle.records.specs.Laid.{laid_out, count}
use Rattle.records.specs.ValuesInRange.{in_range, refusal}
use Rattle.records.specs.FaultNumbers.{number_of}
use Rattle.records.specs.declared.metadata.Fault.{Fault}
use Rattle.records.specs.declared.metadata.Fault.TheVariants.{NotLaidOut, OutOfRange}
use Rattle.records.proofs.Theorems.{faultless, not_laid, not_in_range}
use Rattle.probes.specs.Timed.{has_infos, update_if}
use Rattle.probes.proofs.probe_timed.probe_apply_update.Goals as goal

pub returns-in-Ok : goal.returns-in-Ok
returns-in-Ok c =
    let a = c.args in
    let k = c.in-Ok.metadata in
    let same = c.in-Ok.ensures.same.0 in
    let fit = faultless a.meta.now c.in-Ok.ensures.number in
    let below : a.i < count a.meta.now = omega (arith, c.if-i-metadata.true, k.laid.counted ∙ ap count same) in
    rw (eq-eqb _ _ c.if-infos-eq-INFOS_BYTES.true, fit.0, fit.1, lt-ltb a.i (count a.meta.now) below) (rw (c.update.ensures.0, c.update.ensures.1, same) at c.apply_update.ensures)

-- a fault, and nothing is done
none_done : (m : List ℕ) (i at : ℕ) (t : Timed) (f : Fault) → number_of {A = Unit {0}} (Err f) ≡ refusal m → IsTimed (update_if m i at t) t.state t.infos
none_done m i at t f e = rw (off (has_infos t) (laid_out m) (in_range m) (ltb i (count m)) (spoilt f e)) (record { state = refl; infos = refl })
  where
    off : (a b c d : Bool) → (b && c) ≡ false → (a && b && c && d) ≡ false
    off true true false d e = refl
    off true false c d e = refl
    off false b c d e = refl
    off true true true d e = absurd (subst T e tt)

    spoilt : (f : Fault) → number_of {A = Unit {0}} (Err f) ≡ refusal m → (laid_out m && in_range m) ≡ false
    spoilt NotLaidOut e = rw (not_laid m e) refl
    spoilt OutOfRange e = let x = not_in_range m e in rw (x.0, x.1) refl

pub returns-in_default-3 : goal.returns-in_default-3
returns-in_default-3 c =
    let a = c.args in
    none_done a.meta.now a.i a.at (record { state = a.s; infos = a.infos.now }) c.in_default.field-0 (rw c.in_default.is at c.of.ensures.number)
