-- `ahead::kept`: no updates, 25, or those that wait.
use Prim.Native.Nat.{◌≤◌}
use mathlib.Core.Path.{refl, sym, ◌∙◌}
use native.Mathlib.Omega.{arith}
use mathlib.Core.List.{[]}
use lib.ListN.{replicate}
use borrow.Author.Tests.{eqb-true}
use Rattle.fields.specs.RecordBytes.{all}
use Rattle.records.specs.Runs.{each}
use Rattle.records.specs.ValuesInRange.{all_fit}
use Rattle.records.specs.LayoutAnswers.{no_sent}
use Rattle.records.proofs.Walked.{walk_begins, walk_ends}
use Rattle.theorem.proofs.Theorems.{kept_sent}
use Rattle.waits.proofs.Theorems.{fits_none}
use Rattle.hall.proofs.Quiet.{no_own}
use Rattle.hall.proofs.ahead.kept.Goals as goal

pub invariant_of-result-then-not-any_waits : goal.invariant_of-result-then-not-any_waits
unfolding all_fit all
invariant_of-result-then-not-any_waits c =
    let few : 0 ≤ 16 = omega arith in
    record {
      bytes = λ i. omega arith;
      laid = (walk_ends 0 [] (replicate 16 no_sent) 0 0 refl (walk_begins 0 []) (omega arith) _).0;
      whole = record { few = few; all = λ i l. absurd (let z : ⊥ = omega arith in z) };
      fits = refl;
    }

pub returns-then-not-any_waits : goal.returns-then-not-any_waits
unfolding each
returns-then-not-any_waits c =
    let a = c.args in
    let empty = eqb-true _ _ (sym c.is_empty.ensures ∙ c.if-is_empty.true) in
    (fits_none a.start.0 a.end.0 a.area.now a.own.now.records.now empty (no_own a.end.0 a.own.now c.requires.1 (sym c.any_waits.ensures ∙ c.if-not-any_waits.true)), rw empty refl)

pub returns : goal.returns
returns c =
    let a = c.args in
    (sym c.fit.ensures ∙ c.if-not-fit.false, kept_sent a.start.0 a.end.0 a.area.now c.metadata.result c.metadata.ensures)
