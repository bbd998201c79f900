-- `present::present_said`: what is read of the record. Assumes nothing.
use mathlib.Core.Path.{refl, ap, ◌∙◌}
use Prim.Native.Nat.{◌-◌, ◌≤◌}
use lib.ListN.{replicate}
use native.Mathlib.Omega.{arith}
use Rattle.fields.specs.Update.{beds}
use Rattle.fields.specs.declared.update.Header.{Header}
use Rattle.refusals.proofs.Sent.{said_present}
use Rattle.refusals.proofs.shapes.present_said.Goals as goal
use Rattle.refusals.proofs.shapes.present_said.Goals.{After-header-header}

few : (c : After-header-header) → c.header-header.result.beds ≤ 18
few c =
    let few : beds c.args.said.«record».meta.now c.args.said.«record».place ≤ 18 = c.args.said.whole.few_beds in
    omega (arith, ap (λ (x : Header). x.beds) c.header-header.ensures)

pub invariant_of-result : goal.invariant_of-result
invariant_of-result c = record { few = few (goal.at.invariant_of-result c).After-header-header }

pub returns : goal.returns
returns c =
    let m = c.args.said.«record».meta.now in
    let u = c.args.said.«record».place in
    let h = c.header-header.ensures in
    said_present m u c.dynamic.result c.header-header.result.beds c.next_codes.result (replicate 18 0) (c.dynamic.ensures ∙ ap (λ (x : Header). x.objects - x.bed_or_isf) h)
    (ap (λ (x : Header). x.beds) h) (few (goal.at.returns c).After-header-header) c.next_codes.ensures refl
