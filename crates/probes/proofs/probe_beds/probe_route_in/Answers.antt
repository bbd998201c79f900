-- `probe_route_in`: a bed's route by the layout's marks.
use mathlib.Core.Path.{ap, ◌∙◌}
use Prim.Native.Nat.{ℕ}
use Rattle.beds.specs.Routes.{route_in}
use Rattle.panning.specs.Setup.{present}
use Rattle.probes.specs.Beds.{route_number}
use Rattle.probes.proofs.Halls.{route_by_marks}
use Rattle.probes.proofs.probe_beds.probe_route_in.Goals as goal

pub returns : goal.returns
returns c =
    let a = c.args in
    let r = route_by_marks c.min.result a.code c.marks-present.result c.marks-present.ensures c.route_in.ensures in
    c.number_of.ensures ∙ ap route_number (r ∙ ap (λ (n : ℕ). route_in (present n) a.code) c.min.ensures)
