-- `put_object`: the terms of what `pan` answers.
use mathlib.Core.Path.{ap, ◌∙◌}
use mathlib.Core.List.{List, ◌++◌}
use Prim.Native.Nat.{ℕ}
use Rattle.panning.specs.declared.Panned.{Panned}
use Rattle.panning.specs.Setup.{speakers_in}
use Rattle.panning.specs.Terms.{terms, paired, spread}
use Rattle.render.proofs.Marks.{speakers_marked_are}
use Rattle.render.proofs.FedTerms.{fed_on, terms_panned}
use Rattle.render.proofs.Grown.{grown_then, grown_as}
use Rattle.render.proofs.lists.Lists.put_object.Goals as goal

pub returns : goal.returns
returns c =
    let hall = c.args.hall.now in
    let p = c.pan-p.result in
    let i = c.args.input in
    let cs = paired p.corners p.coefficients in
    grown_as
    (λ k.
    ap (λ (ks : List ℕ). fed_on i (spread ks p.extra) k ++ fed_on i cs k) (speakers_marked_are hall)
    ∙ terms_panned i (speakers_in hall.layout) p k
    ∙ ap (λ (q : Panned). fed_on i (terms (speakers_in hall.layout) q) k) c.pan-p.ensures.is)
    (grown_then c.put_spread.ensures c.put_corners.ensures)
