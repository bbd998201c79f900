-- `mix_object`: the terms of what `pan` answers.
use mathlib.Core.Path.{ap, ◌∙◌}
use mathlib.Core.List.{List}
use Prim.Native.Nat.{ℕ}
use Rattle.panning.specs.declared.Panned.{Panned}
use Rattle.panning.specs.Setup.{speakers_in}
use Rattle.panning.specs.Terms.{terms, paired, spread}
use Rattle.render.specs.MixedRows.{mixed_terms}
use Rattle.render.proofs.Marks.{speakers_marked_are}
use Rattle.render.proofs.MixedTerms.{mixed_panned}
use Rattle.render.proofs.terms.Samples.mix_object.Goals as goal

pub returns : goal.returns
returns c =
    let hall = c.args.hall.now in
    let p = c.pan-p.result in
    let xs = c.args.self.list.now in
    let os = c.args.rows.now in
    c.mix_corners.ensures
    ∙ ap (mixed_terms xs (paired p.corners p.coefficients))
    (c.mix_spread.ensures ∙ ap (λ (ks : List ℕ). mixed_terms xs (spread ks p.extra) os) (speakers_marked_are hall))
    ∙ mixed_panned xs (speakers_in hall.layout) p os
    ∙ ap (λ (q : Panned). mixed_terms xs (terms (speakers_in hall.layout) q) os) c.pan-p.ensures.is
