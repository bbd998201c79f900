-- `mix_routed`: a bed that is panned.
use mathlib.Core.Path.{◌≡◌, sym, ap, ◌∙◌}
use lib.Ieee.{of_bits}
use Rattle.vectors.specs.declared.Vec3.{Vec3}
use Rattle.beds.specs.declared.Route.TheVariants.{Folded}
use Rattle.panning.specs.Setup.{terms_in}
use Rattle.panning.specs.Hall.{setup_of}
use Rattle.rules.specs.Parts.{0·0}
use Rattle.render.specs.MixedRows.{mixed_terms}
use Rattle.render.specs.MixedSources.{route_terms}
use Rattle.render.proofs.BedTerms.{by_route}
use Rattle.render.proofs.sources.mix_routed.Goals as goal

pub returns-in-Folded : goal.returns-in-Folded
unfolding route_terms of_bits
returns-in-Folded c =
    let a = c.args in
    let xs = a.samples.list.now in
    let s = setup_of a.hall.now in
    let p : c.mix_object.new.rows ≡ mixed_terms xs (route_terms s Folded a.code a.gain) a.rows.now =
    c.mix_object.ensures ∙ ap (λ (p : Vec3). mixed_terms xs (terms_in s p a.gain 0·0) a.rows.now) c.bed_channel_position.ensures in
    by_route xs a.rows.now a.hall.now a.code a.gain (sym c.in-Folded.ensures) p
