-- `put_bed`: what its route puts.
use mathlib.Core.Path.{sym, ap}
use mathlib.Core.List.{[], ◌∷◌}
use lib.Ieee.{Float, of_bits}
use Rattle.vectors.specs.declared.Vec3.{Vec3}
use Rattle.beds.specs.declared.Route.TheVariants.{Bass, Folded, Direct, Unsupported}
use Rattle.beds.proofs.Channels.{direct_in}
use Rattle.panning.specs.Hall.{setup_of}
use Rattle.panning.specs.Setup.{terms_in}
use Rattle.panning.specs.Terms.{term}
use Rattle.rules.specs.Parts.{0·0}
use Rattle.render.specs.MixedSources.{route_terms}
use Rattle.render.proofs.FedTerms.{fed_on, terms_none}
use Rattle.render.proofs.Grown.{grown_none, grown_as}
use Rattle.render.proofs.PutBed.{put_routed}
use Rattle.render.proofs.lists.Lists.put_bed.Goals as goal

pub put-requires-in-Direct : goal.put-requires-in-Direct
put-requires-in-Direct c = ((direct_in _ c.args.code (sym c.in-Direct.ensures)).0, c.requires)

pub returns-in-Bass : goal.returns-in-Bass
unfolding route_terms
returns-in-Bass c =
    let a = c.args in
    put_routed a.input a.hall.now a.code a.gain {r = Bass} (sym c.in-Bass.ensures)
    (grown_as (λ k. ap (λ (g : Float). fed_on a.input (term 3 g ∷ []) k) c.bass_gain.ensures) c.put.ensures)

pub returns-in-Folded : goal.returns-in-Folded
unfolding route_terms of_bits
returns-in-Folded c =
    let a = c.args in
    put_routed a.input a.hall.now a.code a.gain {r = Folded} (sym c.in-Folded.ensures)
    (grown_as (λ k. ap (λ (p : Vec3). fed_on a.input (terms_in (setup_of a.hall.now) p a.gain 0·0) k) c.bed_channel_position.ensures) c.put_object.ensures)

pub returns-in-Direct : goal.returns-in-Direct
unfolding route_terms
returns-in-Direct c =
    let a = c.args in
    put_routed a.input a.hall.now a.code a.gain {r = Direct c.in-Direct.channel} (sym c.in-Direct.ensures) c.put-in-Direct.ensures

pub returns-in-Unsupported : goal.returns-in-Unsupported
unfolding route_terms
returns-in-Unsupported c =
    let a = c.args in
    put_routed a.input a.hall.now a.code a.gain {r = Unsupported} (sym c.in-Unsupported.ensures) (grown_none c.requires (terms_none a.input))
