-- `put_source`: what the object is panned to, then its send.
use mathlib.Core.Path.{sym}
use mathlib.Core.List.{[], ◌∷◌}
use Rattle.panning.specs.Hall.{setup_of}
use Rattle.panning.specs.Terms.{term}
use Rattle.rules.specs.Mix.{object_terms, send_of}
use Rattle.render.specs.Run.{plain_source}
use Rattle.render.proofs.FedTerms.{terms_then}
use Rattle.render.proofs.Grown.{grown_then, grown_as}
use Rattle.render.proofs.lists.Lists.put_source.Goals as goal

pub returns : goal.returns
unfolding object_terms
returns c =
    let a = c.args in
    let o = plain_source a.source in
    grown_as (λ k. sym (terms_then a.input (object_terms (setup_of a.hall.now) o) (term 3 (send_of o) ∷ []) k)) (grown_then c.put_object.ensures c.put.ensures)
