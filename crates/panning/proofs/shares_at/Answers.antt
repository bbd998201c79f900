-- `panning::shares_at` meets its contract: the facts on panning hold in the hall. Assumes nothing.
use borrow.Author.Rules.{rules}
use Rattle.corners.specs.Axes.{place_among}
use Rattle.corners.specs.Table.{Position}
use Rattle.panning.proofs.Setup.{pans_at}
use Rattle.panning.proofs.Shared.{shares_are}
use Rattle.panning.proofs.shares_at.Goals as goal

pub returns : goal.returns
returns c =
    let p = c.args.place in
    let h = c.args.hall in
    let q : Position p = record { x = search (rules, c.well_formed); y = search (rules, c.well_formed); z = search (rules, c.well_formed) } in
    let a = pans_at (place_among h.now.places) h.now.layout h.now.known h.now.table p q in
    shares_are a c.requires.1 c.ratio.ensures c.layer_shares.ensures c.layer_shares-2.ensures
