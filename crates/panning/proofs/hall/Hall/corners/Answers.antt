-- `panning::hall::Hall::corners` meets its contract: in the 7.1.4 hall the comparisons find the corners of the choice, and in any other the walk does. Assumes nothing.
use mathlib.Core.Path.{ap, ◌∙◌, subst}
use borrow.Author.Rules.{rules}
use lib.Dec.{T}
use lib.Ieee.{binary32, fits}
use Rattle.corners.specs.Found.{chosen}
use Rattle.panning.specs.Corners714.{FoundBy}
use Rattle.panning.proofs.Corners714.{chosen_is}
use Rattle.panning.proofs.Setup.{corner_714}
use Rattle.panning.proofs.Shared.{found}
use Rattle.panning.proofs.hall.Hall.corners.Goals as goal

pub returns-in-None : goal.returns-in-None
returns-in-None c =
    let h = c.args.self.now in
    let p = c.args.place in
    let w : T (fits binary32 p.x) = search (rules, c.well_formed) in
    let f = subst (FoundBy h.layout h.places) c.in-None.is h.found in
    ap chosen c.cube_714.ensures ∙ chosen_is p w ∙ corner_714 f.0 f.1 p

pub returns-in-Some : goal.returns-in-Some
returns-in-Some c =
    let h = c.args.self.now in
    let f = subst (FoundBy h.layout h.places) c.in-Some.is h.found in
    found c.args.place c.in-Some.speakers f.1 c.cube.ensures
