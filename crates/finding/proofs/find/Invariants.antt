-- `finding::find`: what is left of the grid from j on. Assumes nothing.
use Rattle.panning.specs.Hall.{setup_of}
use Rattle.finding.specs.Grid.{up_at, up_count}
use Rattle.finding.specs.Search.{in_layer}
use Rattle.finding.proofs.Walks.{FirstFrom}
use Rattle.finding.proofs.find.Given as goal

abbrev pub invariant-loop-j : goal.invariant-loop-j
invariant-loop-j l = FirstFrom (λ j. in_layer (setup_of l.hall) l.mask (up_at j)) up_count l.j
