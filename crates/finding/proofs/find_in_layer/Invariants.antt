-- `finding::find_in_layer`: what is left of the height from k on. Assumes nothing.
use Rattle.panning.specs.Hall.{setup_of}
use Rattle.finding.specs.Grid.{across_at, across_count}
use Rattle.finding.specs.Search.{in_row}
use Rattle.finding.proofs.Walks.{FirstFrom}
use Rattle.finding.proofs.find_in_layer.Given as goal

abbrev pub invariant-loop-k : goal.invariant-loop-k
invariant-loop-k l = FirstFrom (λ k. in_row (setup_of l.hall) l.mask l.y (across_at k)) across_count l.k
