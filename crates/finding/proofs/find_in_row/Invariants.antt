-- `finding::find_in_row`: what is left of the row from i on. Assumes nothing.
use Rattle.panning.specs.Hall.{setup_of}
use Rattle.finding.specs.Grid.{across_at, across_count}
use Rattle.finding.specs.Search.{exactly}
use Rattle.finding.proofs.Walks.{FirstFrom}
use Rattle.finding.proofs.find_in_row.Given as goal

abbrev pub invariant-loop-i : goal.invariant-loop-i
invariant-loop-i l = FirstFrom (λ i. exactly (setup_of l.hall) l.mask (record { x = across_at i; y = l.y; z = l.z })) across_count l.i
