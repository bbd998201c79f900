-- `put_spread`: the speakers from channel c on are left to put.
use Rattle.panning.specs.Terms.{spread}
use Rattle.render.specs.MixedRows.{speakers_marked}
use Rattle.render.proofs.FedTerms.{fed_on}
use Rattle.render.proofs.PutTerms.{speakers_from}
use Rattle.render.proofs.ToPut.{ToPut}
use Rattle.render.proofs.lists.Lists.put_spread.Given as goal

abbrev pub invariant-loop-c : goal.invariant-loop-c
invariant-loop-c l =
    ToPut (λ k. fed_on l.input (speakers_from l.present l.c l.gain) k) (λ k. fed_on l.input (spread (speakers_marked l.present) l.gain) k) l.initial.self l.self
