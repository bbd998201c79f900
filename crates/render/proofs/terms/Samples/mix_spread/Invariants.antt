-- `mix_spread`: what is left to mix from channel c on still gives the whole.
use mathlib.Core.Path.{◌≡◌}
use Prim.Native.Nat.{◌-◌}
use Rattle.panning.specs.Terms.{spread}
use Rattle.render.specs.MixedRows.{speakers_marked, mixed_terms}
use Rattle.render.proofs.Marks.{marked_from}
use Rattle.render.proofs.terms.Samples.mix_spread.Given as goal

abbrev pub invariant-loop-c : goal.invariant-loop-c
invariant-loop-c l =
    (mixed_terms l.self.list.now (spread (marked_from l.present l.c (12 - l.c)) l.gain) l.rows
    ≡ mixed_terms l.self.list.now (spread (speakers_marked l.present) l.gain) l.initial.rows)
