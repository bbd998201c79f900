-- `process_in_place` meets its contract: what is done and what is left, filtered, are the whole filtered, and the filter left runs to the same end. Assumes nothing.
use mathlib.Core.Path.{◌≡◌}
use mathlib.Core.List.{◌++◌}
use lib.ListN.{take, drop}
use Rattle.lowpass.specs.Lowpass.{filtered, after_all}
use Rattle.lowpass.proofs.BiquadLowpassState.process_in_place.Given as goal

abbrev pub invariant-loop-i : goal.invariant-loop-i
invariant-loop-i l = (after_all l.self (drop l.i l.samples) ≡ after_all l.initial.self l.initial.samples)
    × (take l.i l.samples ++ filtered l.self (drop l.i l.samples) ≡ filtered l.initial.self l.initial.samples)
