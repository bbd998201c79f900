-- `waits::valid::positions_ahead`. Invariant: each position passed lies ahead. Assumes nothing.
use Rattle.std.proofs.Common.{◌≡◌, true}
use Rattle.fields.specs.RecordBytes.{all}
use Rattle.waits.proofs.ValidArea.{lies_ahead}
use Rattle.waits.proofs.valid.positions_ahead.Given as goal

abbrev pub invariant-loop-i : goal.invariant-loop-i
invariant-loop-i l = all (lies_ahead l.position.0 l.area) l.i ≡ true
