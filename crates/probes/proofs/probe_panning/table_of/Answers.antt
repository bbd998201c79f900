-- `table_of`: a table of another length, or that is not right, is replaced. Assumes nothing.
use mathlib.Core.Path.{sym, ap, ◌∙◌}
use mathlib.Core.Bool.{true, false}
use lib.Ieee.{to_bits}
use Rattle.panning.specs.Setup.{table_right}
use Rattle.panning.specs.Setup as setup
use Rattle.panning.specs.Speakers as speakers
use Rattle.store.proofs.HallTables.{faultless}
use Rattle.probes.proofs.Tables.{not_long, not_right, own}
use Rattle.probes.proofs.probe_panning.table_of.Goals as goal

pub returns-then-bytes : goal.returns-then-bytes
unfolding setup.table_of speakers.positions714 to_bits
returns-then-bytes c = not_long c.args.bytes.now c.if-bytes.true

pub returns-then-is_some : goal.returns-then-is_some
unfolding setup.table_of speakers.positions714 to_bits
returns-then-is_some c =
    let w = c.table_words-table in
    not_right c.args.bytes.now c.if-bytes.false
    (sym (ap table_right w.ensures) ∙ sym (faultless w.result c.table_fault.result false c.table_fault.ensures (sym c.is_some.ensures ∙ c.if-is_some.true)))

pub returns : goal.returns
returns c =
    let w = c.table_words-table in
    w.ensures
    ∙ own c.args.bytes.now c.if-bytes.false
    (sym (ap table_right w.ensures) ∙ sym (faultless w.result c.table_fault.result true c.table_fault.ensures (sym c.is_some.ensures ∙ c.if-is_some.false)))
