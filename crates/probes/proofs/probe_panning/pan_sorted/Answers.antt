-- `pan_sorted`: the places are those of a table that is right. Assumes nothing.
use mathlib.Core.Path.{◌≡◌, subst, ◌∙◌}
use Rattle.std.proofs.Common.{rules, length}
use Rattle.panning.specs.Setup.{Setup}
use Rattle.panning.specs.Hall.{PannedIs}
use Rattle.panning.proofs.Theorems.{table_back}
use Rattle.probes.proofs.Tables.{words_each}
use Rattle.probes.proofs.probe_panning.pan_sorted.Goals as goal

pub returns : goal.returns
returns c =
    let a = c.args in
    let t = a.table.now in
    let m : length c.places.result ≡ 12 = search rules in
    let w = table_back t c.told-table (words_each t c.fits-table) c.requires c.places.result m c.places.ensures in
    subst (λ (s : Setup). PannedIs s a.place a.gain a.size c.pan.result) (c.of-hall.ensures ∙ (λ i. record { layout = c.min.ensures i; table = w i })) c.pan.ensures
