-- `store::hall_table::places`: each call reads a channel's place. Assumes nothing.
use Rattle.std.proofs.Common.{rules, ◌+◌, ◌*◌}
use mathlib.Core.Path.{◌≡◌, ap, ◌∙◌}
use native.Mathlib.Omega.{arith}
use Rattle.panning.specs.Setup.{table_place}
use Rattle.store.proofs.Tables.{made_gets}
use Rattle.store.proofs.HallTables.{places_read}
use Rattle.store.proofs.hall_table.places.Goals as goal

pub returns : goal.returns
returns c =
    let t = c.args.table.now in
    let r = c.from_fn.ensures.items in
    places_read c.from_fn.result t r.long c.told-table
    (made_gets _ (table_place t) 1 0 _
    (λ i y q k.
    let p : y ≡ table_place t i = search rules in
    let e : i ≡ 0 + 1 * i = omega arith in
    (search rules, p ∙ ap (table_place t) e))
    c.from_fn.result 12 r)
