-- `store::hall`: the places are those of a table that is right. Assumes nothing.
use mathlib.Core.Path.{◌≡◌, sym, ap, subst, ◌∙◌}
use Prim.Native.Nat.{ℕ, ◌≤◌}
use Rattle.std.proofs.Common.{rules, length}
use Rattle.panning.specs.Setup.{table_place}
use Rattle.panning.proofs.Theorems.{table_back}
use Rattle.words.proofs.Small.{run_small}
use Rattle.store.specs.FieldPlaces.{table_at, table_count}
use Rattle.store.specs.Layout.{table_in}
use Rattle.store.proofs.BlockTests.{layout_most, table_rights}
use Rattle.store.proofs.Decoded.{words_long}
use Rattle.store.proofs.HallTables.{read_inside, read_apart}
use Rattle.store.proofs.hall.Goals as goal

pub of-requires : goal.of-requires
of-requires c =
    let b = c.args.state.now in
    let e = table_rights b c.requires in
    let s = c.places.ensures ∙ ap table_place c.table.ensures in
    (subst (λ (n : ℕ). n ≤ 3) (sym c.layout.ensures) (layout_most b c.requires), read_inside (table_in b) c.places.result e s, read_apart (table_in b) c.places.result e s)

pub returns : goal.returns
returns c =
    let b = c.args.state.now in
    let t = table_in b in
    let s = c.places.ensures ∙ ap table_place c.table.ensures in
    let m : length c.places.result ≡ 12 = search rules in
    let w = table_back t (words_long b table_at table_count) (run_small b table_at table_count c.fits-state) (table_rights b c.requires) c.places.result m s in
    c.of.ensures ∙ (λ i. record { layout = c.layout.ensures i; table = w i })
