-- `panning::hall::Hall::of` meets its contract: what is sorted is the full-range part of the table. Assumes nothing.
use mathlib.Core.Path.{sym, ap, subst, ◌∙◌}
use mathlib.Core.Bool.{Bool, false}
use mathlib.Core.List.{List}
use Prim.Native.Nat.{ℕ}
use lib.ListN.{set}
use Rattle.corners.specs.Axes.{place_among}
use Rattle.corners.specs.Table.{Table}
use Rattle.corners.specs.Sorted.{StandIn}
use Rattle.corners.specs.SpeakerOrder.{speakers_of}
use Rattle.panning.proofs.Setup.{table_in, full_range_marked}
use Rattle.panning.proofs.RightTables.{table_among, accepted_places}
use Rattle.panning.proofs.hall.Hall.of.Goals as goal

pub of-requires : goal.of-requires
of-requires c =
    let n = c.args.layout in
    let sp = place_among c.args.places.now in
    let r = c.requires in
    let e = ap (λ (m : List Bool). speakers_of (set m 3 false)) c.marks-present.ensures ∙ full_range_marked n r.0 in
    subst (Table sp) (sym e) (table_in sp n r.0 (table_among sp r.1 r.2))

pub invariant_of-result : goal.invariant_of-result
invariant_of-result c =
    let n = c.args.layout in
    let sp = place_among c.args.places.now in
    let r = c.requires in
    let e = ap (λ (m : List Bool). speakers_of (set m 3 false)) c.marks-present.ensures ∙ full_range_marked n r.0 in
    record {
      known = r.0;
      marked = c.marks-present.ensures;
      divided = c.divisor.ensures;
      placed = accepted_places c.args.places.now c.told-places r.1;
      table = table_among sp r.1 r.2;
      found = (c.of.ensures.walk, ∣ subst (λ (l : List ℕ). StandIn sp l c.of.result) e c.of.ensures.stand ∣₁);
    }
