-- `store::hall_table::is_built_in`: each word is compared. Assumes nothing.
use Prim.Native.Nat.{ℕ}
use lib.Dec.{lit≤, eqb}
use lib.ListN.{get_or}
use mathlib.Core.Bool.{not}
use mathlib.Core.Path.{refl, sym, ap, ◌∙◌}
use lib.Ieee.{to_bits}
use Rattle.std.proofs.Common.{rules}
use Rattle.words.specs.Words.{words_at}
use Rattle.formats.specs.NumberWords.{bit}
use Rattle.formats.proofs.Places.{word_of_run}
use Rattle.panning.specs.Speakers.{positions714}
use Rattle.panning.specs.Setup.{table_of, built_in_table}
use Rattle.store.specs.FieldPlaces.{table_count}
use Rattle.store.specs.HallTables.{equal_below}
use Rattle.store.proofs.HallTables.{more_most, equal_next}
use Rattle.store.proofs.hall_table.is_built_in.Goals as goal

pub loop-i-init : goal.loop-i-init
unfolding equal_below
loop-i-init c = record { most = lit≤ tt; none = refl }

pub loop-i-preserved : goal.loop-i-preserved
unfolding table_of positions714 to_bits
loop-i-preserved c =
    let l = c.loop-i in
    let s = c.args.s.now in
    let w = c.u32_at.ensures ∙ sym (word_of_run s c.args.at table_count l.i _ (search rules) refl) in
    let h = c.bit-differing.ensures ∙ ap (λ (n : ℕ). bit (not (eqb n (get_or built_in_table l.i 0)))) w in
    record {
      most = more_most _ l.differing l.i c.bit-differing.result h l.invariant.most;
      none = equal_next (words_at s c.args.at table_count) built_in_table l.i l.differing c.bit-differing.result h l.invariant.none;
    }
