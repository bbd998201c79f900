-- The closure of `store::hall_table::places`: a channel's place. Assumes nothing.
use mathlib.Core.Path.{ap, ◌∙◌}
use native.Mathlib.Omega.{arith}
use lib.Ieee.{of_bits, binary32}
use Prim.Native.Nat.{◌+◌, ◌*◌}
use Rattle.std.proofs.lemmas.List.{get_or_default}
use Rattle.panning.specs.Setup.{table_place}
use Rattle.store.proofs.hall_table.fn.places.from_fn.Goals as goal

pub returns : goal.returns
unfolding table_place
returns c =
    let t = c.captures.table.now in
    let k = c.args.k in
    let l = c.requires.1 in
    let m = c.requires.0 in
    λ i. record {
      x = (c.f32_of.ensures ∙ ap (of_bits binary32) (get_or_default t (3 * k) 0 0x7fc00000 (omega arith))) i;
      y = (c.f32_of-2.ensures ∙ ap (of_bits binary32) (get_or_default t (3 * k + 1) 0 0x7fc00000 (omega arith))) i;
      z = (c.f32_of-3.ensures ∙ ap (of_bits binary32) (get_or_default t (3 * k + 2) 0 0x7fc00000 (omega arith))) i;
    }
