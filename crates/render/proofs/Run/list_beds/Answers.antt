-- `list_beds`: one bed more, which an input feeds or none.
use mathlib.Core.Path.{sym, ◌∙◌}
use Prim.Native.Nat.{◌<◌}
use native.Mathlib.Omega.{arith}
use lib.ListN.{length, get_or}
use lib.Ieee.{nan}
use Rattle.panning.specs.Hall.{setup_of}
use Rattle.render.specs.Run.{bed_with}
use Rattle.render.specs.MixedSources.{bed_terms}
use Rattle.render.proofs.BedTerms.{found_inside}
use Rattle.render.proofs.PutBed.{put_found, put_unfound}
use Rattle.render.proofs.ListedInOrder.{bed_listed}
use Rattle.render.proofs.Run.list_beds.Goals as goal
use Rattle.render.proofs.Run.list_beds.Goals.{in-Some, in_default}

pub overflow_cast-i : goal.overflow_cast-i
overflow_cast-i c =
    let codes = c.args.self.input.codes in
    let code = get_or c.args.self.scene.codes.now c.loop-j.j 0 in
    let k : c.in-Some.i < length codes.list.now = found_inside code codes.list.now (sym c.find_matching_input_bed_channel-found.ensures ∙ c.in-Some.is) in
    omega (arith, codes.few)

pub loop-j-preserved : goal.loop-j-preserved
loop-j-preserved c =
    let s = c.args.self.scene in
    let h = setup_of s.hall.now in
    let l = c.loop-j in
    let ts = bed_terms h (bed_with (get_or s.codes.now l.j 0) (get_or s.gains.now l.j nan)) in
    let e = sym c.find_matching_input_bed_channel-found.ensures in
    bed_listed h c.args.self.input.codes.list.now s.codes.now s.gains.now l.j (omega arith) (omega (arith, s.paired)) (elim c.match-found.branch [
      | in-Some w ↦ put_found ts (e ∙ w.in-Some.is) w.lists-is w.put_bed.ensures
      | in_default w ↦ put_unfound ts (e ∙ w.in_default.is) w.lists-is l.invariant.sized
    ]) l.invariant
