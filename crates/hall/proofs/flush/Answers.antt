-- `flush`: each way out by its law.
use mathlib.Core.Path.{refl, sym, ◌∙◌}
use borrow.Author.Tests.{eq-eqb}
use Rattle.rules.specs.Calls.{flush}
use Rattle.hall.proofs.WaysOut.{leaves_as, wrong, no_room, nothing_waits}
use native.Mathlib.Omega.{arith}
use Rattle.theorem.specs.Instance.{front}
use Rattle.hall.proofs.Known.{valid_whole, valid_front, pos_of, loaded_pending, whole_again}
use Rattle.hall.proofs.Done.{flushed_left}
use Rattle.hall.proofs.flush.Goals as goal

pub returns-then-not-is_valid : goal.returns-then-not-is_valid
returns-then-not-is_valid c =
    let a = c.args in
    leaves_as (wrong (flush a.out.now a.stride) a.state.now (sym c.is_valid.ensures ∙ c.if-not-is_valid.true))
    (record { answer = refl; block = refl; output = refl })

pub returns-then-not-room : goal.returns-then-not-room
returns-then-not-room c =
    let a = c.args in
    leaves_as (no_room a.out.now a.stride a.state.now (sym c.is_valid.ensures ∙ c.if-not-is_valid.false)
    (sym c.room.ensures ∙ c.if-not-room.true))
    (record { answer = refl; block = refl; output = refl })

pub unwrap-block-requires : goal.unwrap-block-requires
unwrap-block-requires c =
    let l = valid_whole c.args.state.now (sym c.is_valid.ensures ∙ c.if-not-is_valid.false) in
    c.first_chunk_mut.ensures.variant.1 (omega (arith, l))

pub returns-then-s-eq0 : goal.returns-then-s-eq0
returns-then-s-eq0 c =
    let a = c.args in
    let e = (rw c.unwrap-block.ensures at c.first_chunk_mut.ensures.cases).same in
    let v = sym c.is_valid.ensures ∙ c.if-not-is_valid.false in
    leaves_as (nothing_waits a.out.now a.stride a.state.now v (sym c.room.ensures ∙ c.if-not-room.false)
    (eq-eqb _ _ (loaded_pending (front a.state.now) _ (rw e at c.load-s.ensures) ∙ c.if-s-eq0.true)))
    (record { answer = refl; block = whole_again a.state.now e; output = refl })

pub drain-requires : goal.drain-requires
drain-requires c =
    let e = (rw c.unwrap-block.ensures at c.first_chunk_mut.ensures.cases).same in
    record {
      loaded = record { small = c.load-s.ensures; valid = rw e (valid_front c.args.state.now (sym c.is_valid.ensures ∙ c.if-not-is_valid.false)) };
      room = sym c.room.ensures ∙ c.if-not-room.false;
      some = pos_of _ c.if-s-eq0.false;
    }

pub returns : goal.returns
returns c =
    let a = c.args in
    let e = (rw c.unwrap-block.ensures at c.first_chunk_mut.ensures.cases).same in
    flushed_left a.state.now a.out.now a.stride (sym c.is_valid.ensures ∙ c.if-not-is_valid.false) (sym c.room.ensures ∙ c.if-not-room.false)
    (λ z. c.if-s-eq0.false (sym (loaded_pending (front a.state.now) c.load-s.result (rw e at c.load-s.ensures)) ∙ z))
    (rw e at c.drain.ensures)
