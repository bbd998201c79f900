-- Every block that an accepted call leaves lies within its ranges, whatever bytes the block before it was. Assumes nothing beyond `Facts`.
use mathlib.Core.Path.{◌≡◌, refl, sym, subst}
use mathlib.Core.Bool.{Bool, true, false, cond}
use mathlib.Core.List.{List, []}
use Prim.Native.Nat.{ℕ, ◌+◌}
use lib.Dec.{T, eqb, ltb}
use lib.ListN.{length}
use Rattle.words.specs.Words.{Bytes}
use Rattle.panning.specs.Setup.{Setup, hall_with}
use Rattle.rules.specs.Leaves.{Leaves}
use Rattle.rules.specs.Samples.{State, fresh, opened, pushed, flushed}
use Rattle.rules.specs.Refusals.{Args, Found, clear, stop, room}
use Rattle.rules.specs.Making.{hall_of, layout_found, table_found}
use Rattle.rules.specs.Calls.{Call, push, flush, reset, make, make_with, mark, find, Answer, refused, rendered, nothing, cleared, marked, place, is_refused, frame_of, ahead_after, found, numbered, alike_marks, asked, drained, making, marking, step}
use Rattle.rules.specs.Ranges.{HallRanged}
use Rattle.rules.specs.BlockCalls.{Layout, Outcome, left, out_of, stride_of, takes}
use Rattle.rules.specs.Demand3.{Lent, Keeps}
use Rattle.rules.proofs.Owed.{Facts, InRanges}
use Rattle.rules.proofs.Clock.{position_moves}
use Rattle.rules.proofs.Judged.{is_passed, and_true}
use Rattle.rules.proofs.Making.{layout_makes, table_makes}
use Rattle.rules.proofs.Ranged.{fresh_ranged, pushed_ranged, flushed_ranged, marked_ranged, settled_ranged}

module _ (L : Leaves) (B : Layout L) (F : Facts L B) where
  pub fresh_all : (h : Setup) → HallRanged h → InRanges F (fresh L h)
  fresh_all h e = record { renderer = fresh_ranged L B F h e; ahead = F.ahead_none }

  -- ---- a call keeps the ranges of the renderer
  moved : (r : State L) (a : Args) → (pushed L (frame_of L r a) r).next.clock.position ≡ r.clock.position + a.samples
  unfolding pushed
  moved r a = position_moves L (frame_of L r a) a.samples 0 (opened L a.rate r)

  pub asked_ranged : (r : State L) (a : Args) → Bytes a.meta → (v : Found) → found L r a ≡ v → InRanges F r → InRanges F (asked L v a r).next
  asked_ranged r a h (stop n x y) e g = g
  asked_ranged r a h clear e g =
      let p = is_passed L r a e in
      let ws = ahead_after L r a in
      record {
        renderer = settled_ranged L B F ws (pushed L (frame_of L r a) r).next (pushed_ranged L B F r a h p g.renderer g.ahead);
        ahead = subst (λ (n : ℕ). F.Ahead n ws) (sym (moved r a))
            (F.ahead_settle r.clock.position a.samples r.waits a.meta p.early.position g.ahead h p.early.laid_out p.early.in_range p.fits);
      }

  drained_ranged : (r : State L) (t e : Bool) → InRanges F r → InRanges F (drained L t e r).next
  drained_ranged r false e g = g
  drained_ranged r true true g = g
  drained_ranged r true false g = record { renderer = flushed_ranged L B F r g.renderer; ahead = unfold flushed in g.ahead }

  making_ranged : (v : Found) (h : Setup) (r : State L) → (v ≡ clear → HallRanged h) → InRanges F r → InRanges F (making L v h r).next
  making_ranged (stop n x y) h r e g = g
  making_ranged clear h r e g = fresh_all h (e refl)

  marking_ranged : (v known w : Bool) (d : ℕ) (r : State L) → InRanges F r → InRanges F (marking L v known w d r).next
  marking_ranged false known w d r g = g
  marking_ranged true true w d r g = g
  marking_ranged true false w d r g = record { renderer = marked_ranged L B F w d r g.renderer; ahead = g.ahead }

  pub step_ranged : (r : State L) (c : Call) → Lent c → InRanges F r → InRanges F (step L r c).next
  step_ranged r (push a) h g = asked_ranged r a h.1 (found L r a) refl g
  step_ranged r (flush out stride) h g = drained_ranged r (room stride (length out)) (eqb r.pending.count 0) g
  step_ranged r reset h g = fresh_all r.setup g.renderer.setup
  step_ranged r (make n) h g = making_ranged (layout_found n) (hall_with n) r (layout_makes n) g
  step_ranged r (make_with n t) h g = making_ranged (table_found n t) (hall_of n t) r (table_makes n t h) g
  step_ranged r (mark w d) h g = marking_ranged (ltb d (numbered L r)) (alike_marks w (L.wants d r.meta)) w d r g
  step_ranged r (find m) h g = g

  -- ---- a block that was taken
  left_valid : (a : Answer) (s : State L) (out : List ℕ) (n : ℕ) (b : List ℕ) → B.valid b ≡ true → InRanges F s → B.valid (left L B a s out n b).state ≡ true
  left_valid (refused k x y) s out n b v g = v
  left_valid (rendered w m) s out n b v g = F.valid s g
  left_valid nothing s out n b v g = v
  left_valid cleared s out n b v g = F.valid s g
  left_valid (marked true) s out n b v g = F.valid s g
  left_valid (marked false) s out n b v g = v
  left_valid (place p) s out n b v g = v

  pub keeps : Keeps L B
  keeps b bytes c h e = go (takes L B c b) refl e
    where
      r : State L
      r = B.decode b

      -- what is left where the block is taken
      good : Call → Outcome
      good c = left L B (step L r c).answer (step L r c).next (out_of c) (stride_of c) b

      bad : Outcome
      bad = record { answer = refused 1 0 0; state = b; out = out_of c }

      new : (v : Found) (h : Setup) → (v ≡ clear → HallRanged h) → is_refused (left L B (making L v h r).answer (making L v h r).next [] 0 b).answer ≡ false
          → B.valid (left L B (making L v h r).answer (making L v h r).next [] 0 b).state ≡ true
      new (stop n x y) h q e = absurd (subst T e tt)
      new clear h q e = F.valid (fresh L h) (fresh_all h (q refl))

      by : (c : Call) → Lent c → takes L B c b ≡ true → is_refused (good c).answer ≡ false → B.valid (good c).state ≡ true
      by (push a) h t e = left_valid (step L r (push a)).answer (step L r (push a)).next a.out a.stride b t (step_ranged r (push a) h (F.decoded b bytes t))
      by (flush out n) h t e = left_valid (step L r (flush out n)).answer (step L r (flush out n)).next out n b t (step_ranged r (flush out n) h (F.decoded b bytes t))
      by reset h t e = F.valid (fresh L r.setup) (fresh_all r.setup (F.setup b bytes (and_true (eqb (length b) B.size) (B.hall_valid b) t).1))
      by (make n) h t e = new (layout_found n) (hall_with n) (layout_makes n) e
      by (make_with n s) h t e = new (table_found n s) (hall_of n s) (table_makes n s h) e
      by (mark w d) h t e = left_valid (step L r (mark w d)).answer (step L r (mark w d)).next [] 0 b t (step_ranged r (mark w d) h (F.decoded b bytes t))
      by (find m) h t e = t

      go : (t : Bool) → takes L B c b ≡ t → is_refused (cond t (good c) bad).answer ≡ false → B.valid (cond t (good c) bad).state ≡ true
      go true t e = by c h t e
      go false t e = absurd (subst T e tt)
