-- Document 01, demand 3, for every list of calls. Assumes nothing beyond `Facts`, which the crates `timed`, `records` and `store` prove.
use mathlib.Core.Path.{◌≡◌, refl, sym, ap, ap₂, ◌∙◌, subst}
use mathlib.Core.Logic.{inl}
use mathlib.Core.Bool.{Bool, true, false}
use mathlib.Core.List.{List, [], ◌∷◌}
use Prim.Native.Nat.{ℕ}
use borrow.Author.Tests.{lt-leb}
use lib.Dec.{eqb, ltb}
use lib.ListN.{length}
use lib.Ieee.{Float}
use Rattle.panning.specs.Setup.{Setup, hall_with, table_right}
use Rattle.panning.proofs.Theorems.{built_in_right}
use Rattle.rules.specs.Leaves.{Leaves, Shape}
use Rattle.rules.specs.Samples.{State, fresh, flushed}
use Rattle.rules.specs.Refusals.{Args, Found, clear, stop, unless, room}
use Rattle.rules.specs.Making.{hall_of, layout_found, table_found}
use Rattle.rules.specs.Calls.{Call, push, flush, reset, make, make_with, mark, find, is_refused, found, numbered, alike_marks, asked, drained, making, marking, step, final}
use Rattle.rules.specs.Promises.{Refuses, MakeHolds, CallHolds, AllHold}
use Rattle.rules.specs.Ringing.{fed_since, AllRing}
use Rattle.rules.specs.Ranges.{HallRanged}
use Rattle.rules.specs.BlockCalls.{Layout, Outcome, out_of, stride_of, final_on, Seen, as_seen, made, seen_on, told}
use Rattle.rules.specs.Demand3.{GivenOut, AllClean, Lent, AllLent, Makes, AllGivenOut, Demand3, EveryList, EveryLayout, EveryTable, BuiltInAlike}
use Rattle.rules.proofs.Owed.{Facts, InRanges}
use Rattle.rules.proofs.Invariant.{Rest, fresh_rest}
use Rattle.rules.proofs.Making.{ranged_fits, layout_good, table_good, as_layout, layout_makes, table_makes}
use Rattle.rules.proofs.Called.{called, steady}
use Rattle.rules.proofs.Marks.{mark_holds}
use Rattle.rules.proofs.AheadRefused.{ahead_refused}
use Rattle.rules.proofs.Keeps.{fresh_all, step_ranged}
use Rattle.rules.proofs.Quiet.{Hush}
use Rattle.rules.proofs.Pushes.{push_holds, hush_pushed}
use Rattle.rules.proofs.Ringing.{Fed, fresh_fed, call_rings, step_fed}
use Rattle.rules.proofs.Clean as kept
use Rattle.rules.proofs.Flushes.{flush_holds}
use Rattle.rules.proofs.Erased.{forgotten, same}
use Rattle.rules.proofs.StateBlocks.{erased, erased_left, made_by, made_new, made_right, made_is, made_state, same_seen}

module _ (L : Leaves) (B : Layout L) (F : Facts L B) where
  -- what holds of a renderer between calls, xs having been fed to its low-pass
  pub record Between (xs : List Float) (r : State L) : Type 0 where
    pub rest : Rest L B F r
    pub ranges : InRanges F r
    pub hush : Hush L r
    pub fed : Fed L xs r

  pub between_fresh : (h : Setup) → HallRanged h → Between [] (fresh L h)
  between_fresh h r = record { rest = fresh_rest L B F h (ranged_fits r); ranges = fresh_all L B F h r; hush = λ e. inl refl; fed = fresh_fed L h }

  -- a making call, stopped or not
  made_stopped : (v : Found) (h : Setup) (r : State L) (n x y : ℕ) → v ≡ stop n x y → Refuses L r n x y (making L v h r)
  made_stopped v h r n x y e = record { answer = ap (λ (w : Found). (making L w h r).answer) e; next = ap (λ (w : Found). (making L w h r).next) e }

  made_holds : (v : Found) (h : Setup) (r : State L) → v ≡ clear → MakeHolds L h (making L v h r)
  made_holds v h r e =
      record {
        answer = ap (λ (w : Found). (making L w h r).answer) e;
        next = ap (λ (w : Found). (making L w h r).next) e;
        freed = λ d. ap (λ (w : Found). L.wants d (making L w h r).next.meta) e ∙ F.wants_blank d;
        empty = ap (λ (w : Found). (making L w h r).next.waits) e;
      }

  pub call_holds : {xs : List Float} (r : State L) (c : Call) → Between xs r → Lent c → CallHolds L r c
  call_holds r (push a) g h = (
    λ n x y e. record { answer = ap (λ (v : Found). (asked L v a r).answer) e; next = ap (λ (v : Found). (asked L v a r).next) e },
    λ e. push_holds L B F r a h.0 h.1 g.rest e g.hush,
    ahead_refused L r a,
  )
  call_holds r (flush out stride) g h = (
    λ e. record {
      answer = ap (λ (b : Bool). (drained L b (eqb r.pending.count 0) r).answer) e;
      next = ap (λ (b : Bool). (drained L b (eqb r.pending.count 0) r).next) e;
    },
    flush_holds L B F r g.rest out stride,
  )
  call_holds r reset g h = record { answer = refl; next = refl; freed = F.wants_blank; empty = refl }
  call_holds r (make n) g h = (
    λ l. made_stopped (layout_found n) (hall_with n) r 15 0 0 (ap (λ (t : Bool). unless t 15 0 0) (lt-leb n 3 l)),
    λ l. made_holds (layout_found n) (hall_with n) r (layout_good n l),
  )
  call_holds r (make_with n t) g h = (made_stopped (table_found n t) (hall_of n t) r, made_holds (table_found n t) (hall_of n t) r)
  call_holds r (mark w d) g h = mark_holds L B F w d r (steady L B F g.rest).meta
  call_holds r (find m) g h = record { answer = refl; next = refl; silent = refl }

  asked_hush : {xs : List Float} (r : State L) (a : Args) → Between xs r → Lent (push a) → (v : Found) → found L r a ≡ v → Hush L (asked L v a r).next
  asked_hush r a g h (stop n x y) e = g.hush
  asked_hush r a g h clear e = hush_pushed L B F r a h.0 h.1 g.rest e g.hush

  drained_hush : (r : State L) (t e : Bool) → Hush L r → Hush L (drained L t e r).next
  unfolding flushed
  drained_hush r false e g = g
  drained_hush r true true g = g
  drained_hush r true false g = g

  made_hush : (v : Found) (h : Setup) (r : State L) → Hush L r → Hush L (making L v h r).next
  made_hush (stop n x y) h r g = g
  made_hush clear h r g = λ e. inl refl

  marking_hush : (v known w : Bool) (d : ℕ) (r : State L) → Hush L r → Hush L (marking L v known w d r).next
  marking_hush false known w d r g = g
  marking_hush true true w d r g = g
  marking_hush true false w d r g = λ e. g (sym (ap (λ (s : Shape). s.started) (F.shape_want w d r.meta)) ∙ e)

  step_hush : {xs : List Float} (r : State L) (c : Call) → Between xs r → Lent c → Hush L (step L r c).next
  step_hush r (push a) g h = asked_hush r a g h (found L r a) refl
  step_hush r (flush out stride) g h = drained_hush r (room stride (length out)) (eqb r.pending.count 0) g.hush
  step_hush r reset g h = λ e. inl refl
  step_hush r (make n) g h = made_hush (layout_found n) (hall_with n) r g.hush
  step_hush r (make_with n t) g h = made_hush (table_found n t) (hall_of n t) r g.hush
  step_hush r (mark w d) g h = marking_hush (ltb d (numbered L r)) (alike_marks w (L.wants d r.meta)) w d r g.hush
  step_hush r (find m) g h = g.hush

  -- what holds of the calls from a renderer, and from its block
  record Run (xs : List Float) (r : State L) (cs : List Call) : Type 0 where
    range : AllGivenOut L B r (B.encode r) cs
    seen : seen_on L B (B.encode r) cs ≡ told L B r cs
    block : final_on L B (B.encode r) cs ≡ B.encode (final L r cs)
    clean : AllClean L r cs
    calls : AllHold L r cs
    rings : AllRing L xs r cs

  pub step_between : (xs : List Float) (r : State L) (c : Call) → Between xs r → Lent c → Between (fed_since L xs r c) (step L r c).next
  step_between xs r c g h =
      record { rest = (called L B F r g.rest c h).rest; ranges = step_ranged L B F r c h g.ranges; hush = step_hush r c g h; fed = step_fed L B F xs r c h g.rest g.fed }

  runs : (cs : List Call) (xs : List Float) (r : State L) → Between xs r → AllLent cs → Run xs r cs
  runs [] xs r g h = record { range = tt; seen = refl; block = refl; clean = kept.clean L B F r g.rest g.fed; calls = tt; rings = tt }
  runs (c ∷ cs) xs r g h =
      let x = step L r c in
      let d = called L B F r g.rest c h.0 in
      let n = runs cs (fed_since L xs r c) x.next (step_between xs r c g h.0) h.1 in
      let is = made_is L B F c r g.ranges in
      let at = made_state L B F c r g.ranges in
      record {
        range = (subst (GivenOut r.setup (stride_of c) (out_of c)) (sym is) (d.range (B.encode r)), subst (λ (b : List ℕ). AllGivenOut L B x.next b cs) (sym at) n.range);
        seen = ap₂ (λ (y : Seen L B) (ys : List (Seen L B)). y ∷ ys)
            (ap (as_seen L B) is ∙ same_seen L B F x.answer x.next (out_of c) (stride_of c) (B.encode r)) (ap (λ (b : List ℕ). seen_on L B b cs) at ∙ n.seen);
        block = ap (λ (b : List ℕ). final_on L B b cs) at ∙ n.block;
        clean = (kept.clean L B F r g.rest g.fed, n.clean);
        calls = (call_holds r c g h.0, n.calls);
        rings = (call_rings L B F xs r c h.0 g.rest g.fed, n.rings);
      }

  pub from_fresh : (h : Setup) → HallRanged h → (cs : List Call) → AllLent cs → Demand3 L B h (B.encode (fresh L h)) cs
  from_fresh h right cs lent =
      let m = runs cs [] (fresh L h) (between_fresh h right) lent in
      record {
        start = refl;
        range = m.range;
        seen = m.seen;
        block = m.block;
        clean = m.clean;
        calls = m.calls;
        rings = m.rings;
        erased = erased L B (B.encode (fresh L h)) cs;
        left = erased_left L B (B.encode (fresh L h)) cs;
        forgotten = forgotten L (fresh L h) cs;
        same = same L (fresh L h) cs;
      }

  -- an accepted making call makes a hall in its ranges, and leaves a new renderer in it
  made_by_in : (b : List ℕ) (v : Found) (h : Setup) → (v ≡ clear → HallRanged h) → is_refused (made_by L B b v h).answer ≡ false
      → HallRanged h × ((made_by L B b v h).state ≡ B.encode (fresh L h))
  made_by_in b v h right e = let q = made_right L B b v h e in (right q.1, ap (λ (o : Outcome). o.state) (made_new L B b q.0 v h q.1))

  pub made_in : (b : List ℕ) (m : Call) → Lent m → (h : Setup) → Makes m h → is_refused (made L B m b).answer ≡ false
      → HallRanged h × ((made L B m b).state ≡ B.encode (fresh L h))
  made_in b (push a) l h s e = absurd s
  made_in b (flush out stride) l h s e = absurd s
  made_in b reset l h s e = absurd s
  made_in b (make n) l h s e =
      subst (λ (h : Setup). HallRanged h × ((made L B (make n) b).state ≡ B.encode (fresh L h))) (sym s) (made_by_in b (layout_found n) (hall_with n) (layout_makes n) e)
  made_in b (mark w d) l h s e = absurd s
  made_in b (find m) l h s e = absurd s
  made_in b (make_with n t) l h s e =
      subst (λ (h : Setup). HallRanged h × ((made L B (make_with n t) b).state ≡ B.encode (fresh L h))) (sym s)
      (made_by_in b (table_found n t) (hall_of n t) (table_makes n t l) e)

  pub every_list : EveryList L B
  every_list b bytes m l h s e cs lent =
      let q = made_in b m l h s e in subst (λ (d : List ℕ). Demand3 L B h d cs) (sym q.1) (from_fresh h q.0 cs lent)

  pub every_layout : EveryLayout L B
  every_layout b e n h = ap (λ (o : Outcome). o.answer) (made_new L B b e (layout_found n) (hall_with n) (layout_good n h))

  pub every_table : EveryTable L B
  every_table b e n h t long right =
      ap (λ (o : Outcome). o.answer) (made_new L B b e (table_found n t) (hall_of n t) (table_good n t (record { layout = h; long = long; right = right })))

  pub built_in_alike : BuiltInAlike L B
  built_in_alike b n t long same =
      ap₂ (made_by L B b) (as_layout n t long (ap table_right same ∙ built_in_right)) (ap (λ (w : List ℕ). record { layout = n; table = w }) same)
