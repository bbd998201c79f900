-- Refused calls count as never sent, for the rules' own results with their moments. Assumes nothing.
use mathlib.Core.Path.{◌≡◌, refl, sym, ap, subst}
use mathlib.Core.Bool.{Bool, true, false, cond, ◌||◌}
use mathlib.Core.List.{List, [], ◌∷◌}
use Prim.Native.Nat.{ℕ}
use lib.Dec.{T, eqb, ltb}
use lib.ListN.{length}
use Rattle.panning.specs.Setup.{Setup, hall_with}
use Rattle.rules.specs.Leaves.{Leaves}
use Rattle.rules.specs.Samples.{State, flushed}
use Rattle.rules.specs.Refusals.{Args, Found, clear, stop, room}
use Rattle.rules.specs.Making.{hall_of, layout_found, table_found}
use Rattle.rules.specs.Calls.{Call, push, flush, reset, make, make_with, mark, find, found, numbered, alike_marks, Result, is_refused, asked, drained, making, marking, step, run, final, kept, accepted}
use Rattle.rules.specs.Ahead.{WaitsStay}

only_refused : (b : Bool) → T (b || false) → T b
only_refused true t = tt
only_refused false t = absurd t

module _ (L : Leaves) where
  asked_stays : (v : Found) (a : Args) (r : State L) → T (is_refused (asked L v a r).answer) → (asked L v a r).next ≡ r
  asked_stays (stop n x y) a r h = refl
  asked_stays clear a r h = absurd h

  drained_stays : (b e : Bool) (r : State L) → T (is_refused (drained L b e r).answer) → (drained L b e r).next ≡ r
  drained_stays false e r h = refl
  drained_stays true true r h = absurd h
  drained_stays true false r h = absurd h

  made_stays : (v : Found) (h : Setup) (r : State L) → T (is_refused (making L v h r).answer) → (making L v h r).next ≡ r
  made_stays (stop n x y) h r t = refl
  made_stays clear h r t = absurd t

  marking_stays : (v known w : Bool) (d : ℕ) (r : State L) → T (is_refused (marking L v known w d r).answer) → (marking L v known w d r).next ≡ r
  marking_stays false known w d r t = refl
  marking_stays true true w d r t = absurd t
  marking_stays true false w d r t = absurd t

  -- a refused call leaves the renderer as it was
  pub stays : (r : State L) (c : Call) → T (is_refused (step L r c).answer) → (step L r c).next ≡ r
  stays r (push a) h = asked_stays (found L r a) a r h
  stays r (flush out stride) h = drained_stays (room stride (length out)) (eqb r.pending.count 0) r h
  stays r reset h = absurd h
  stays r (make n) h = made_stays (layout_found n) (hall_with n) r h
  stays r (make_with n t) h = made_stays (table_found n t) (hall_of n t) r h
  stays r (mark w d) h = marking_stays (ltb d (numbered L r)) (alike_marks w (L.wants d r.meta)) w d r h
  stays r (find m) h = absurd h

  -- what waits is touched by pushes, resets and making calls alone
  pub waits_stay : WaitsStay L
  unfolding flushed
  waits_stay r (push a) t = ap (λ (s : State L). s.waits) (stays r (push a) (only_refused _ t))
  waits_stay r (flush out stride) t = drained_waits (room stride (length out)) (eqb r.pending.count 0)
    where
      drained_waits : (b e : Bool) → (drained L b e r).next.waits ≡ r.waits
      drained_waits false e = refl
      drained_waits true true = refl
      drained_waits true false = refl
  waits_stay r reset t = absurd t
  waits_stay r (make n) t = ap (λ (s : State L). s.waits) (stays r (make n) (only_refused _ t))
  waits_stay r (make_with n b) t = ap (λ (s : State L). s.waits) (stays r (make_with n b) (only_refused _ t))
  waits_stay r (mark w d) t = marking_waits (ltb d (numbered L r)) (alike_marks w (L.wants d r.meta))
    where
      marking_waits : (v known : Bool) → (marking L v known w d r).next.waits ≡ r.waits
      marking_waits false known = refl
      marking_waits true true = refl
      marking_waits true false = refl
  waits_stay r (find m) t = refl

  pub forgotten : (r : State L) (cs : List Call) → run L r (kept L r cs) ≡ accepted L (run L r cs)
  forgotten r [] = refl
  forgotten r (c ∷ cs) = go (is_refused (step L r c).answer) refl (forgotten (step L r c).next cs)
    where
      go : (b : Bool) → is_refused (step L r c).answer ≡ b → run L (step L r c).next (kept L (step L r c).next cs) ≡ accepted L (run L (step L r c).next cs)
          → run L r (cond b (kept L (step L r c).next cs) (c ∷ kept L (step L r c).next cs))
          ≡ cond b (accepted L (run L (step L r c).next cs)) (step L r c ∷ accepted L (run L (step L r c).next cs))
      go true e h = subst (λ (s : State L). run L s (kept L (step L r c).next cs) ≡ accepted L (run L (step L r c).next cs)) (stays r c (subst T (sym e) tt)) h
      go false e h = ap (λ (t : List (Result L)). step L r c ∷ t) h

  pub same : (r : State L) (cs : List Call) → final L r (kept L r cs) ≡ final L r cs
  same r [] = refl
  same r (c ∷ cs) = go (is_refused (step L r c).answer) refl (same (step L r c).next cs)
    where
      go : (b : Bool) → is_refused (step L r c).answer ≡ b → final L (step L r c).next (kept L (step L r c).next cs) ≡ final L (step L r c).next cs
          → final L r (cond b (kept L (step L r c).next cs) (c ∷ kept L (step L r c).next cs)) ≡ final L (step L r c).next cs
      go true e h = subst (λ (s : State L). final L s (kept L (step L r c).next cs) ≡ final L (step L r c).next cs) (stays r c (subst T (sym e) tt)) h
      go false e h = h
