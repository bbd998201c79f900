-- An object with a hold asked for stays where it is over calls in a row, until something ends the hold. Assumes nothing beyond `Facts`.
use mathlib.Core.Path.{◌≡◌, refl, sym, ap, ◌∙◌, subst}
use mathlib.Core.Bool.{Bool, true, false, not, ◌||◌}
use mathlib.Core.List.{List, [], ◌∷◌}
use Prim.Native.Nat.{ℕ, ◌<◌}
use native.Mathlib.Nat.{le_trans, le_of_eq, not-suc-le-zero}
use borrow.Author.Tests.{eqb-true, eqb-false}
use lib.Dec.{T, eqb, ltb}
use lib.ListN.{length, get_or}
use lib.Ieee.{Float}
use Rattle.vectors.specs.declared.Vec3.{Vec3}
use Rattle.panning.specs.Setup.{Setup, hall_with}
use Rattle.rules.specs.Leaves.{Leaves, Source, Shape}
use Rattle.rules.specs.Samples.{State, fresh, flushed}
use Rattle.rules.specs.Refusals.{Args, Found, clear, stop, room}
use Rattle.rules.specs.Making.{hall_of, layout_found, table_found}
use Rattle.rules.specs.Calls.{updates_in, Call, push, flush, reset, make, make_with, mark, find, is_refused, found, numbered, alike_marks, Result, asked, drained, making, marking, step, final}
use Rattle.rules.specs.Promises.{nobody, up_to, object_in, Numbered, Holding, PushHolds}
use Rattle.rules.specs.Ringing.{fed_since}
use Rattle.rules.specs.BlockCalls.{Layout}
use Rattle.rules.specs.Demand3.{Lent, AllLent}
use Rattle.rules.specs.Held.{spares, Spared, HeardAt, HeldAt, HeldStill}
use Rattle.rules.proofs.Owed.{Facts}
use Rattle.rules.proofs.Called.{steady}
use Rattle.rules.proofs.Marks.{is_numbered}
use Rattle.rules.proofs.Demand3FromFacts.{Between, between_fresh, call_holds, step_between}

module _ (L : Leaves) (B : Layout L) (F : Facts L B) (d : ℕ) (p : Vec3) where
  -- held at p
  record Now (r : State L) : Type 0 where
    numbered : Numbered L r d
    wants : L.wants d r.meta ≡ true
    place : (object_in L r.meta d).place ≡ p

  abbrev Then : State L → Result L → Type 0
  Then r x = HeardAt L d p r x × Now x.next

  module _ (r : State L) (i : Now r) where
    pushed_then : (a : Args) → PushHolds L r a → a.objects ≡ (L.shape r.meta).objects → Then r (asked L clear a r)
    pushed_then a q e =
        let h : Holding L r a d = q.holds d (le_trans i.numbered.1 (le_of_eq (sym e))) in (
          λ t l. h.heard (sym e) i.wants t (le_trans l (le_of_eq q.moments)) (ap (λ (b : Bool). b || up_to L t (updates_in L r a)) i.numbered.0) ∙ i.place,
          record { numbered = h.numbered (sym e) i.numbered; wants = h.lasts (sym e) ∙ i.wants; place = h.stays (sym e) i.wants ∙ i.place },
        )

    asked_then : (a : Args) → (found L r a ≡ clear → PushHolds L r a) → (v : Found) → found L r a ≡ v
        → T (is_refused (asked L v a r).answer || eqb a.objects (L.shape r.meta).objects) → Then r (asked L v a r)
    asked_then a q (stop n x y) e t = (λ t l. absurd (not-suc-le-zero l), i)
    asked_then a q clear e t = pushed_then a (q e) (eqb-true a.objects (L.shape r.meta).objects (is_true _ t))
      where
        is_true : (b : Bool) → T b → b ≡ true
        is_true true t = refl
        is_true false t = absurd t

    drained_then : (t e : Bool) → Then r (drained L t e r)
    unfolding flushed
    drained_then false e = (λ t l. absurd (not-suc-le-zero l), i)
    drained_then true true = (λ t l. absurd (not-suc-le-zero l), i)
    drained_then true false = (λ t l. absurd (not-suc-le-zero l), record { numbered = i.numbered; wants = i.wants; place = i.place })

    making_then : (v : Found) (h : Setup) → T (is_refused (making L v h r).answer || false) → Then r (making L v h r)
    making_then (stop n x y) h t = (λ t l. absurd (not-suc-le-zero l), i)
    making_then clear h t = absurd t

    module _ (sound : F.Sound r.meta) (w : Bool) (e : ℕ) where
      wants_yet : Numbered L r e → (b : Bool) → eqb e d ≡ b → T (w || not b) → L.wants d (L.want w e r.meta) ≡ true
      wants_yet n true q t =
          subst (λ (k : ℕ). L.wants k (L.want w e r.meta) ≡ true) (eqb-true e d q) (F.wants_want w e r.meta sound n.1 ∙ is_on w t)
        where
          is_on : (w : Bool) → T (w || false) → w ≡ true
          is_on true t = refl
          is_on false t = absurd t
      wants_yet n false q t = F.wants_other w e d r.meta (λ z. eqb-false e d q (sym z)) ∙ i.wants

      marking_then : (v known : Bool) → ltb e (numbered L r) ≡ v → T (is_refused (marking L v known w e r).answer || (w || not (eqb e d))) → Then r (marking L v known w e r)
      marking_then false known q t = (λ t l. absurd (not-suc-le-zero l), i)
      marking_then true true q t = (λ t l. absurd (not-suc-le-zero l), i)
      marking_then true false q t =
          let shape = F.shape_want w e r.meta in (
            λ t l. absurd (not-suc-le-zero l),
            record {
              numbered = (ap (λ (x : Shape). x.started) shape ∙ i.numbered.0, subst (λ (x : Shape). d < x.objects) (sym shape) i.numbered.1);
              wants = wants_yet (is_numbered L r e q) (eqb e d) refl t;
              place = ap (λ (os : List Source). (get_or os d nobody).place) (F.objects_want w e r.meta) ∙ i.place;
            },
          )

    then_call : {xs : List Float} (c : Call) → Between L B F xs r → Lent c → T (is_refused (step L r c).answer || spares d (L.shape r.meta).objects c) → Then r (step L r c)
    then_call (push a) g h t = asked_then a (call_holds L B F r (push a) g h).1 (found L r a) refl t
    then_call (flush out stride) g h t = drained_then (room stride (length out)) (eqb r.pending.count 0)
    then_call reset g h t = absurd t
    then_call (make n) g h t = making_then (layout_found n) (hall_with n) t
    then_call (make_with n b) g h t = making_then (table_found n b) (hall_of n b) t
    then_call (mark w e) g h t = marking_then (steady L B F g.rest).meta w e (ltb e (numbered L r)) (alike_marks w (L.wants e r.meta)) refl t
    then_call (find m) g h t = (λ t l. absurd (not-suc-le-zero l), i)

  held_on : (ds : List Call) (xs : List Float) (r : State L) → Between L B F xs r → Now r → AllLent ds → Spared L d r ds → HeldAt L d p r ds
  held_on [] xs r g i h s = (i.wants, i.place)
  held_on (c ∷ ds) xs r g i h s =
      let x = then_call r i c g h.0 s.0 in (x.0, held_on ds (fed_since L xs r c) (step L r c).next (step_between L B F xs r c g h.0) x.1 h.1 s.1)

module _ (L : Leaves) (B : Layout L) (F : Facts L B) where
  record Reached (r : State L) : Type 0 where
    fed : List Float
    between : Between L B F fed r

  reached : (cs : List Call) (xs : List Float) (r : State L) → Between L B F xs r → AllLent cs → Reached (final L r cs)
  reached [] xs r g h = record { fed = xs; between = g }
  reached (c ∷ cs) xs r g h = reached cs (fed_since L xs r c) (step L r c).next (step_between L B F xs r c g h.0) h.1

  pub held_still : HeldStill L
  held_still h right cs ds l k d n w s =
      let r = final L (fresh L h) cs in
      let g = reached cs [] (fresh L h) (between_fresh L B F h right) l in
      held_on L B F d (object_in L r.meta d).place ds g.fed r g.between (record { numbered = n; wants = w; place = refl }) k s
