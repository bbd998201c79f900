-- On the block of a renderer a call is what the rules say of the renderer, and leaves the next renderer's block; refused calls count as never sent, to the byte. Assumes nothing
-- beyond `Facts`.
use Prim.Native.Nat.{ℕ}
use mathlib.Core.Path.{◌≡◌, refl, sym, ap, ap₂, ◌∙◌, subst}
use mathlib.Core.Bool.{Bool, true, false, cond, ◌&&◌}
use mathlib.Core.List.{List, [], ◌∷◌}
use lib.Dec.{T, eqb, ltb}
use lib.ListN.{length}
use borrow.Author.Tests.{eq-eqb, eqb-true}
use Rattle.panning.specs.Setup.{Setup, hall_with}
use Rattle.rules.specs.Leaves.{Leaves}
use Rattle.rules.specs.Samples.{State, fresh}
use Rattle.rules.specs.Refusals.{Args, Found, clear, stop, room}
use Rattle.rules.specs.Making.{hall_of, layout_found, table_found}
use Rattle.rules.specs.Calls.{Call, push, flush, reset, make, make_with, mark, find, Answer, refused, rendered, nothing, cleared, marked, place, found, numbered, alike_marks, with_meta, Result, is_refused, asked, drained, making, marking, step}
use Rattle.rules.specs.BlockCalls.{Layout, Outcome, left, out_of, stride_of, takes, made, run_on, final_on, kept_on, accepted_on, as_seen}
use Rattle.rules.specs.Demand3.{changes, LeftAlone}
use Rattle.rules.proofs.Owed.{Facts, InRanges}

-- what an answer says of the renderer after it
abbrev pub Means : (L : Leaves) → Answer → State L → State L → Type 0
Means L (refused k x y) s r = s ≡ r
Means L (rendered v m) s r = Unit {0}
Means L nothing s r = s ≡ r
Means L cleared s r = Unit {0}
Means L (marked true) s r = s ≡ with_meta L s.meta r
Means L (marked false) s r = s ≡ r
Means L (place p) s r = s ≡ r

module _ (L : Leaves) where
  asked_means : (v : Found) (a : Args) (r : State L) → Means L (asked L v a r).answer (asked L v a r).next r
  asked_means (stop n x y) a r = refl
  asked_means clear a r = tt

  drained_means : (b e : Bool) (r : State L) → Means L (drained L b e r).answer (drained L b e r).next r
  drained_means false e r = refl
  drained_means true true r = refl
  drained_means true false r = tt

  making_means : (v : Found) (h : Setup) (r : State L) → Means L (making L v h r).answer (making L v h r).next r
  making_means (stop n x y) h r = refl
  making_means clear h r = tt

  marking_means : (v known w : Bool) (d : ℕ) (r : State L) → Means L (marking L v known w d r).answer (marking L v known w d r).next r
  marking_means false known w d r = refl
  marking_means true true w d r = refl
  marking_means true false w d r = refl

  pub step_means : (r : State L) (c : Call) → Means L (step L r c).answer (step L r c).next r
  step_means r (push a) = asked_means (found L r a) a r
  step_means r (flush out stride) = drained_means (room stride (length out)) (eqb r.pending.count 0) r
  step_means r reset = tt
  step_means r (make n) = making_means (layout_found n) (hall_with n) r
  step_means r (make_with n t) = making_means (table_found n t) (hall_of n t) r
  step_means r (mark w d) = marking_means (ltb d (numbered L r)) (alike_marks w (L.wants d r.meta)) w d r
  step_means r (find m) = refl

module _ (L : Leaves) (B : Layout L) where
  -- ---- a refused call leaves the block as it was, byte for byte
  left_stays : (a : Answer) (s : State L) (out : List ℕ) (n : ℕ) (b : List ℕ) → T (is_refused (left L B a s out n b).answer) → (left L B a s out n b).state ≡ b
  left_stays (refused k x y) s out n b h = refl
  left_stays (rendered g m) s out n b h = absurd h
  left_stays nothing s out n b h = absurd h
  left_stays cleared s out n b h = absurd h
  left_stays (marked c) s out n b h = absurd h
  left_stays (place p) s out n b h = absurd h

  made_stays : (c : Call) (b : List ℕ) → T (is_refused (made L B c b).answer) → (made L B c b).state ≡ b
  made_stays c b = go (takes L B c b)
    where
      x : Result L
      x = step L (B.decode b) c

      good : Outcome
      good = left L B x.answer x.next (out_of c) (stride_of c) b

      bad : Outcome
      bad = record { answer = refused 1 0 0; state = b; out = out_of c }

      go : (t : Bool) → T (is_refused (cond t good bad).answer) → (cond t good bad).state ≡ b
      go true h = left_stays x.answer x.next (out_of c) (stride_of c) b h
      go false h = refl

  -- and so does an answer that changes nothing
  alone : (a : Answer) (s : State L) (out : List ℕ) (n : ℕ) (b : List ℕ) → changes (left L B a s out n b).answer ≡ false → (left L B a s out n b).state ≡ b
  alone (refused k x y) s out n b e = refl
  alone (rendered g m) s out n b e = absurd (subst T e tt)
  alone nothing s out n b e = refl
  alone cleared s out n b e = absurd (subst T e tt)
  alone (marked true) s out n b e = absurd (subst T e tt)
  alone (marked false) s out n b e = refl
  alone (place p) s out n b e = refl

  pub left_alone : LeftAlone L B
  left_alone b c = go (takes L B c b)
    where
      x : Result L
      x = step L (B.decode b) c

      good : Outcome
      good = left L B x.answer x.next (out_of c) (stride_of c) b

      bad : Outcome
      bad = record { answer = refused 1 0 0; state = b; out = out_of c }

      go : (t : Bool) → changes (cond t good bad).answer ≡ false → (cond t good bad).state ≡ b
      go true e = alone x.answer x.next (out_of c) (stride_of c) b e
      go false e = refl

  pub erased : (b : List ℕ) (cs : List Call) → run_on L B b (kept_on L B b cs) ≡ accepted_on L B (run_on L B b cs)
  erased b [] = refl
  erased b (c ∷ cs) = go (is_refused (made L B c b).answer) refl (erased (made L B c b).state cs)
    where
      b' : List ℕ
      b' = (made L B c b).state

      go : (t : Bool) → is_refused (made L B c b).answer ≡ t → run_on L B b' (kept_on L B b' cs) ≡ accepted_on L B (run_on L B b' cs)
          → run_on L B b (cond t (kept_on L B b' cs) (c ∷ kept_on L B b' cs)) ≡ cond t (accepted_on L B (run_on L B b' cs)) (made L B c b ∷ accepted_on L B (run_on L B b' cs))
      go true e h = subst (λ (s : List ℕ). run_on L B s (kept_on L B b' cs) ≡ accepted_on L B (run_on L B b' cs)) (made_stays c b (subst T (sym e) tt)) h
      go false e h = ap (λ (t : List Outcome). made L B c b ∷ t) h

  pub erased_left : (b : List ℕ) (cs : List Call) → final_on L B b (kept_on L B b cs) ≡ final_on L B b cs
  erased_left b [] = refl
  erased_left b (c ∷ cs) = go (is_refused (made L B c b).answer) refl (erased_left (made L B c b).state cs)
    where
      b' : List ℕ
      b' = (made L B c b).state

      go : (t : Bool) → is_refused (made L B c b).answer ≡ t → final_on L B b' (kept_on L B b' cs) ≡ final_on L B b' cs
          → final_on L B b (cond t (kept_on L B b' cs) (c ∷ kept_on L B b' cs)) ≡ final_on L B b' cs
      go true e h = subst (λ (s : List ℕ). final_on L B s (kept_on L B b' cs) ≡ final_on L B b' cs) (made_stays c b (subst T (sym e) tt)) h
      go false e h = h

  -- ---- a renderer is made in a block of the right length where nothing stops the making call
  abbrev pub made_by : List ℕ → Found → Setup → Outcome
  made_by b v h =
      let x = making L v h (B.decode b) in
      cond (eqb (length b) B.size) (left L B x.answer x.next [] 0 b) (record { answer = refused 1 0 0; state = b; out = [] })

  pub made_new : (b : List ℕ) → length b ≡ B.size → (v : Found) (h : Setup) → v ≡ clear
      → made_by b v h ≡ (record { answer = cleared; state = B.encode (fresh L h); out = [] })
  made_new b e v h c =
      ap (λ (t : Bool). cond t (by v) (record { answer = refused 1 0 0; state = b; out = [] })) (eq-eqb (length b) B.size e) ∙ ap by c
    where
      by : Found → Outcome
      by v = left L B (making L v h (B.decode b)).answer (making L v h (B.decode b)).next [] 0 b

  -- and in no other, and where something stops it never
  pub made_right : (b : List ℕ) (v : Found) (h : Setup) → is_refused (made_by b v h).answer ≡ false → (length b ≡ B.size) × (v ≡ clear)
  made_right b v h = go (eqb (length b) B.size) v refl refl
    where
      good : Found → Outcome
      good v = left L B (making L v h (B.decode b)).answer (making L v h (B.decode b)).next [] 0 b

      bad : Outcome
      bad = record { answer = refused 1 0 0; state = b; out = [] }

      go : (x : Bool) (w : Found) → eqb (length b) B.size ≡ x → v ≡ w → is_refused (cond x (good w) bad).answer ≡ false → (length b ≡ B.size) × (v ≡ clear)
      go true clear p q e = (eqb-true (length b) B.size p, q)
      go true (stop k x y) p q e = absurd (subst T e tt)
      go false w p q e = absurd (subst T e tt)

  module _ (F : Facts L B) where
    takes_it : (c : Call) (r : State L) → InRanges F r → takes L B c (B.encode r) ≡ true
    takes_it (push a) r g = F.valid r g
    takes_it (flush out stride) r g = F.valid r g
    takes_it reset r g = ap₂ (λ (x y : Bool). x && y) (eq-eqb (length (B.encode r)) B.size (F.size r g)) (F.hall_valid r g)
    takes_it (make n) r g = eq-eqb (length (B.encode r)) B.size (F.size r g)
    takes_it (make_with n t) r g = eq-eqb (length (B.encode r)) B.size (F.size r g)
    takes_it (mark w d) r g = F.valid r g
    takes_it (find m) r g = F.valid r g

    -- on the block of r, a call is what the rules say of r
    pub made_is : (c : Call) (r : State L) → InRanges F r → made L B c (B.encode r) ≡ left L B (step L r c).answer (step L r c).next (out_of c) (stride_of c) (B.encode r)
    made_is c r g =
        ap (λ (t : Bool). cond t (by (B.decode b)) (record { answer = refused 1 0 0; state = b; out = out_of c })) (takes_it c r g) ∙ ap by (F.back r g)
      where
        b : List ℕ
        b = B.encode r

        by : State L → Outcome
        by s = left L B (step L s c).answer (step L s c).next (out_of c) (stride_of c) b

    left_state : (a : Answer) (s r : State L) (out : List ℕ) (n : ℕ) → Means L a s r → (left L B a s out n (B.encode r)).state ≡ B.encode s
    left_state (refused k x y) s r out n m = ap B.encode (sym m)
    left_state (rendered v x) s r out n m = refl
    left_state nothing s r out n m = ap B.encode (sym m)
    left_state cleared s r out n m = refl
    left_state (marked true) s r out n m = refl
    left_state (marked false) s r out n m = ap B.encode (sym m)
    left_state (place p) s r out n m = ap B.encode (sym m)

    -- and the block after it is the next renderer's
    pub made_state : (c : Call) (r : State L) → InRanges F r → (made L B c (B.encode r)).state ≡ B.encode (step L r c).next
    made_state c r g = ap (λ (o : Outcome). o.state) (made_is c r g) ∙ left_state (step L r c).answer (step L r c).next r (out_of c) (stride_of c) (step_means L r c)

    pub same_seen : (a : Answer) (s : State L) (out : List ℕ) (n : ℕ) (b : List ℕ) → as_seen L B (left L B a s out n b) ≡ as_seen L B (left L B a s out n [])
    same_seen (refused k x y) s out n b = refl
    same_seen (rendered v m) s out n b = refl
    same_seen nothing s out n b = refl
    same_seen cleared s out n b = refl
    same_seen (marked c) s out n b = refl
    same_seen (place p) s out n b = refl
