-- A slot that rests changes nothing. Assumes nothing.
use Prim.Native.Nat.{ℕ, zero, suc, ◌+◌, ◌-◌, ◌<◌, ◌≤◌}
use mathlib.Core.Path.{◌≡◌, refl, ap, ◌∙◌}
use mathlib.Core.Bool.{Bool, true, false, cond, not, ◌&&◌, ◌||◌}
use mathlib.Core.List.{List}
use native.Mathlib.Nat.{not-suc-le-zero}
use native.Mathlib.Numerals.{add-one}
use native.Mathlib.Omega.{arith}
use borrow.Author.Tests.{eq-eqb, ne_eqb, eqb-true, eqb-false, le-leb, lt-leb}
use lib.Dec.{eqb}
use lib.ListN.{get_or, length, take}
use Rattle.std.specs.List.{list_all}
use Rattle.std.proofs.lemmas.List.Folds.{list_all_more}
use lib.Seq.{set-get_or}
use Rattle.timed.specs.Rules.{middle, no_block, no_element, element_of, remaining_of, ramp_over, due, active}
use Rattle.timed.specs.Slot.{SlotWork, slot_begun, block_turn, blocks_applied, ramp_applied, updated_sources}
use Rattle.timed.specs.State.{Timed, element_taken, timing_of, reach_of, slot_of, slot_moved, slot_at}
use Rattle.timed.specs.Holds.{holds_settled, all_settled}
use Rattle.timed.specs.Resting.{none_due, resting, rests_at}
use Rattle.timed.specs.declared.state.BlockState.{BlockState}
use Rattle.timed.specs.declared.state.ElementRendererState.{ElementRendererState}
use Rattle.timed.specs.declared.state.MetadataRendererState.{MetadataRendererState}
use Rattle.timed.specs.declared.slot.Timing.{Timing}
use Rattle.timed.specs.declared.slot.Reach.{Reach}
use Rattle.timed.proofs.Invariants.{times_in}
use Rattle.timed.proofs.Shifted.{over_shifted}
use Rattle.timed.proofs.Settled.{both, freed_none, holds_stand}

-- ---- tests
not_so : (a : Bool) → not a ≡ true → a ≡ false
not_so true e = let z : ◌≡◌ {A = ℕ} 0 1 = cc in absurd (omega arith)
not_so false e = refl

-- ---- an element

-- none of the blocks passed is due
not_due : (w : Timing) (bs : List BlockState) (n i : ℕ) → none_due w bs n ≡ true → i < n → due w (get_or bs i no_block) ≡ false
unfolding none_due
not_due w bs zero i h l = absurd (not-suc-le-zero l)
not_due w bs (suc n) i h l = by (eqb i n) refl (λ k. not_due w bs n i p.0 k)
  where
    p : (none_due w bs n ≡ true) × (not (due w (get_or bs n no_block)) ≡ true)
    p = both (none_due w bs n) (not (due w (get_or bs n no_block))) h

    by : (b : Bool) → eqb i n ≡ b → (i < n → due w (get_or bs i no_block) ≡ false) → due w (get_or bs i no_block) ≡ false
    by true e before = rw (eqb-true i n e) (not_so (due w (get_or bs n no_block)) p.1)
    by false e before = before (let d = eqb-false i n e in omega arith)

-- each of the first n blocks
all_due : (w : Timing) (bs : List BlockState) (n : ℕ) → n ≤ length bs → list_all (λ b. not (due w b)) (take n bs) ≡ none_due w bs n
unfolding none_due
all_due w bs zero h = refl
all_due w bs (suc n) h =
    let e : suc n ≡ n + 1 = omega arith in
    rw e (list_all_more (λ b. not (due w b)) bs n no_block (omega arith)) ∙ ap (λ (b : Bool). b && not (due w (get_or bs n no_block))) (all_due w bs n (omega arith))

-- one that is not due more
pub none_more : (w : Timing) (bs : List BlockState) (n : ℕ) → none_due w bs n ≡ true → due w (get_or bs n no_block) ≡ false → none_due w bs (n + 1) ≡ true
unfolding none_due
none_more w bs n h d = rw (add-one, h, d)

-- one that is due
some_due : (w : Timing) (bs : List BlockState) (n i : ℕ) → due w (get_or bs i no_block) ≡ true → i < n → none_due w bs n ≡ false
some_due w bs n i d l = by (none_due w bs n) refl
  where
    by : (b : Bool) → none_due w bs n ≡ b → b ≡ false
    by true e = let f = not_due w bs n i e l in cc
    by false e = refl

-- the test, way by way
module _ (w : Timing) (e : ElementRendererState) where
  pub ramp_left : middle < e.remaining → resting w e ≡ false
  unfolding resting
  ramp_left h = rw (over_shifted e.remaining, lt-leb e.remaining middle h)

  pub block_due : (i : ℕ) → i < e.blocks → due w (get_or e.schedule i no_block) ≡ true → resting w e ≡ false
  unfolding resting
  block_due i l d = rw (some_due w e.schedule e.blocks i d l) (by (ramp_over (remaining_of e.remaining)))
    where
      by : (b : Bool) → (b && false) ≡ false
      by true = refl
      by false = refl

  pub all_rests : e.remaining ≤ middle → none_due w e.schedule e.blocks ≡ true → resting w e ≡ true
  unfolding resting
  all_rests h n = rw (over_shifted e.remaining, le-leb e.remaining middle h, n)

  pub blocks_rest : e.remaining ≤ middle → e.blocks ≤ length e.schedule → list_all (λ b. not (due w b)) (take e.blocks e.schedule) ≡ resting w e
  unfolding resting
  blocks_rest h n = rw (over_shifted e.remaining, le-leb e.remaining middle h) (all_due w e.schedule e.blocks n)

none_applied : (w : Timing) (r : Reach) (n : ℕ) (k : SlotWork) → none_due w k.slot.schedule n ≡ true → blocks_applied w r n k ≡ k
unfolding blocks_applied
none_applied w r n k h =
    times_in (λ (s : SlotWork). s ≡ k) (block_turn w r) n (λ i s l e. rw (e, not_due w k.slot.schedule n i h l)) n 0 (omega arith) k refl

module _ (w : Timing) (t : Timed) (i : ℕ) where
  -- a slot of an element that rests, where no hold or release waits
  rest_of : all_settled t.state.sources (t.state.objects - t.state.isf) ≡ true → resting w (element_of t.state i) ≡ true → slot_of w i t ≡ t
  unfolding resting slot_of updated_sources ramp_applied
  rest_of settled h =
      let s = t.state in
      let e = element_of s i in
      let p = both (ramp_over (remaining_of e.remaining)) (none_due w e.schedule e.blocks) h in
      let k = slot_begun e s.gains s.sources t.infos in
      let still = freed_none (reach_of s i).count (record { sources = s.sources; tracks = e.tracks }) settled in
      rw (none_applied w (reach_of s i) e.blocks k p.1, p.0, still, set-get_or s.states i no_element)

-- ---- the slot

pub slot_rests : (start : ℕ) (t : Timed) → rests_at start t.state ≡ true → slot_at start t ≡ t
unfolding rests_at slot_at slot_moved
slot_rests start t h =
    let s = t.state in
    let w = timing_of start s in
    let i = element_taken w s.states s.elements in
    let p = both (all_settled s.sources (s.objects - s.isf)) (eqb s.elements 0 || not (active (element_of s i)) || resting w (element_of s i)) h in
    let moved = by (eqb s.elements 0) (active (element_of s i)) (resting w (element_of s i)) (slot_of w i t) p.1 (rest_of w t i p.0) in
    let stands = holds_stand s p.0 in
    ap (λ (m : Timed). record { state = holds_settled m.state; infos = m.infos }) moved ∙ (λ j. record { state = stands j; infos = t.infos })
  where
    by : (none on still : Bool) (after : Timed) → (none || not on || still) ≡ true → (still ≡ true → after ≡ t) → cond none t (cond on after t) ≡ t
    by true on still after e f = refl
    by false true still after e f = f e
    by false false still after e f = refl

and_true : (b : Bool) → (b && true) ≡ b
and_true true = refl
and_true false = refl

-- the code's ways to `rests_at`, where holds and releases may wait
pub rests_empty : (start : ℕ) (s : MetadataRendererState) → s.elements ≡ 0 → rests_at start s ≡ all_settled s.sources (s.objects - s.isf)
unfolding rests_at
rests_empty start s e = rw (eq-eqb s.elements 0 e) (and_true (all_settled s.sources (s.objects - s.isf)))

module _ (start : ℕ) (s : MetadataRendererState) (i : ℕ) (some : s.elements ≡ 0 → ⊥) (found : i ≡ element_taken (timing_of start s) s.states s.elements) where
  pub rests_idle : active (element_of s i) ≡ false → rests_at start s ≡ all_settled s.sources (s.objects - s.isf)
  unfolding rests_at
  rests_idle a = rw (ne_eqb s.elements 0 some, ← found, a) (and_true (all_settled s.sources (s.objects - s.isf)))

  pub rests_element : active (element_of s i) ≡ true → rests_at start s ≡ (all_settled s.sources (s.objects - s.isf) && resting (timing_of start s) (element_of s i))
  unfolding rests_at
  rests_element a = rw (ne_eqb s.elements 0 some, ← found, a)
