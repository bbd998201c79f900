-- The laws of specs/HoldLaws. Assumes nothing.
use Prim.Native.Nat.{ℕ, zero, suc, ◌-◌}
use mathlib.Core.Path.{◌≡◌, refl, sym, ap, ◌∙◌}
use mathlib.Core.Bool.{Bool, true, false, cond, not, ◌&&◌, and-false}
use mathlib.Core.List.{List, [], ◌∷◌}
use lib.Dec.{eqb}
use lib.Ieee.{Float}
use lib.ListN.{get_or, set}
use lib.Seq.{set-get_or, get_or-set_other}
use Rattle.vectors.specs.declared.Vec3.{Vec3}
use Rattle.vectors.specs.Target.{placed}
use Rattle.timed.specs.Infos.{block_position}
use Rattle.timed.specs.Objects.{no_source, object_moved, ramped, freed}
use Rattle.timed.specs.Holds.{with_sources, with_marks, mark_settled_at, wanting, holds_settled}
use Rattle.timed.specs.Rules.{element_of, active}
use Rattle.timed.specs.State.{Timed, element_taken, timing_of, slot_of, slot_moved, slot_at}
use Rattle.timed.specs.HoldLaws.{object_numbered, HeldStays, StillWanted, Settles, Again, Undone}
use Rattle.timed.specs.declared.state.DynamicSourceState.{DynamicSourceState}
use Rattle.timed.specs.declared.state.MetadataRendererState.{MetadataRendererState}
use Rattle.timed.specs.declared.state.Track.{Track}
use Rattle.timed.proofs.Invariants.{cond_keeps}
use Rattle.timed.proofs.SlotEach.{slot_each}
use Rattle.timed.proofs.TurnAt.{made}

-- ---- what is asked for

wanted_moved : (arrived : Bool) (k : ℕ) (s : DynamicSourceState) (is : List ℕ) → (object_moved arrived k s is).moved.source.wanted ≡ s.wanted
unfolding object_moved
wanted_moved arrived k s is = refl

pub still_wanted : StillWanted
unfolding ramped freed
still_wanted start d t =
    let P : ℕ → DynamicSourceState → Type 0 = λ i s. s.wanted ≡ (get_or t.state.sources i no_source).wanted in
    slot_each P (λ arrived k is i s h. wanted_moved arrived k s is ∙ h) (λ x last k i s h. cond_keeps (P i) k.now _ s (λ _. h) (λ _. h))
    (λ k i s h. cond_keeps (P i) (k.now && (s.held && not s.wanted)) _ s (λ _. h) (λ _. h)) (λ i s h. h) start t (λ i. refl) d

-- a slot keeps the counts
pub moved_counts : (start : ℕ) (t : Timed) → (slot_moved start t).state.objects - (slot_moved start t).state.isf ≡ t.state.objects - t.state.isf
unfolding slot_moved slot_of
moved_counts start t =
    let s = t.state in
    let w = timing_of start s in
    let i = element_taken w s.states s.elements in
    let P : Timed → Type 0 = λ x. x.state.objects - x.state.isf ≡ s.objects - s.isf in
    cond_keeps P (eqb s.elements 0) t _ (λ _. refl) (λ _. cond_keeps P (active (element_of s i)) (slot_of w i t) t (λ _. refl) (λ _. refl))

held_set : (l : List DynamicSourceState) (d : ℕ) → (get_or (mark_settled_at d l) d no_source).held ≡ (get_or (mark_settled_at d l) d no_source).wanted
held_set [] d = refl
held_set (x ∷ l) zero = refl
held_set (x ∷ l) (suc d) = held_set l d

pub settles : Settles
unfolding slot_at holds_settled
settles start d t l =
    let s = (slot_moved start t).state in
    made (λ _. Unit {0}) (λ (x : List DynamicSourceState). (get_or x d no_source).held ≡ (get_or x d no_source).wanted) mark_settled_at (s.objects - s.isf) d (λ i x q u. tt)
    (λ x u. held_set x d)
    (λ i x q ne h.
    let o = get_or x i no_source in
    rw (get_or-set_other x i d (with_marks o.wanted o.wanted o) no_source (λ e. ne (sym e))) h)
    (rw (moved_counts start t) l) s.sources tt
    ∙ still_wanted start d t

later_wins : (v w : Bool) (d : ℕ) (s : MetadataRendererState) → wanting w d (wanting v d s) ≡ wanting w d s
unfolding wanting
later_wins v w d s = ap (λ (l : List DynamicSourceState). with_sources l s) (by s.sources d)
  where
    marked : Bool → ℕ → List DynamicSourceState → List DynamicSourceState
    marked w d l = let o = get_or l d no_source in set l d (with_marks w o.held o)

    by : (l : List DynamicSourceState) (d : ℕ) → marked w d (marked v d l) ≡ marked w d l
    by [] d = refl
    by (x ∷ l) zero = refl
    by (x ∷ l) (suc d) = ap (λ (k : List DynamicSourceState). x ∷ k) (by l d)

pub again : Again
unfolding wanting
again w d s h =
    let o = get_or s.sources d no_source in
    ap (λ (b : Bool). with_sources (set s.sources d (with_marks b o.held o)) s) (sym h)
    ∙ ap (λ (l : List DynamicSourceState). with_sources l s) (set-get_or s.sources d no_source)

pub undone : Undone
undone w d s h = later_wins (not w) w d s ∙ again w d s h

-- ---- a held object

module _ (p : Vec3) where
  -- it is held, at p
  abbrev Stands : DynamicSourceState → Type 0
  Stands s = (s.wanted ≡ true) × (s.place ≡ p)

  stands_moved : (arrived : Bool) (k : ℕ) (is : List ℕ) (s : DynamicSourceState) → Stands s → Stands (object_moved arrived k s is).moved.source
  unfolding object_moved
  stands_moved arrived k is s h = (h.0, rw h.0 (by (block_position is k).valid arrived (placed (block_position is k) s.place).target))
    where
      by : (valid arrived : Bool) (to : Vec3) → cond (valid && arrived && false) to s.place ≡ p
      by true true to = h.1
      by true false to = h.1
      by false arrived to = h.1

  stands_ramped : (t : Float) (last : Bool) (k : Track) (s : DynamicSourceState) → Stands s → Stands (ramped t last k s)
  unfolding ramped
  stands_ramped t last k s h = cond_keeps Stands k.now _ s (λ _. (h.0, rw h.0 h.1)) (λ _. h)

  stands_freed : (k : Track) (s : DynamicSourceState) → Stands s → Stands (freed k s)
  unfolding freed
  stands_freed k s h = rw (h.0, and-false s.held, and-false k.now) (refl, h.1)

pub held_stays : HeldStays
held_stays start d t h =
    let p = (object_numbered d t.state).place in
    (slot_each (λ i s. i ≡ d → Stands p s) (λ arrived k is i s f e. stands_moved p arrived k is s (f e)) (λ x last k i s f e. stands_ramped p x last k s (f e))
    (λ k i s f e. stands_freed p k s (f e)) (λ i s f. f) start t (λ i e. rw e (h, refl)) d refl).1
