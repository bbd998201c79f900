-- A slot of the whole state, case by case: the element that it takes, and what it does. Assumes nothing.
use Prim.Native.Nat.{ℕ, zero, suc, ◌+◌, ◌-◌, ◌*◌, ◌<◌, ◌≤◌}
use mathlib.Core.Path.{◌≡◌}
use mathlib.Core.Bool.{true, false, cond}
use mathlib.Core.List.{List}
use lib.ListN.{get_or}
use native.Mathlib.Omega.{arith}
use borrow.Author.Tests.{eq-eqb, ne_eqb}
use Rattle.timed.proofs.Invariants.{cond_keeps}
use Rattle.timed.specs.Rules.{begins, active}
use Rattle.timed.specs.Slot.{updated_sources}
use Rattle.timed.specs.TimedResults.{IsUpdated, IsTimed}
use Rattle.timed.specs.State.{Timed, no_element, element_taken, element_of, timing_of, slot_left, slot_of, slot_moved}
use Rattle.timed.specs.declared.state.ElementRendererState.{ElementRendererState}
use Rattle.timed.specs.declared.state.MetadataRendererState.{MetadataRendererState}
use Rattle.timed.specs.declared.slot.Timing.{Timing}
use Rattle.timed.specs.declared.slot.Updated.{Updated}

-- one step of the downward search
pub taken_more : (w : Timing) (es : List ElementRendererState) (i : ℕ) → 0 < i →
    element_taken w es i ≡ cond (begins w (get_or es (i - 1) no_element)) (i - 1) (element_taken w es (i - 1))
unfolding element_taken
taken_more w es zero h = absurd (omega arith)
taken_more w es (suc i) h = let e : suc i - 1 ≡ i = omega arith in rw e

-- a slot of an element, from what the element did
pub slot_left_is :
    (w : Timing) (i : ℕ) (s : MetadataRendererState) (is : List ℕ) (n : ℕ) (u : Updated) (out : List ℕ) → n ≡ s.objects - s.isf →
    IsUpdated (updated_sources w (record { beds = i * 256; channels = s.beds; first = i * 256 + 8 * s.isf; count = n }) (element_of s i) s.gains s.sources is) u out →
    IsTimed (slot_of w i (record { state = s; infos = is })) (slot_left s i (record { updated = u; infos = out })).state out
unfolding slot_of
slot_left_is w i s is n u out e h =
    let g = rw e at h in
    record { state = rw g.updated; infos = g.infos }

pub taken_low : (w : Timing) (es : List ElementRendererState) (n : ℕ) → n ≤ 2 → element_taken w es n < 2
unfolding element_taken
taken_low w es zero h = omega arith
taken_low w es (suc i) h = cond_keeps (λ (x : ℕ). x < 2) (begins w (get_or es i no_element)) i (element_taken w es i) (λ _. omega arith) (λ _. taken_low w es i (omega arith))

-- no element: nothing happens
pub slot_empty : (start : ℕ) (t : Timed) → t.state.elements ≡ 0 → IsTimed (slot_moved start t) t.state t.infos
unfolding slot_moved
slot_empty start t e = let q = eq-eqb t.state.elements 0 e in record { state = rw q; infos = rw q }

module _ (start : ℕ) (t : Timed) (i : ℕ) (some : t.state.elements ≡ 0 → ⊥) (found : i ≡ element_taken (timing_of start t.state) t.state.states t.state.elements) where
  -- the element taken does nothing
  pub slot_idle : active (element_of t.state i) ≡ false → IsTimed (slot_moved start t) t.state t.infos
  unfolding slot_moved
  slot_idle a = let q = ne_eqb t.state.elements 0 some in record { state = rw (q, ← found, a); infos = rw (q, ← found, a) }

  -- the element taken has its slot
  pub slot_moves : (s : MetadataRendererState) (is : List ℕ) → active (element_of t.state i) ≡ true → IsTimed (slot_of (timing_of start t.state) i t) s is →
      IsTimed (slot_moved start t) s is
  unfolding slot_moved
  slot_moves s is a h = let q = ne_eqb t.state.elements 0 some in rw (q, ← found, a) h
