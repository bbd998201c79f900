-- A slot keeps the ranges of an element's offsets, ramps and remaining ramp. Assumes nothing.
use Prim.Native.Nat.{ℕ, ◌+◌, ◌-◌, ◌*◌, ◌≤◌, ◌<◌}
use mathlib.Core.Path.{◌≡◌, sym, ◌∙◌, subst}
use mathlib.Core.Bool.{Bool, true, false, cond}
use mathlib.Core.List.{List}
use lib.Dec.{T, ltb}
use lib.ListN.{get_or}
use native.Mathlib.Omega.{arith}
use borrow.Author.Tests.{ltb-true, leb-false}
use Rattle.timed.proofs.Shifted.{due_shifted_is, left_shifted_is, over_shifted, less_shifted}
use Rattle.timed.proofs.Invariants.{times_in, cond_keeps, set_each}
use Rattle.timed.specs.Rules.{middle, no_block, due, remaining_of, ramp_over}
use Rattle.timed.specs.Preconditions.{Ramps, InRange}
use Rattle.timed.specs.Slot.{SlotWork, block_applied, block_turn, blocks_applied, ramp_applied, updated_sources}
use Rattle.timed.specs.declared.state.BlockState.{BlockState}
use Rattle.timed.specs.declared.state.Track.{Track}
use Rattle.timed.specs.declared.state.DynamicSourceState.{DynamicSourceState}
use Rattle.timed.specs.declared.state.ElementRendererState.{ElementRendererState}
use Rattle.timed.specs.declared.slot.Timing.{Timing}
use Rattle.timed.specs.declared.slot.Reach.{Reach}
use Rattle.timed.specs.declared.slot.Slot.{Slot}
use lib.Ieee.{Float}

-- ---- blocks

both : (u t : Bool) → cond u false t ≡ true → t ≡ true
both true t e = absurd (subst T (sym e) tt)
both false t e = e

abbrev pub InSlot : ℕ → SlotWork → Type 0
InSlot p k = Ramps p k.slot.schedule k.slot.remaining

most : (ramp offset payload start : ℕ) → ramp ≤ 2097152 → payload + offset < start + 1048576 → middle + ramp + offset + payload - (start + 2097152) ≤ 140737489403904
most ramp offset payload start h d = omega arith

least : (p ramp offset payload start : ℕ) → start ≤ p → middle ≤ middle + ramp + offset + payload - (start + 2097152) + (2097152 + 64 * p)
least p ramp offset payload start l = omega arith

-- a slot that starts no later than the stream position p
module _ (p : ℕ) (w : Timing) (r : Reach) (early : w.start.0 ≤ p) where
  applied_ramps : (b : ℕ) (k : SlotWork) → b < 8 → due w (get_or k.slot.schedule b no_block) ≡ true → InSlot p k → InSlot p (block_applied w r b k)
  unfolding block_applied
  applied_ramps b k l d h =
      let x = get_or k.slot.schedule b no_block in
      let y : BlockState = record { offset = x.offset; ramp = x.ramp; used = true } in
      let t = ltb-true (w.payload.0 + x.offset) (w.start.0 + 1048576) (both x.used (ltb (w.payload.0 + x.offset) (w.start.0 + 1048576)) (sym (due_shifted_is w x) ∙ d)) in
      record {
        offsets = set_each (λ i z. i < 8 → z.offset ≤ 2097152) k.slot.schedule b y no_block (h.offsets b) h.offsets;
        ramps = set_each (λ i z. i < 8 → z.ramp ≤ 2097152) k.slot.schedule b y no_block (h.ramps b) h.ramps;
        most = rw (left_shifted_is w x) (most x.ramp x.offset w.payload.0 w.start.0 (h.ramps b l) t);
        least = rw (left_shifted_is w x) (least p x.ramp x.offset w.payload.0 w.start.0 early);
      }

  pub blocks_ramps : (n : ℕ) (k : SlotWork) → n ≤ 8 → InSlot p k → InSlot p (blocks_applied w r n k)
  unfolding blocks_applied
  blocks_ramps n k few h =
      times_in (InSlot p) (block_turn w r) n
      (λ b s l i. cond_keeps (InSlot p) (due w (get_or s.slot.schedule b no_block)) (block_applied w r b s) s (λ d. applied_ramps b s (omega arith) d i) (λ _. i))
      n 0 (omega arith) k h

-- ---- the ramp

pub ramp_ramps : (p : ℕ) (before : List Track) (n : ℕ) (s : Slot) → Ramps p s.schedule s.remaining →
    Ramps p (ramp_applied before n s).schedule (ramp_applied before n s).remaining
unfolding ramp_applied
ramp_ramps p before n s h =
    cond_keeps (λ (x : Slot). Ramps p x.schedule x.remaining) (ramp_over (remaining_of s.remaining)) _ _ (λ _. h)
    (λ e.
    let g = leb-false s.remaining middle (sym (over_shifted s.remaining) ∙ e) in
    record {
      offsets = h.offsets;
      ramps = h.ramps;
      most = rw (less_shifted s.remaining) (omega (arith, h.most));
      least = rw (less_shifted s.remaining) (omega (arith, g));
    })

-- ---- the element

pub sources_range : (p : ℕ) (w : Timing) (r : Reach) (e : ElementRendererState) (gains : List Float) (sources : List DynamicSourceState) (is : List ℕ) →
    w.start.0 ≤ p → InRange p e → InRange p (updated_sources w r e gains sources is).updated.element
unfolding updated_sources
sources_range p w r e gains sources is early h =
    record { blocks = h.blocks; ramps = ramp_ramps p e.tracks r.count _ (blocks_ramps p w r early e.blocks _ h.blocks h.ramps) }

pub later : (p q : ℕ) (e : ElementRendererState) → p ≤ q → InRange p e → InRange q e
later p q e l h =
    let r = h.ramps in
    record { blocks = h.blocks; ramps = record { offsets = r.offsets; ramps = r.ramps; most = r.most; least = omega (arith, r.least) } }
