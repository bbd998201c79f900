-- An applied update keeps the ranges of the state. Assumes nothing.
use Prim.Native.Nat.{ℕ, ◌+◌, ◌-◌, ◌*◌, ◌≤◌, ◌<◌}
use mathlib.Core.Bool.{Bool, false}
use mathlib.Core.List.{List}
use lib.ListN.{get_or}
use native.Mathlib.Omega.{arith}
use Rattle.fields.specs.Update.{objects}
use Rattle.records.specs.Laid.{element_at}
use Rattle.timed.specs.Rules.{middle, no_block}
use Rattle.timed.specs.Slot.{InRange}
use Rattle.timed.specs.State.{Timed, Within, no_element}
use Rattle.timed.specs.declared.state.BlockState.{BlockState}
use Rattle.timed.specs.declared.state.ElementRendererState.{ElementRendererState}
use Rattle.timed.proofs.Theorems.{times_in, cond_keeps, set_each}
use Rattle.records.specs.WholeRecords.{WholeElement, WholeUpdate}
use Rattle.updates.specs.Said.{Element, element_said, update_of}
use Rattle.updates.specs.Applied.{Work, block_given, scheduled, element_next, is_kept, element_given, elements_applied, is_same, applied}

-- ---- an element

abbrev Fit : (BlockState → ℕ) → List BlockState → Type 0
Fit f s = (b : ℕ) → b < 8 → f (get_or s b no_block) ≤ 2097152

-- block b of an element, as it is scheduled
abbrev scheduled_as : Element → ℕ → BlockState
scheduled_as x b = record { offset = (x.block b).offset; ramp = (x.block b).ramp; used = false }

schedule_fits : (f : BlockState → ℕ) (x : Element) (s : List BlockState) → ((b : ℕ) → b < x.blocks → f (scheduled_as x b) ≤ 2097152) → Fit f s → Fit f (scheduled x s)
unfolding scheduled
schedule_fits f x s g h =
    times_in (Fit f) (block_given x) x.blocks
    (λ b t l i. set_each (λ (k : ℕ) (y : BlockState). k < 8 → f y ≤ 2097152) t b (scheduled_as x b) no_block (λ _. g b l) i)
    x.blocks 0 (omega arith) s h

element_range : (position : ℕ) (kept : Bool) (dynamic : ℕ) (m : List ℕ) (n p : ℕ) (s : ElementRendererState) → WholeElement m n p → InRange position s →
    InRange position (element_next kept dynamic (element_said m p) s)
unfolding element_next
element_range position kept dynamic m n p s w h =
    record {
      blocks = w.given.few;
      ramps = record {
        offsets = schedule_fits (λ (x : BlockState). x.offset) (element_said m p) s.schedule w.given.offsets h.ramps.offsets;
        ramps = schedule_fits (λ (x : BlockState). x.ramp) (element_said m p) s.schedule w.given.ramps h.ramps.ramps;
        most = cond_keeps (λ (x : ℕ). x ≤ 140737489403904) kept s.remaining middle (λ _. h.ramps.most) (λ _. omega arith);
        least = cond_keeps (λ (x : ℕ). middle ≤ x + (2097152 + 64 * position)) kept s.remaining middle (λ _. h.ramps.least) (λ _. omega arith);
      };
    }

-- ---- the update

abbrev Ranged : ℕ → Work → Type 0
Ranged position w = (i : ℕ) → i < 2 → InRange position (get_or w.states i no_element)

elements_range : (position : ℕ) (same : Bool) (m : List ℕ) (u : ℕ) (states : List ElementRendererState) (is : List ℕ) → WholeUpdate m u →
    Ranged position (record { states = states; infos = is }) → Ranged position (elements_applied same (update_of m u) states is)
unfolding elements_applied element_given
elements_range position same m u states is w h =
    let n = (update_of m u).elements in
    times_in (Ranged position) (element_given same (update_of m u)) n
    (λ e k l i.
    let s = get_or k.states e no_element in
    let x = element_said m (element_at m u e) in
    let kept = is_kept same s.blocks x.blocks in
    let dynamic = (update_of m u).objects - (update_of m u).isf in
    set_each (λ (j : ℕ) (y : ElementRendererState). j < 2 → InRange position y) k.states e (element_next kept dynamic x s) no_element
    (λ j. element_range position kept dynamic m (objects m u) (element_at m u e) s (w.each e l) (i e j)) i)
    n 0 (omega arith) (record { states = states; infos = is }) h

pub applied_within : (position : ℕ) (m : List ℕ) (u : ℕ) (t : Timed) → WholeUpdate m u → position ≤ 1099511627776 → Within position t.state →
    Within position (applied position (update_of m u) t).state
unfolding applied
applied_within position m u t w l h =
    let s = t.state in
    record {
      payload = l;
      objects = w.few_objects;
      isf = w.few_isf;
      dynamic = w.few_dynamic;
      beds = w.few_beds;
      channels = w.no_more_beds;
      elements = w.few_elements;
      states = elements_range position (is_same s (update_of m u)) m u s.states t.infos w h.states;
    }
