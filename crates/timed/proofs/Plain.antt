-- The law of specs/Plain: a slot where no object has a mark is that of document 01. Assumes nothing.
use Prim.Native.Nat.{ℕ, zero, suc, ◌+◌, ◌-◌, ◌*◌}
use mathlib.Core.Path.{◌≡◌, refl, ap, ap₂, ◌∙◌}
use mathlib.Core.Bool.{Bool, true, false, cond, not, ◌&&◌}
use mathlib.Core.List.{List, [], ◌∷◌}
use native.Mathlib.Omega.{arith}
use lib.Dec.{eqb}
use lib.Ieee.{Float}
use lib.ListN.{get_or, set, replicate}
use Rattle.timed.specs.Infos.{block_position}
use Rattle.timed.specs.Turns.{times}
use Rattle.timed.specs.Objects.{ObjectsWork, no_source, no_track, object_moved, moved_at, moved_all, bed_gains, ramped, ramped_at, ramped_all, freed}
use Rattle.timed.specs.Holds.{is_settled, all_settled}
use Rattle.timed.specs.Rules.{no_block, element_of, remaining_of, kept_as, due, left_after, ramp_over, share, slot_less, active}
use Rattle.timed.specs.Slot.{SlotWork, Sourced, slot_begun, block_applied, block_turn, blocks_applied, ramp_applied, updated_sources}
use Rattle.timed.specs.State.{Timed, element_taken, timing_of, reach_of, slot_left, slot_of, slot_moved, slot_at}
use Rattle.timed.specs.Plain.{plain_moved, plain_moved_at, plain_applied, plain_turn, plain_ramped, plain_ramped_at, plain_ramp, plain_sources, plain_slot, Unheld, Unmarked, FreeSame}
use Rattle.timed.specs.declared.state.Track.{Track}
use Rattle.timed.specs.declared.state.DynamicSourceState.{DynamicSourceState}
use Rattle.timed.specs.declared.state.ElementRendererState.{ElementRendererState}
use Rattle.timed.specs.declared.objects.Moving.{Moving}
use Rattle.timed.specs.declared.slot.Timing.{Timing}
use Rattle.timed.specs.declared.slot.Reach.{Reach}
use Rattle.timed.specs.declared.slot.Slot.{Slot}
use Rattle.timed.proofs.Invariants.{times_both, cond_keeps, set_each}
use Rattle.timed.proofs.SlotEach.{moved_slot_each, slot_each}
use Rattle.timed.proofs.Settled.{freed_none, holds_stand}

-- ---- an object

moved_free : (arrived : Bool) (k : ℕ) (is : List ℕ) (s : DynamicSourceState) → Unheld s → Unheld (object_moved arrived k s is).moved.source
unfolding object_moved
moved_free arrived k is s h = record { wanted = h.wanted; held = h.held }

moved_same : (arrived : Bool) (k : ℕ) (is : List ℕ) (s : DynamicSourceState) → Unheld s → object_moved arrived k s is ≡ plain_moved arrived k s is
unfolding object_moved plain_moved
moved_same arrived k is s h = rw (by ((block_position is k).valid && arrived) s.wanted h.wanted)
  where
    by : (b wanted : Bool) → wanted ≡ false → (b && not wanted) ≡ b
    by true wanted e = rw e
    by false wanted e = refl

ramped_free : (t : Float) (last : Bool) (k : Track) (s : DynamicSourceState) → Unheld s → Unheld (ramped t last k s)
unfolding ramped
ramped_free t last k s h = cond_keeps Unheld k.now _ s (λ _. record { wanted = h.wanted; held = h.held }) (λ _. h)

ramped_same : (t : Float) (last : Bool) (k : Track) (s : DynamicSourceState) → Unheld s → ramped t last k s ≡ plain_ramped t last k s
unfolding ramped plain_ramped
ramped_same t last k s h = rw h.wanted

-- a table of objects that are not held, and what stands past its end
pub same_unheld : (o : DynamicSourceState) → Unheld o → (n d : ℕ) → Unheld (get_or (replicate n o) d no_source)
same_unheld o h zero d = record { wanted = refl; held = refl }
same_unheld o h (suc n) zero = h
same_unheld o h (suc n) (suc d) = same_unheld o h n d

free_settled : (s : DynamicSourceState) → Unheld s → is_settled s ≡ true
free_settled s h = rw (h.wanted, h.held)

unmarked_settled : (l : List DynamicSourceState) (n : ℕ) → Unmarked l → all_settled l n ≡ true
unfolding all_settled
unmarked_settled l zero h = refl
unmarked_settled [] (suc n) h = refl
unmarked_settled (s ∷ l) (suc n) h = ap₂ ◌&&◌ (free_settled s (h 0)) (unmarked_settled l n (λ d. h (suc d)))

-- ---- the loops: the same, and no object has a mark after them

record Same {S : Type 0} (sources : S → List DynamicSourceState) (x y : S) : Type 0 where
  same : x ≡ y
  free : Unmarked (sources x)

moved_at_same : (arrived : Bool) (first i : ℕ) (x y : ObjectsWork) → Same (λ w. w.moving.sources) x y → Same (λ w. w.moving.sources) (moved_at arrived first i x) (plain_moved_at arrived first i y)
moved_at_same arrived first i x y h =
    let s = get_or x.moving.sources i no_source in
    let n = first + 8 * i in
    record {
      same = (λ j. record {
        moving = record {
          sources = set x.moving.sources i (moved_same arrived n x.infos s (h.free i) j).moved.source;
          tracks = set x.moving.tracks i (moved_same arrived n x.infos s (h.free i) j).moved.track;
        };
        infos = (moved_same arrived n x.infos s (h.free i) j).infos;
      })
          ∙ ap (plain_moved_at arrived first i) h.same;
      free = set_each (λ _. Unheld) x.moving.sources i (object_moved arrived n s x.infos).moved.source no_source (moved_free arrived n x.infos s (h.free i)) h.free;
    }

moved_all_same : (arrived : Bool) (first n : ℕ) (m : Moving) (is : List ℕ) → Unmarked m.sources →
    Same (λ w. w.moving.sources) (moved_all arrived first n m is) (times n 0 (plain_moved_at arrived first) (record { moving = m; infos = is }))
unfolding moved_all
moved_all_same arrived first n m is h =
    times_both (Same (λ w. w.moving.sources)) (moved_at arrived first) (plain_moved_at arrived first) n (λ i x y l. moved_at_same arrived first i x y) n 0 (omega arith)
    (record { moving = m; infos = is }) (record { moving = m; infos = is }) (record { same = refl; free = h })

module _ (w : Timing) (r : Reach) where
  applied_same : (b : ℕ) (k : SlotWork) → Unmarked k.slot.moving.sources → Same (λ x. x.slot.moving.sources) (block_applied w r b k) (plain_applied w r b k)
  unfolding block_applied plain_applied
  applied_same b k h =
      let s = k.slot in
      let block = get_or s.schedule b no_block in
      let m = moved_all_same (ramp_over (left_after w block)) (r.first + b) r.count s.moving k.infos h in
      record {
        same = λ j. record {
          slot = record {
            schedule = set s.schedule b (record { offset = block.offset; ramp = block.ramp; used = true });
            remaining = kept_as (left_after w block);
            gains = bed_gains k.infos (r.beds + b) r.channels s.gains;
            moving = (m.same j).moving;
          };
          infos = (m.same j).infos;
        };
        free = m.free;
      }

  blocks_same : (n : ℕ) (k : SlotWork) → Unmarked k.slot.moving.sources → Same (λ x. x.slot.moving.sources) (blocks_applied w r n k) (times n 0 (plain_turn w r) k)
  unfolding blocks_applied
  blocks_same n k h =
      times_both (Same (λ x. x.slot.moving.sources)) (block_turn w r) (plain_turn w r) n
      (λ b x y l q.
      let a = applied_same b x q.free in
      record {
        same = ap (λ (z : SlotWork). cond (due w (get_or x.slot.schedule b no_block)) z x) a.same ∙ ap (plain_turn w r b) q.same;
        free =
            cond_keeps (λ (z : SlotWork). Unmarked z.slot.moving.sources) (due w (get_or x.slot.schedule b no_block)) (block_applied w r b x) x (λ _. a.free) (λ _. q.free);
      })
      n 0 (omega arith) k k (record { same = refl; free = h })

ramped_all_same : (t : Float) (before : List Track) (n : ℕ) (m : Moving) → Unmarked m.sources → ramped_all t before n m ≡ times n 0 (plain_ramped_at t before) m
unfolding ramped_all
ramped_all_same t before n m h =
    (times_both (Same (λ x. x.sources)) (ramped_at t before) (plain_ramped_at t before) n
    (λ i x y l q.
    let last = (get_or before i no_track).now in
    let k = get_or x.tracks i no_track in
    let s = get_or x.sources i no_source in
    record {
      same = (λ j. record { sources = set x.sources i (ramped_same t last k s (q.free i) j); tracks = x.tracks }) ∙ ap (plain_ramped_at t before i) q.same;
      free = set_each (λ _. Unheld) x.sources i (ramped t last k s) no_source (ramped_free t last k s (q.free i)) q.free;
    })
    n 0 (omega arith) m m (record { same = refl; free = h })).same

ramp_same : (before : List Track) (n : ℕ) (s : Slot) → Unmarked s.moving.sources → ramp_applied before n s ≡ plain_ramp before n s
unfolding ramp_applied plain_ramp
ramp_same before n s h =
    let stays = freed_none n s.moving (unmarked_settled s.moving.sources n h) in
    let moves = ramped_all_same (share (remaining_of s.remaining)) before n s.moving h in
    λ j. cond (ramp_over (remaining_of s.remaining)) (record { schedule = s.schedule; remaining = s.remaining; gains = s.gains; moving = stays j })
    (record { schedule = s.schedule; remaining = kept_as (slot_less (remaining_of s.remaining)); gains = s.gains; moving = moves j })

-- ---- the slot

sources_same : (w : Timing) (r : Reach) (e : ElementRendererState) (gains : List Float) (sources : List DynamicSourceState) (is : List ℕ) → Unmarked sources →
    updated_sources w r e gains sources is ≡ plain_sources w r e gains sources is
unfolding updated_sources plain_sources
sources_same w r e gains sources is h =
    let k = slot_begun e gains sources is in
    let b = blocks_same w r e.blocks k h in
    let left : Slot → List ℕ → Sourced = λ s js.
    record {
      updated = record {
        element = record { blocks = e.blocks; flags = e.flags; remaining = s.remaining; schedule = s.schedule; tracks = s.moving.tracks };
        gains = s.gains;
        sources = s.moving.sources;
      };
      infos = js;
    } in
    let l = blocks_applied w r e.blocks k in
    ap (λ (s : Slot). left s l.infos) (ramp_same e.tracks r.count l.slot b.free) ∙ ap (λ (x : SlotWork). left (plain_ramp e.tracks r.count x.slot) x.infos) b.same

moved_slot_same : (start : ℕ) (t : Timed) → Unmarked t.state.sources → slot_moved start t ≡ plain_slot start t
unfolding slot_moved slot_of plain_slot
moved_slot_same start t h =
    let s = t.state in
    let w = timing_of start s in
    let i = element_taken w s.states s.elements in
    let e = element_of s i in
    let same = sources_same w (reach_of s i) e s.gains s.sources t.infos h in
    λ j. cond (eqb s.elements 0) t (cond (active e) (slot_left s i (same j)) t)

freed_free : (k : Track) (s : DynamicSourceState) → Unheld s → Unheld (freed k s)
unfolding freed
freed_free k s h = cond_keeps Unheld (k.now && (s.held && not s.wanted)) _ s (λ _. record { wanted = h.wanted; held = h.held }) (λ _. h)

moved_unmarked : (start : ℕ) (t : Timed) → Unmarked t.state.sources → Unmarked (slot_moved start t).state.sources
moved_unmarked start t h =
    moved_slot_each (λ _. Unheld) (λ arrived k is i s. moved_free arrived k is s) (λ x last k i s. ramped_free x last k s) (λ k i s. freed_free k s) start t h

pub unmarked_slot : (start : ℕ) (t : Timed) → Unmarked t.state.sources → Unmarked (slot_at start t).state.sources
unmarked_slot start t h =
    slot_each (λ _. Unheld) (λ arrived k is i s. moved_free arrived k is s) (λ x last k i s. ramped_free x last k s) (λ k i s. freed_free k s)
    (λ i s f. record { wanted = f.wanted; held = f.wanted }) start t h

pub free_same : FreeSame
unfolding slot_at
free_same start t h =
    let m = slot_moved start t in
    let n = m.state.objects - m.state.isf in
    let stands = holds_stand m.state (unmarked_settled m.state.sources n (moved_unmarked start t h)) in
    (λ j. record { state = stands j; infos = m.infos }) ∙ moved_slot_same start t h
