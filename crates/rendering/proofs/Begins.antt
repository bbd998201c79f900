-- Before a chunk: one update after the other of those at its first sample, and the slot. Assumes nothing.
use Prim.Native.Nat.{ℕ, zero, suc, ◌+◌, ◌-◌, ◌≤◌, ◌<◌}
use mathlib.Core.Path.{◌≡◌, refl, sym, ap, subst, ◌∙◌}
use mathlib.Core.Bool.{Bool, true, false, not, ◌&&◌, ◌||◌, cond}
use mathlib.Core.List.{List, [], ◌∷◌}
use native.Mathlib.Omega.{arith}
use native.Mathlib.Numerals.{add-one}
use borrow.Author.Tests.{eq-eqb, ne_eqb}
use lib.Dec.{eqb}
use lib.ListN.{length}
use Rattle.timed.specs.State.{Timed, slot_at}
use Rattle.timed.specs.Resting.{rests_at}
use Rattle.timed.specs.TimedResults.{IsTimed}
use Rattle.timed.specs.declared.state.MetadataRendererState.{MetadataRendererState}
use Rattle.timed.proofs.Theorems as timed
use Rattle.records.specs.Runs.{each}
use Rattle.records.specs.Laid.{update_at}
use Rattle.records.specs.UpdateWalk.{FirstAt}
use Rattle.records.specs.LayoutAnswers.{offset_at}
use Rattle.records.specs.declared.metadata.Metadata.{Metadata}
use Rattle.updates.specs.Said.{Update, update_of}
use Rattle.updates.specs.Applied as updates
use Rattle.rules.specs.Samples.{Renderer, applied_at, updated, slotted}
use Rattle.rules.specs.Ranges.{Ranged}
use Rattle.store.specs.declared.renderer.Renderer714.{Renderer714}
use Rattle.store.specs.Layout.{size, assembled, infos_of, places_of, setup_in}
use Rattle.theorem.specs.Instance.{Sent, hall, sent_from}
use Rattle.theorem.proofs.Theorems.{Within}
use Rattle.formats.specs.Areas.{infos_bytes}
use Rattle.store.specs.Steps.{with_state}
use Rattle.chunk.specs.ChunkRows.{small_bytes, hall_bytes_of}
use Rattle.rendering.specs.Held.{held, IsNext}
use Rattle.rendering.specs.Begin.{restated, CanStart, NoneSent, Starts}
use Rattle.rendering.proofs.Changed.{changed, changed_small, changed_hall, changed_held}

-- ---- one update

abbrev pub sent : ℕ → Update → Sent
sent t u = record { offset = t; said = u }

module _ (t : ℕ) (u : Update) (s : Renderer714) (b : List ℕ) where
  abbrev pub before : Timed
  before = record { state = s.state; infos = infos_of b }

  by_start : (new : Bool) (m : Timed) → (not s.state.initialized || eqb t 0) ≡ new → updates.applied s.clock.position.0 u before ≡ m
      → assembled (restated new s m.state) m.infos (places_of b) (setup_in b) ≡ applied_at hall t (sent t u) (held s b)
  by_start true m e f = rw (e, f)
  by_start false m e f = rw (e, f)

  pub one_applied :
      (new : Bool) (m : MetadataRendererState) (is : List ℕ) (r : Renderer714) → length b ≡ size → length is ≡ infos_bytes → (not s.state.initialized || eqb t 0) ≡ new →
      IsTimed (updates.applied s.clock.position.0 u before) m is → r ≡ restated new s m → IsNext (applied_at hall t (sent t u) (held s b)) b r (changed b is)
  one_applied new m is r whole long e h q =
      record {
        holds = changed_held b is whole long r ∙ rw (q, h.state, h.infos) (by_start new _ e refl);
        small = changed_small b is whole long;
        hall = changed_hall b is whole long;
      }

-- ---- the slot

module _ (s : Renderer714) (b : List ℕ) where
  by_slot : (on : Bool) (m : Timed) → (s.state.initialized && eqb s.clock.phase 0) ≡ on
      → cond on (slot_at s.clock.start.0 (record { state = s.state; infos = infos_of b })) (record { state = s.state; infos = infos_of b }) ≡ m
      → assembled (with_state s m.state) m.infos (places_of b) (setup_in b) ≡ slotted hall (held s b)
  by_slot true m e f = rw (e, f)
  by_slot false m e f = rw (e, f)

  -- no slot starts
  pub slot_rests : (s.state.initialized && eqb s.clock.phase 0) ≡ false → IsNext (slotted hall (held s b)) b s b
  slot_rests e = record { holds = by_slot false _ e refl; small = refl; hall = refl }

  -- a slot starts that changes nothing
  pub slot_changes_nothing : Starts s → rests_at s.clock.start.0 s.state ≡ true → IsNext (slotted hall (held s b)) b s b
  slot_changes_nothing e h = record { holds = by_slot true (record { state = s.state; infos = infos_of b }) e (timed.slot_rests _ _ h); small = refl; hall = refl }

  pub slot_starts :
      (m : MetadataRendererState) (is : List ℕ) (r : Renderer714) → length b ≡ size → length is ≡ infos_bytes → Starts s →
      IsTimed (slot_at s.clock.start.0 (record { state = s.state; infos = infos_of b })) m is → r ≡ with_state s m → IsNext (slotted hall (held s b)) b r (changed b is)
  slot_starts m is r whole long e h q =
      record {
        holds = changed_held b is whole long r ∙ rw (q, h.state, h.infos) (by_slot true _ e refl);
        small = changed_small b is whole long;
        hall = changed_hall b is whole long;
      }

-- ---- those sent for one time

-- the k from i on
later : (ℕ → Sent) → ℕ → ℕ → List Sent
later g zero i = []
later g (suc k) i = g i ∷ later g k (suc i)

each_later : (f g : ℕ → Sent) (n i : ℕ) → ((k : ℕ) → f k ≡ g (i + k)) → each f n ≡ later g n i
unfolding each later
each_later f g zero i h = refl
each_later f g (suc n) i h =
    let z : i + 0 ≡ i = omega arith in
    let s : (k : ℕ) → f (suc k) ≡ g (suc i + k) = λ k. h (suc k) ∙ ap g (omega arith) in
    rw (h 0, z, each_later (λ k. f (suc k)) g n (suc i) s)

module _ (t : ℕ) (g : ℕ → Sent) (n : ℕ) where
  -- what is left to apply from i on
  pub rest : ℕ → Renderer Timed (List ℕ) → Renderer Timed (List ℕ)
  rest i r = updated hall t (later g (n - i) i) r

  rest_more : (i : ℕ) (r : Renderer Timed (List ℕ)) → i < n → rest i r ≡ rest (suc i) (cond (eqb (g i).offset t) (applied_at hall t (g i) r) r)
  unfolding rest later
  rest_more i r l = let e : n - i ≡ suc (n - suc i) = omega arith in rw e

  rest_here : (i : ℕ) (r : Renderer Timed (List ℕ)) → i < n → (g i).offset ≡ t → rest i r ≡ rest (suc i) (applied_at hall t (g i) r)
  rest_here i r l e = rest_more i r l ∙ rw (eq-eqb (g i).offset t e)

  rest_past : (i : ℕ) (r : Renderer Timed (List ℕ)) → i < n → ((g i).offset ≡ t → ⊥) → rest i r ≡ rest (suc i) r
  rest_past i r l e = rest_more i r l ∙ rw (ne_eqb (g i).offset t e)

  rest_none : (i : ℕ) (r : Renderer Timed (List ℕ)) → n ≤ i → rest i r ≡ r
  unfolding rest later
  rest_none i r l = let e : n - i ≡ 0 = omega arith in rw e

  -- those before the first are passed over
  skip : (d from : ℕ) (r : Renderer Timed (List ℕ)) → from + d ≤ n → ((k : ℕ) → from ≤ k → k < from + d → (g k).offset ≡ t → ⊥) → rest from r ≡ rest (from + d) r
  skip zero from r l h = let e : from + 0 ≡ from = omega arith in rw e
  skip (suc d) from r l h =
      let e : from + suc d ≡ suc from + d = omega arith in
      rest_past from r (omega arith) (h from (omega arith) (omega arith))
      ∙ rw e (skip d (suc from) r (omega arith) (λ k a c. h k (omega arith) (omega arith)))

-- ---- along the layout

-- update i of metadata that has been placed in its frame
abbrev pub placed_at : Metadata → ℕ → Sent
placed_at m i = record { offset = offset_at m.layout i; said = update_of m.records.now (update_at m.records.now i) }

module _ (m : Metadata) (t : ℕ) (all : Renderer Timed (List ℕ)) (b₀ : List ℕ) where
  abbrev n : ℕ
  n = m.layout.count

  -- where the walk stands, from the block b₀: the updates from i on lead to `all`
  pub record Standing (i : ℕ) (s : Renderer714) (b : List ℕ) : Type 0 where
    pub small : small_bytes b ≡ small_bytes b₀
    pub hall : hall_bytes_of b ≡ hall_bytes_of b₀
    pub left : rest t (placed_at m) n i (held s b) ≡ all

  -- an update more
  pub goes_on :
      (i : ℕ) (s r : Renderer714) (b c m' : List ℕ) (u : ℕ) → i < n → offset_at m.layout i ≡ t → Standing i s b
      → (m' ≡ m.records.now) × (u ≡ update_at m.records.now i) →
      IsNext (applied_at hall t (sent t (update_of m' u)) (held s b)) b r c → Standing (i + 1) r c
  goes_on i s r b c m' u low time h same next =
      let one : held r c ≡ applied_at hall t (placed_at m i) (held s b) = next.holds ∙ rw (same.0, same.1) in
      record {
        small = next.small ∙ h.small;
        hall = next.hall ∙ h.hall;
        left = rw (add-one, one) (sym (rest_here t (placed_at m) n i (held s b) low time) ∙ h.left);
      }

  -- one for another time
  pub passes : (i : ℕ) (s : Renderer714) (b : List ℕ) → i < n → (offset_at m.layout i ≡ t → ⊥) → Standing i s b → Standing (i + 1) s b
  passes i s b low off h =
      record {
        small = h.small;
        hall = h.hall;
        left = rw add-one (sym (rest_past t (placed_at m) n i (held s b) low off) ∙ h.left);
      }

  pub ends : (i : ℕ) (s : Renderer714) (b : List ℕ) → n ≤ i → Standing i s b → IsNext all b₀ s b
  ends i s b low h = record { holds = sym (rest_none t (placed_at m) n i (held s b) low) ∙ h.left; small = h.small; hall = h.hall }

-- all of them
pub from_first : (m : Metadata) (t : ℕ) (r : Renderer Timed (List ℕ)) → rest t (placed_at m) m.layout.count 0 r ≡ updated hall t (sent_from m) r
unfolding rest
from_first m t r =
    let z : m.layout.count - 0 ≡ m.layout.count = omega arith in
    rw (z, ← each_later (placed_at m) (placed_at m) m.layout.count 0 (λ k. ap (placed_at m) (omega arith)))

-- ---- the slot after them

pub can_start : {x : Renderer Timed (List ℕ)} (s : Renderer714) (b : List ℕ) → held s b ≡ x → CanStart x → CanStart (held s b)
can_start s b h c = rw h c

pub slotted_after : {x : Renderer Timed (List ℕ)} {s r : Renderer714} {b₀ b c : List ℕ} → IsNext x b₀ s b → IsNext (slotted hall (held s b)) b r c → IsNext (slotted hall x) b₀ r c
slotted_after h g = record { holds = g.holds ∙ ap (slotted hall) h.holds; small = g.small ∙ h.small; hall = g.hall ∙ h.hall }

-- a renderer within document 01's ranges
pub ranged_starts : (r : Renderer Timed (List ℕ)) → Ranged hall Within r → CanStart r
ranged_starts r g = record {
  within = timed.within_later r.clock.position 1099511627776 r.meta.state g.position g.meta.state.within;
  start = omega (arith, g.start, g.position);
}

-- none is sent for the time
pub past : {f : ℕ → ℕ} {n t from i : ℕ} → FirstAt f n t from i → n ≤ i → FirstAt f n t from n
past {f} {n} {t} {from} {i} h l =
    let w = h.within in
    let e : i ≡ n = omega arith in
    subst (λ (j : ℕ). FirstAt f n t from j) e h

-- nothing is applied
pub none_applied : (m : Metadata) (t : ℕ) (s : Renderer714) (b : List ℕ) → NoneSent m.layout t → IsNext (updated hall t (sent_from m) (held s b)) b s b
none_applied m t s b h =
    let all = updated hall t (sent_from m) (held s b) in
    let n = m.layout.count in
    let e : 0 + n ≡ n = omega arith in
    let z = skip t (placed_at m) n n 0 (held s b) (omega arith) (λ k p q o. h.none k p (omega arith) o) in
    ends m t all b n s b (omega arith) (record { small = refl; hall = refl; left = sym (rw e at z) ∙ from_first m t (held s b) })

-- one list after the other
pub both_applied : {x : Renderer Timed (List ℕ)} {s r : Renderer714} {b₀ b c : List ℕ} (m : Metadata) (t : ℕ) → IsNext x b₀ s b
    → IsNext (updated hall t (sent_from m) (held s b)) b r c → IsNext (updated hall t (sent_from m) x) b₀ r c
both_applied m t h g = record { holds = g.holds ∙ ap (updated hall t (sent_from m)) h.holds; small = g.small ∙ h.small; hall = g.hall ∙ h.hall }
