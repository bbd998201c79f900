-- What a hold that is asked for, or no more, leaves of the timed state; what slots and updates make of the marks. Assumes nothing.
use Prim.Native.Nat.{ℕ, zero, suc, ◌-◌, ◌<◌}
use mathlib.Core.Path.{◌≡◌, refl, sym, ap, ◌∙◌, subst}
use mathlib.Core.Bool.{Bool, true, false, not}
use mathlib.Core.List.{List}
use native.Mathlib.Omega.{arith}
use lib.Dec.{T}
use lib.ListN.{length, get_or, set, replicate}
use Rattle.std.proofs.lemmas.List.{get_or-set_same}
use Rattle.records.specs.Runs.{each}
use Rattle.records.proofs.Theorems.{each_at}
use Rattle.vectors.specs.declared.Vec3.{Vec3}
use Rattle.timed.specs.Objects.{no_source}
use Rattle.timed.specs.Holds.{with_marks, wants, wanting}
use Rattle.timed.specs.State.{Timed}
use Rattle.timed.specs.declared.state.DynamicSourceState.{DynamicSourceState}
use Rattle.timed.specs.declared.state.MetadataRendererState.{MetadataRendererState}
use Rattle.timed.proofs.Theorems.{set_each, held_stays, still_wanted, undone}
use Rattle.updates.specs.Applied.{applied}
use Rattle.updates.proofs.Theorems.{holds_end, holds_stay}
use Rattle.rules.specs.Leaves.{Source, Shape}
use Rattle.rules.specs.Promises.{nobody, object_in}
use Rattle.store.specs.Layout.{blank}
use Rattle.theorem.specs.Instance.{Sent, source_of, hall}
use Rattle.theorem.proofs.Sound.{Sound, Within}
use Rattle.theorem.proofs.SlotShape.{shape_wanting}
use Rattle.theorem.proofs.SlotState.{wanting_has}
use Rattle.theorem.proofs.SlotSound as sound
use Rattle.store.specs.Ranged.{Single}
use Rattle.panning.specs.Table.{8·0}
use Rattle.panning.specs.Choice.{1·0}
use Rattle.theorem.proofs.SlotWithin as within
use Rattle.theorem.proofs.TimedShapes.{each_same, shape_slot}

-- ---- a wish

-- an object as it is heard
abbrev heard_as : DynamicSourceState → Source
heard_as o = record { gain = o.gain; size = o.size; place = o.place; send = o.send }

module _ (w : Bool) (d : ℕ) (m : Timed) where
  pub sound_want : Sound m → Sound (hall.want w d m)
  sound_want h =
      let s = shape_wanting w d m.state in
      let g = wanting_has (sound.Upto 8·0) (sound.Upto 1·0) w d m.state (sound.state_has m h) in
      record {
        beds = g.beds;
        objects = g.objects;
        codes = ap length s.codes ∙ h.codes;
        states = g.states;
        gains = g.gains;
        dynamic = s.sources ∙ h.dynamic;
        sources = λ k l. sound.source_sound (g.sources k l);
        tracks = λ e l. (s.element e).tracks ∙ h.tracks e l;
        targets = λ e k l q. sound.position_of (g.targets e l k q);
        infos = h.infos;
      }

  pub within_want : (n : ℕ) → Within n m → Within n (hall.want w d m)
  unfolding wanting
  within_want n h =
      record {
        state = within.state_ranged n m.state h.state (wanting w d m.state) (shape_wanting w d m.state)
            (wanting_has Single Single w d m.state (within.state_has n m.state h.state)) h.state.within.states;
        infos = h.infos;
      }

  pub shape_want : hall.shape (hall.want w d m) ≡ hall.shape m
  unfolding wanting
  shape_want = refl

  pub beds_want : hall.beds (hall.want w d m) ≡ hall.beds m
  unfolding wanting
  beds_want = refl

  pub objects_want : hall.objects (hall.want w d m) ≡ hall.objects m
  unfolding wanting
  objects_want =
      let s = m.state in
      let o = get_or s.sources d no_source in
      each_same (source_of (wanting w d s)) (source_of s) (s.objects - s.isf)
      (λ k _. set_each (λ i x. heard_as x ≡ heard_as (get_or s.sources i no_source)) s.sources d (with_marks w o.held o) no_source refl (λ i. refl) k)

  pub wants_want : Sound m → d < (hall.shape m).objects → hall.wants d (hall.want w d m) ≡ w
  unfolding wanting
  wants_want h l =
      let s = m.state in
      let o = get_or s.sources d no_source in
      let few = h.objects in
      ap (λ (x : DynamicSourceState). x.wanted) (get_or-set_same s.sources d (with_marks w o.held o) no_source (rw h.dynamic (let g : d < 16 = omega arith in g)))

  -- the later undoes the earlier
  pub want_back : hall.wants d m ≡ w → hall.want w d (hall.want (not w) d m) ≡ m
  want_back e = ap (λ (s : MetadataRendererState). record { state = s; infos = m.infos }) (undone w d m.state e)

  pub wants_other : (k : ℕ) → (k ≡ d → ⊥) → hall.wants k (hall.want w d m) ≡ hall.wants k m
  unfolding wanting
  wants_other k n =
      let s = m.state in
      let o = get_or s.sources d no_source in
      set_each (λ i x. (i ≡ d → ⊥) → x.wanted ≡ (get_or s.sources i no_source).wanted) s.sources d (with_marks w o.held o) no_source (λ h. absurd (h refl)) (λ i h. refl) k n

-- ---- a new renderer

same_marks : (n k : ℕ) (o : DynamicSourceState) → o.wanted ≡ false → (get_or (replicate n o) k no_source).wanted ≡ false
same_marks zero k o e = refl
same_marks (suc n) zero o e = e
same_marks (suc n) (suc k) o e = same_marks n k o e

pub wants_blank : (d : ℕ) → hall.wants d blank ≡ false
unfolding blank
wants_blank d = same_marks 16 d _ refl

-- ---- slots

pub wants_slot : (n d : ℕ) (m : Timed) → hall.wants d (hall.slot n m) ≡ hall.wants d m
wants_slot n d m = still_wanted n d m

pub object_is : (m : Timed) (d : ℕ) → d < (hall.shape m).objects → object_in hall m d ≡ source_of m.state d
object_is m d l = each_at (source_of m.state) (m.state.objects - m.state.isf) d nobody l

pub held_slot : (n d : ℕ) (m : Timed) → d < (hall.shape m).objects → hall.wants d m ≡ true → (object_in hall (hall.slot n m) d).place ≡ (object_in hall m d).place
held_slot n d m l e =
    let after : d < (hall.shape (hall.slot n m)).objects = subst (λ (x : Shape). d < x.objects) (sym (shape_slot n m)) l in
    let place : Source → Vec3 = λ s. s.place in
    ap place (object_is (hall.slot n m) d after) ∙ held_stays n d m e ∙ sym (ap place (object_is m d l))

-- ---- updates

module _ (n : ℕ) (u : Sent) (m : Timed) where
  sources_kept : (hall.sent u).objects ≡ (hall.shape m).objects → (applied n u.said m).state.sources ≡ m.state.sources
  sources_kept e = holds_stay n u.said m (sym e)

  pub wants_apply : (d : ℕ) → (hall.sent u).objects ≡ (hall.shape m).objects → hall.wants d (hall.apply n u m) ≡ hall.wants d m
  wants_apply d e = ap (λ (l : List DynamicSourceState). (get_or l d no_source).wanted) (sources_kept e)

  pub objects_apply : (hall.sent u).objects ≡ (hall.shape m).objects → hall.objects (hall.apply n u m) ≡ hall.objects m
  unfolding applied
  objects_apply e =
      let t = (applied n u.said m).state in
      ap (each (source_of t)) e
      ∙ each_same (source_of t) (source_of m.state) (m.state.objects - m.state.isf)
      (λ k _. ap (λ (l : List DynamicSourceState). heard_as (get_or l k no_source)) (sources_kept e))

  pub ends_apply : (d : ℕ) → ((hall.sent u).objects ≡ (hall.shape m).objects → ⊥) → hall.wants d (hall.apply n u m) ≡ false
  ends_apply d h = (holds_end n d u.said m (λ e. h (sym e))).wanted
