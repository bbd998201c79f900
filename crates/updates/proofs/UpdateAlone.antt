-- The law of specs/UpdateAlone. Assumes nothing.
use Prim.Native.Nat.{ℕ, ◌-◌, ◌*◌}
use mathlib.Core.Path.{◌≡◌, refl, sym, ap, ◌∙◌, subst}
use mathlib.Core.Bool.{Bool, true, false, not, cond, ◌&&◌, true≢false}
use mathlib.Core.List.{List}
use native.Mathlib.Omega.{arith}
use lib.Dec.{eqb}
use lib.ListN.{length, get_or, length-set, replicate}
use Rattle.timed.specs.Alone.{SourcesAlike, TracksAlike, ElementAlike, AlikeBut}
use Rattle.timed.specs.State.{Timed, no_element}
use Rattle.timed.specs.declared.state.Track.{Track}
use Rattle.timed.specs.declared.state.DynamicSourceState.{DynamicSourceState}
use Rattle.timed.specs.declared.state.ElementRendererState.{ElementRendererState}
use Rattle.timed.proofs.Theorems.{times_both, set_both}
use Rattle.updates.specs.Said.{Element, Update}
use Rattle.updates.specs.Stored.{objects_stored}
use Rattle.updates.specs.Applied.{Work, new_source, new_track, next_sources, next_gains, codes_given, scheduled, is_kept, is_same, element_next, element_given, elements_applied, applied}
use Rattle.updates.specs.UpdateAlone.{UpdateAlone}

module _ (apart : Type 0) (d : ℕ) where
  -- either way of one test
  either : {A : Type 0} (R : A → A → Type 0) (s t : Bool) (x y z v : A) → s ≡ t → R x y → R z v → R (cond s x z) (cond t y v)
  either R true true x y z v q h k = h
  either R true false x y z v q h k = absurd (true≢false q)
  either R false true x y z v q h k = absurd (true≢false (sym q))
  either R false false x y z v q h k = k

  -- ---- an element

  same_tracks : (l : List Track) → TracksAlike apart d l l
  same_tracks l = record { long = refl; each = λ k. record { now = refl; target = λ i p. refl; others = λ ne. refl } }

  same_sources : (l : List DynamicSourceState) → SourcesAlike d l l
  same_sources l = record { long = refl; each = λ k. record { gain = refl; size = refl; placed = refl; send = refl; others = λ ne. refl } }

  next_alike : (s t : Bool) (dynamic : ℕ) (x : Element) (e f : ElementRendererState) → s ≡ t → ElementAlike apart d e f
      → ElementAlike apart d (element_next s dynamic x e) (element_next t dynamic x f)
  unfolding element_next
  next_alike s t dynamic x e f q h =
      record {
        blocks = refl;
        flags = λ j. cond (q j) (h.flags j) dynamic;
        remaining = λ j. cond (q j) (h.remaining j) 140737488355328;
        schedule = ap (scheduled x) h.schedule;
        tracks = either (TracksAlike apart d) s t e.tracks f.tracks (replicate 16 new_track) (replicate 16 new_track) q h.tracks (same_tracks (replicate 16 new_track));
      }

  -- ---- the elements

  record WorkAlike (v w : Work) : Type 0 where
    infos : v.infos ≡ w.infos
    states : length v.states ≡ length w.states
    each : (e : ℕ) → ElementAlike apart d (get_or v.states e no_element) (get_or w.states e no_element)

  given_alike : (same : Bool) (u : Update) (e : ℕ) (v w : Work) → WorkAlike v w → WorkAlike (element_given same u e v) (element_given same u e w)
  unfolding element_given
  given_alike same u e v w h =
      let s = get_or v.states e no_element in
      let t = get_or w.states e no_element in
      let x = u.element e in
      let kept : Bool = is_kept same s.blocks x.blocks in
      let held : Bool = is_kept same t.blocks x.blocks in
      let q : kept ≡ held = ap (λ (n : ℕ). is_kept same n x.blocks) (h.each e).blocks in
      let a = element_next kept (u.objects - u.isf) x s in
      let b = element_next held (u.objects - u.isf) x t in
      record {
        infos = λ j. objects_stored (not (q j)) u.isf x (e * 256) u.objects (h.infos j);
        states = length-set v.states e a ∙ h.states ∙ sym (length-set w.states e b);
        each = set_both (λ _. ElementAlike apart d) v.states w.states e a b no_element h.states (next_alike kept held (u.objects - u.isf) x s t q (h.each e)) h.each;
      }

  elements_alike : (same : Bool) (u : Update) (a b : Timed) → AlikeBut apart d a b →
      WorkAlike (elements_applied same u a.state.states a.infos) (elements_applied same u b.state.states b.infos)
  unfolding elements_applied
  elements_alike same u a b h =
      times_both WorkAlike (element_given same u) (element_given same u) u.elements (λ e v w l. given_alike same u e v w) u.elements 0 (omega arith)
      (record { states = a.state.states; infos = a.infos }) (record { states = b.state.states; infos = b.infos })
      (record { infos = h.infos; states = h.states; each = h.each })

-- ---- the update

pub update_alone : UpdateAlone
unfolding applied next_sources
update_alone apart n d u a b h =
    let s = a.state in
    let t = b.state in
    let dynamic : s.objects - s.isf ≡ t.objects - t.isf = λ j. h.objects j - h.isf j in
    let same : is_same s u ≡ is_same t u = λ j. eqb (h.elements j) u.elements && eqb (h.objects j) u.objects && eqb (h.objects j - h.isf j) (u.objects - u.isf) in
    let w = subst (λ (q : Bool). WorkAlike apart d (elements_applied (is_same s u) u s.states a.infos) (elements_applied q u t.states b.infos)) same
    (elements_alike apart d (is_same s u) u a b h) in
    record {
      initialized = refl;
      payload = refl;
      objects = refl;
      isf = refl;
      beds = refl;
      elements = refl;
      codes = ap (codes_given u) h.codes;
      gains = λ j. next_gains (h.beds j) u.beds (h.gains j);
      states = w.states;
      each = w.each;
      sources =
          either apart d (SourcesAlike d) (eqb (s.objects - s.isf) (u.objects - u.isf)) (eqb (t.objects - t.isf) (u.objects - u.isf)) s.sources t.sources (replicate 16 new_source)
          (replicate 16 new_source) (ap (λ (m : ℕ). eqb m (u.objects - u.isf)) dynamic) h.sources (same_sources apart d (replicate 16 new_source));
      infos = w.infos;
    }
