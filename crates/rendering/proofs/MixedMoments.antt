-- The moments of a run are those of the rules. Assumes nothing.
use mathlib.Core.Path.{◌≡◌, refl, sym, ap, ap₂, ◌∙◌}
use mathlib.Core.Bool.{Bool, true, false, cond}
use mathlib.Core.List.{List, []}
use Prim.Native.Nat.{ℕ, ◌-◌, ◌≤◌}
use lib.ListN.{length, get_or, take, length-map}
use lib.Seq.{length-take-le}
use lib.Ieee.{Float, nan}
use Rattle.lowpass.specs.declared.BiquadLowpassState.{BiquadLowpassState}
use Rattle.timed.specs.Objects.{no_source}
use Rattle.timed.specs.declared.state.MetadataRendererState.{MetadataRendererState}
use Rattle.records.specs.Runs.{each}
use Rattle.rules.specs.Leaves.{Source, Bed}
use Rattle.rules.specs.Mix.{sample_at, samples_at, Moment, heard}
use Rattle.panning.specs.Setup.{Setup}
use Rattle.rules.specs.Samples.{Frame, moment}
use Rattle.theorem.specs.Instance.{Sent, hall}
use Rattle.store.specs.declared.renderer.Renderer714.{Renderer714}
use Rattle.store.specs.Layout.{infos_of, setup_in}
use Rattle.store.specs.Steps.{settled_by}
use Rattle.render.specs.Run.{bed_with, beds_of, plain_source, sources_of, moment_of, Passed}
use Rattle.render.proofs.Theorems.{beds_each, sources_each, filter_as, run_as}
use Rattle.chunk.specs.ChunkRows.{chunk_moment}
use Rattle.rendering.specs.declared.Rendering.{Rendering}
use Rattle.rendering.specs.Pass as pass
use Rattle.rendering.specs.Pass.{frame_here, Waits}

-- tables with at least as many entries as are in use
pub record Full (m : MetadataRendererState) (objects : ℕ) : Type 0 where
  pub codes : m.beds ≤ length m.codes
  pub gains : m.beds ≤ length m.gains
  pub sources : objects ≤ length m.sources

module _ (h : Setup) (codes pcm : List ℕ) (objects n t c : ℕ) where
  -- the same beds and objects, each with its own sample
  heard_same : (bs : List Bed) (ss : List Source) (beds : List Bed) (sources : List Source) → bs ≡ beds → ss ≡ sources → length ss ≡ objects
      → heard (moment_of h bs ss codes pcm n t) c
      ≡ heard (record { hall = h; beds = beds; objects = sources; codes = codes; inputs = λ i. sample_at pcm n i t; own = samples_at pcm n objects (length codes) t }) c
  heard_same bs ss beds sources p q e =
      ap₂ (λ (x : List Bed) (y : List Source). heard
      (record { hall = h; beds = x; objects = y; codes = codes; inputs = λ i. sample_at pcm n i t; own = samples_at pcm n (length ss) (length codes) t }) c) p q
      ∙ ap (λ (k : ℕ). heard
      (record { hall = h; beds = beds; objects = sources; codes = codes; inputs = λ i. sample_at pcm n i t; own = samples_at pcm n k (length codes) t }) c) e

  mixed_heard : (b : Bool) (m : MetadataRendererState) → Full m objects → (b ≡ true → m.objects - m.isf ≡ objects)
      → heard (moment_of h (beds_of (cond b m.beds 0) m.codes m.gains) (sources_of (cond b objects 0) m.sources) codes pcm n t) c
      ≡ heard (record {
        hall = h;
        beds = cond b (each (λ k. bed_with (get_or m.codes k 0) (get_or m.gains k nan)) m.beds) [];
        objects = cond b (each (λ k. plain_source (get_or m.sources k no_source)) (m.objects - m.isf)) [];
        codes = codes;
        inputs = λ i. sample_at pcm n i t;
        own = samples_at pcm n objects (length codes) t;
      }) c
  unfolding heard
  mixed_heard true m f d =
      let e : length (sources_of objects m.sources) ≡ objects = length-map (take objects m.sources) plain_source ∙ length-take-le objects m.sources f.sources in
      heard_same (beds_of m.beds m.codes m.gains) (sources_of objects m.sources) _ _ (sym (beds_each m.beds m.codes m.gains f.codes f.gains))
      (sym (sources_each objects m.sources f.sources) ∙ ap (each (λ k. plain_source (get_or m.sources k no_source))) (sym (d refl))) e
  mixed_heard false m f d = refl

-- the moments that `mix` hears
pub same_heard : (rate : ℕ) (us : List Sent) (codes pcm : List ℕ) (objects n : ℕ) (s : Renderer714) (b : List ℕ) → Full s.state objects
    → (s.state.initialized ≡ true → s.state.objects - s.state.isf ≡ objects)
    → (t c : ℕ) → heard (chunk_moment (setup_in b) s.state objects codes pcm n t) c
    ≡ heard (moment hall (frame_here rate us codes objects pcm n) t (setup_in b) (record { state = s.state; infos = infos_of b })) c
same_heard rate us codes pcm objects n s b h d t c = mixed_heard (setup_in b) codes pcm objects n t c s.state.initialized s.state h d

-- what `mix` leaves, by the rules' moments
pub waits : (f : Frame Sent) (t k : ℕ) (w : Rendering) (b : List ℕ) (m : ℕ → Moment) → ((t c : ℕ) → heard (m t) c ≡ heard (pass.moment_here f t k w.renderer b t) c)
    → (ys : List Float) (low : BiquadLowpassState) → Passed m w.renderer.filter t k ys low → {r : Renderer714} → r ≡ settled_by w.renderer low k
    → Waits (pass.moment_here f t k w.renderer b) w t k ys (record { renderer = r; ready = w.ready; meters = w.meters })
waits f t k w b m same ys low p e =
    let here = pass.moment_here f t k w.renderer b in
    record {
      columns = λ c l. p.columns c l ∙ run_as m here same w.renderer.filter c t k;
      rest = p.rest;
      renderer = e ∙ ap (λ (f : BiquadLowpassState). settled_by w.renderer f k) (p.filter ∙ filter_as m here same w.renderer.filter t k);
      ready = refl;
      meters = refl;
    }
