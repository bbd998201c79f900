-- Nothing is heard on a channel that the block's hall lacks: its row of a chunk is +0.0. Assumes nothing.
use Prim.Native.Nat.{ℕ, zero, suc, ◌-◌, ◌*◌, ◌<◌}
use mathlib.Core.Path.{◌≡◌, sym, ap, ◌∙◌, subst}
use mathlib.Core.Bool.{Bool, true, false, cond}
use mathlib.Core.List.{List, [], ◌∷◌}
use borrow.Author.Tests.{ne_eqb}
use lib.Dec.{T, eqb}
use lib.ListN.{get_or, take, drop}
use lib.Ieee.{Float, fits}
use Rattle.ieee.specs.Bounds.{All}
use Rattle.lowpass.specs.Lowpass.{next}
use Rattle.lowpass.specs.declared.BiquadLowpassState.{BiquadLowpassState}
use Rattle.panning.specs.Setup.{HallFits, present, marks_of}
use Rattle.panning.specs.Table.{Position}
use Rattle.panning.proofs.Theorems.{mark_is, bass_present}
use Rattle.timed.specs.Objects.{no_source}
use Rattle.timed.specs.declared.state.DynamicSourceState.{DynamicSourceState}
use Rattle.timed.specs.declared.state.MetadataRendererState.{MetadataRendererState}
use Rattle.records.specs.Runs.{each}
use Rattle.rules.specs.Parts.{0·0}
use Rattle.rules.specs.Mix.{Moment, heard, fed}
use Rattle.rules.specs.Samples.{Frame}
use Rattle.rules.proofs.Theorems.{Placed, absent_unheard}
use Rattle.store.specs.declared.renderer.Renderer714.{Renderer714}
use Rattle.store.specs.Singles.{SourceSingles}
use Rattle.store.specs.Layout.{layout_of, setup_in}
use Rattle.theorem.specs.Instance.{Sent, source_of}
use Rattle.theorem.proofs.Theorems.{each_all}
use Rattle.render.specs.Run.{row_run}
use Rattle.rendering.specs.Give.{AbsentSilent}
use Rattle.rendering.specs.Pass.{moment_here}

-- ---- objects stand at places of f32s

placed_at : (ds : List DynamicSourceState) → All SourceSingles ds → (i : ℕ) → Position (get_or ds i no_source).place
unfolding fits
placed_at [] h i = record { x = tt; y = tt; z = tt }
placed_at (d ∷ ds) h zero = let p = h.0.place in record { x = p.x; y = p.y; z = p.z }
placed_at (d ∷ ds) h (suc i) = placed_at ds h.1 i

all_placed : (m : MetadataRendererState) → All SourceSingles m.sources → (started : Bool) (n : ℕ) → All Placed (cond started (each (source_of m) n) [])
all_placed m h true n = each_all Placed (source_of m) n (λ i l. placed_at m.sources h i)
all_placed m h false n = tt

-- ---- a row

zero_run : (m : ℕ → Moment) (c : ℕ) → eqb c 3 ≡ false → ((t : ℕ) → heard (m t) c ≡ 0·0) → (low : BiquadLowpassState) (t k : ℕ)
    → All (λ (x : Float). x ≡ 0·0) (row_run m low c t k)
zero_run m c e h low t zero = tt
zero_run m c e h low t (suc k) = rw e (h t, zero_run m c e h (next low (fed (m t))) (suc t) k)

module _ (f : Frame Sent) (t k : ℕ) (s : Renderer714) (b : List ℕ) (hall : HallFits (setup_in b)) (sources : All SourceSingles s.state.sources) where
  no_bass : (c : ℕ) → present (layout_of b) c ≡ false → eqb c 3 ≡ false
  no_bass c e = ne_eqb c 3 (λ q. subst T (ap (present (layout_of b)) (sym q) ∙ e) (bass_present (layout_of b) hall.layout))

  unheard : (c : ℕ) → present (layout_of b) c ≡ false → (u : ℕ) → heard (moment_here f t k s b u) c ≡ 0·0
  unheard c e u =
      absent_unheard (moment_here f t k s b u) hall (all_placed s.state sources s.state.initialized (s.state.objects - s.state.isf)) c e

  pub absent_silent : (ys : List Float) → ((c : ℕ) → c < 12 → take k (drop (64 * c) ys) ≡ row_run (moment_here f t k s b) s.filter c t k) → k ≡ 64
      → AbsentSilent (marks_of (layout_of b)) ys
  absent_silent ys columns whole c l e =
      let away = sym (mark_is (layout_of b) c) ∙ e in
      subst (All (λ (x : Float). x ≡ 0·0)) (sym (columns c l) ∙ ap (λ (n : ℕ). take n (drop (64 * c) ys)) whole)
      (zero_run (moment_here f t k s b) c (no_bass c away) (unheard c away) s.filter t k)
