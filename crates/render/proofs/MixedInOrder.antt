-- One bed and one object more of their loops: what is left to mix still gives `end`. Assumes nothing.
use mathlib.Core.Path.{◌≡◌}
use mathlib.Core.List.{List, map}
use Prim.Native.Nat.{ℕ, suc, ◌+◌, ◌-◌, ◌<◌, ◌≤◌}
use native.Mathlib.Omega.{arith}
use native.Mathlib.Numerals.{add-one}
use lib.ListN.{length, get_or, drop, drop_of_length-le}
use lib.Seq.{drop-cons}
use lib.Ieee.{Float, nan}
use Rattle.beds.specs.Matching.{matching}
use Rattle.timed.specs.declared.state.DynamicSourceState.{DynamicSourceState}
use Rattle.panning.specs.Setup.{Setup}
use Rattle.rules.specs.Mix.{added_terms}
use Rattle.render.specs.MixedRows.{mixed_terms}
use Rattle.render.specs.declared.Span.{Span}
use Rattle.render.specs.Run.{bed_with, zipped, plain_source, sources_of}
use Rattle.render.specs.MixedSources.{bed_terms, channel_row, mixed_found, mixed_beds, mixed_objects}
use Rattle.render.specs.Run.{beds_of}

-- ---- beds and objects

module _ (h : Setup) (pcm : List ℕ) (s : Span) where
  -- at the first object nothing is left out
  pub objects_start : (i m : ℕ) (ds : List DynamicSourceState) (os : List Float)
      → mixed_objects h pcm s (i + 0) (sources_of (m - 0) ds) os ≡ mixed_objects h pcm s i (sources_of m ds) os
  objects_start i m ds os =
      let e : m - 0 ≡ m = omega arith in
      let f : i + 0 ≡ i = omega arith in
      rw (e, f)

  pub bed_step : (codes : List ℕ) (j : ℕ) (cs : List ℕ) (gs os : List Float) {new end : List Float} → j < length cs → j < length gs
      → new ≡ mixed_found pcm s (bed_terms h (bed_with (get_or cs j 0) (get_or gs j nan))) (matching (get_or cs j 0) codes) os
      → mixed_beds h pcm s codes (zipped (drop j cs) (drop j gs)) os ≡ end
      → mixed_beds h pcm s codes (zipped (drop (j + 1) cs) (drop (j + 1) gs)) new ≡ end
  bed_step codes j cs gs os k l p q = rw (add-one j, p) (rw (drop-cons cs j 0 k, drop-cons gs j nan l) at q)

  -- at the first bed nothing is left out
  pub beds_start : (codes : List ℕ) (m : ℕ) (cs : List ℕ) (gs os : List Float)
      → mixed_beds h pcm s codes (beds_of (m - 0) cs gs) os ≡ mixed_beds h pcm s codes (beds_of m cs gs) os
  beds_start codes m cs gs os =
      let e : m - 0 ≡ m = omega arith in
      rw e

  pub beds_done : (codes : List ℕ) (j : ℕ) (cs : List ℕ) (gs os : List Float) {end : List Float} → length cs ≤ j
      → mixed_beds h pcm s codes (zipped (drop j cs) (drop j gs)) os ≡ end → os ≡ end
  beds_done codes j cs gs os k q = rw (drop_of_length-le cs k) at q

  pub object_step : (first j : ℕ) (d : DynamicSourceState) (ds : List DynamicSourceState) (os : List Float) {new end : List Float} → j < length ds
      → new ≡ mixed_terms (channel_row pcm s (first + j)) (added_terms h (plain_source (get_or ds j d))) os
      → mixed_objects h pcm s (first + j) (map plain_source (drop j ds)) os ≡ end
      → mixed_objects h pcm s (first + (j + 1)) (map plain_source (drop (j + 1) ds)) new ≡ end
  object_step first j d ds os k p q =
      let f : first + (j + 1) ≡ suc (first + j) = omega arith in
      rw (p, f, add-one j) (rw (drop-cons ds j d k) at q)

  pub objects_done : (i j : ℕ) (ds : List DynamicSourceState) (os : List Float) {end : List Float} → length ds ≤ j
      → mixed_objects h pcm s i (map plain_source (drop j ds)) os ≡ end → os ≡ end
  objects_done i j ds os k q = rw (drop_of_length-le ds k) at q
