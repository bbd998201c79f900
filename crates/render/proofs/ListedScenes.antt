-- The beds and the objects of a table with its count, as the hall's instance lists them. Assumes nothing.
use mathlib.Core.Path.{◌≡◌, refl, ap}
use mathlib.Core.List.{List, [], ◌∷◌}
use Prim.Native.Nat.{ℕ, zero, suc, ◌≤◌}
use native.Mathlib.Nat.{not-suc-le-zero, le_of_suc-le-suc}
use lib.ListN.{length, get_or}
use lib.Ieee.{Float, nan}
use Rattle.records.specs.Runs.{each}
use Rattle.timed.specs.Objects.{no_source}
use Rattle.timed.specs.declared.state.DynamicSourceState.{DynamicSourceState}
use Rattle.rules.specs.Leaves.{Source, Bed}
use Rattle.render.specs.Run.{bed_with, beds_of, plain_source, sources_of}

pub beds_each : (m : ℕ) (cs : List ℕ) (gs : List Float) → m ≤ length cs → m ≤ length gs → each (λ k. bed_with (get_or cs k 0) (get_or gs k nan)) m ≡ beds_of m cs gs
unfolding each
beds_each zero cs gs h l = refl
beds_each (suc m) [] gs h l = absurd (not-suc-le-zero h)
beds_each (suc m) (c ∷ cs) [] h l = absurd (not-suc-le-zero l)
beds_each (suc m) (c ∷ cs) (g ∷ gs) h l = ap (λ (bs : List Bed). bed_with c g ∷ bs) (beds_each m cs gs (le_of_suc-le-suc h) (le_of_suc-le-suc l))

pub sources_each : (m : ℕ) (ds : List DynamicSourceState) → m ≤ length ds → each (λ k. plain_source (get_or ds k no_source)) m ≡ sources_of m ds
unfolding each
sources_each zero ds h = refl
sources_each (suc m) [] h = absurd (not-suc-le-zero h)
sources_each (suc m) (d ∷ ds) h = ap (λ (ss : List Source). plain_source d ∷ ss) (sources_each m ds (le_of_suc-le-suc h))
