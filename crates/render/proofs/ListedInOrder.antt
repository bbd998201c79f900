-- One bed and one object more of their loops: what is left to list still gives the whole. Assumes nothing.
use mathlib.Core.Path.{◌≡◌}
use mathlib.Core.List.{List, map}
use Prim.Native.Nat.{ℕ, suc, ◌+◌, ◌<◌}
use native.Mathlib.Omega.{arith}
use native.Mathlib.Numerals.{add-one}
use lib.ListN.{length, get_or, drop}
use lib.Seq.{drop-cons}
use lib.Ieee.{Float, nan}
use Rattle.beds.specs.Matching.{matching}
use Rattle.timed.specs.declared.state.DynamicSourceState.{DynamicSourceState}
use Rattle.panning.specs.Setup.{Setup}
use Rattle.panning.specs.Terms.{on_channel}
use Rattle.rules.specs.Mix.{added_terms}
use Rattle.render.specs.declared.lists.Fed.{Fed}
use Rattle.render.specs.declared.lists.Lists.{Lists}
use Rattle.render.specs.Run.{bed_with, zipped, plain_source}
use Rattle.render.specs.MixedSources.{bed_terms}
use Rattle.render.specs.Listed.{Grown, found_fed, beds_listed, objects_listed}
use Rattle.render.proofs.FedTerms.{fed_on}
use Rattle.render.proofs.ToPut.{ToPut, to_put_then}

module _ (h : Setup) where
  -- the beds from bed j on, and the objects from object j on
  abbrev pub beds_from : List ℕ → List ℕ → List Float → ℕ → ℕ → List Fed
  beds_from codes cs gs j = beds_listed h codes (zipped (drop j cs) (drop j gs))

  abbrev pub objects_from : ℕ → List DynamicSourceState → ℕ → ℕ → List Fed
  objects_from first ds j = objects_listed h (first + j) (map plain_source (drop j ds))

  module _ {whole : ℕ → List Fed} {a b : Lists} where
    -- one more of each
    pub bed_listed : (codes cs : List ℕ) (gs : List Float) (j : ℕ) {d : Lists} → j < length cs → j < length gs
        → Grown (λ k. found_fed (matching (get_or cs j 0) codes) (on_channel k (bed_terms h (bed_with (get_or cs j 0) (get_or gs j nan))))) b d
        → ToPut (beds_from codes cs gs j) whole a b → ToPut (beds_from codes cs gs (j + 1)) whole a d
    bed_listed codes cs gs j k l = to_put_then (λ c. rw (add-one j, drop-cons cs j 0 k, drop-cons gs j nan l))

    pub object_listed : (first : ℕ) (ds : List DynamicSourceState) (j : ℕ) (o : DynamicSourceState) {d : Lists} → j < length ds
        → Grown (λ k. fed_on (first + j) (added_terms h (plain_source (get_or ds j o))) k) b d
        → ToPut (objects_from first ds j) whole a b → ToPut (objects_from first ds (j + 1)) whole a d
    object_listed first ds j o k = let f : first + (j + 1) ≡ suc (first + j) = omega arith in to_put_then (λ c. rw (f, add-one j, drop-cons ds j o k))
