-- The terms of a run by channel: what is summed of a channel's list at a sample is what is heard on it at that moment. Assumes nothing.
use mathlib.Core.Path.{◌≡◌, refl, sym, ap, ◌∙◌}
use mathlib.Core.Bool.{Bool, true, false, cond}
use mathlib.Core.List.{List, [], ◌∷◌, ◌++◌}
use Prim.Native.Nat.{ℕ, zero, suc, ◌≤◌}
use native.Mathlib.Omega.{arith}
use lib.ListN.{length}
use lib.Ieee.{Float, binary32, add, mul, eq, of_bits}
use Rattle.std.specs.Prelude.{Option, Some, None}
use Rattle.mixing.specs.Sums.{total}
use Rattle.mixing.proofs.Theorems.{total_append}
use Rattle.beds.specs.Matching.{matching}
use Rattle.panning.specs.Setup.{Setup}
use Rattle.panning.specs.Terms.{on_channel}
use Rattle.rules.specs.Parts.{0·0}
use Rattle.rules.specs.Leaves.{Source, Bed}
use Rattle.rules.specs.Mix.{sample_at, samples_at, added_terms, adds_of, scaled_by, fed_by, beds_on, objects_on, heard}
use Rattle.render.specs.declared.lists.Fed.{Fed}
use Rattle.render.specs.MixedSources.{bed_terms}
use Rattle.render.specs.Run.{moment_of, column, Heard}
use Rattle.render.specs.Listed.{fed_with, fed_of, found_fed, beds_listed, objects_listed, run_listed, added_to, sum_at, sums_at}
use Rattle.render.proofs.BedTerms.{bed_adds_is}
use Rattle.render.proofs.FilledRows.{Filled}

-- ---- sums

added_append : (x : ℕ → Float) (s : Float) (a b : List Fed) → added_to x s (a ++ b) ≡ added_to x (added_to x s a) b
added_append x s [] b = refl
added_append x s (f ∷ a) b = added_append x (add binary32 s (mul binary32 (x f.input) f.gain)) a b

-- the terms of one input: a coefficient of either zero is passed over on both sides
fed_adds : (x : ℕ → Float) (i : ℕ) (s : Float) (gs : List Float) → added_to x s (fed_of i gs) ≡ total s (scaled_by gs (x i))
unfolding fed_of of_bits
fed_adds x i s [] = refl
fed_adds x i s (g ∷ gs) = go (eq g 0·0) (λ u. fed_adds x i u gs)
  where
    go : (b : Bool) → ((u : Float) → added_to x u (fed_of i gs) ≡ total u (scaled_by gs (x i)))
        → added_to x s (cond b (fed_of i gs) (fed_with i g ∷ fed_of i gs)) ≡ total (cond b s (add binary32 s (mul binary32 (x i) g))) (scaled_by gs (x i))
    go true r = r s
    go false r = r (add binary32 s (mul binary32 (x i) g))

found_adds : (x : ℕ → Float) (f : Option ℕ) (s : Float) (gs : List Float) → added_to x s (found_fed f gs) ≡ total s (fed_by gs f x)
found_adds x (Some i) s gs = fed_adds x i s gs
found_adds x None s gs = refl

module _ (h : Setup) (c : ℕ) where
  beds_add : (x : ℕ → Float) (codes : List ℕ) (s : Float) (bs : List Bed) → added_to x s (beds_listed h codes bs c) ≡ total s (beds_on h c bs codes x)
  beds_add x codes s [] = refl
  beds_add x codes s (b ∷ bs) =
      let f = matching b.code codes in
      let gs = on_channel c (bed_terms h b) in
      added_append x s (found_fed f gs) (beds_listed h codes bs c)
      ∙ ap (λ (u : Float). added_to x u (beds_listed h codes bs c)) (found_adds x f s gs ∙ ap (λ (ks : List Float). total s (fed_by ks f x)) (bed_adds_is h b c))
      ∙ beds_add x codes (total s (fed_by (adds_of h b c) f x)) bs
      ∙ sym (total_append (fed_by (adds_of h b c) f x) (beds_on h c bs codes x) s)

  -- the objects are the channels from i on
  objects_add : (pcm : List ℕ) (n t i : ℕ) (s : Float) (os : List Source)
      → added_to (λ k. sample_at pcm n k t) s (objects_listed h i os c) ≡ total s (objects_on h c os (samples_at pcm n (length os) i t))
  objects_add pcm n t i s [] = refl
  objects_add pcm n t i s (o ∷ os) =
      let x = λ (k : ℕ). sample_at pcm n k t in
      let gs = on_channel c (added_terms h o) in
      let rest = objects_on h c os (samples_at pcm n (length os) (suc i) t) in
      added_append x s (fed_of i gs) (objects_listed h (suc i) os c)
      ∙ ap (λ (u : Float). added_to x u (objects_listed h (suc i) os c)) (fed_adds x i s gs)
      ∙ objects_add pcm n t (suc i) (total s (scaled_by gs (x i))) os
      ∙ sym (total_append (scaled_by gs (x i)) rest s)

module _ (h : Setup) (beds : List Bed) (objects : List Source) (codes pcm : List ℕ) (n : ℕ) where
  abbrev all : ℕ → List Fed
  all = run_listed h codes beds objects

  -- one sample, and the samples of a run
  listed_sum : (c t : ℕ) → sum_at pcm n (all c) t ≡ heard (moment_of h beds objects codes pcm n t) c
  unfolding heard
  listed_sum c t =
      let x = λ (k : ℕ). sample_at pcm n k t in
      let own = samples_at pcm n (length objects) (length codes) t in
      let bs = beds_on h c beds codes x in
      added_append x 0·0 (beds_listed h codes beds c) (objects_listed h (length codes) objects c)
      ∙ ap (λ (u : Float). added_to x u (objects_listed h (length codes) objects c)) (beds_add h c x codes 0·0 beds)
      ∙ objects_add h c pcm n t (length codes) (total 0·0 bs) objects
      ∙ sym (total_append bs (objects_on h c objects own) 0·0)

  listed_sums : (c t k : ℕ) → sums_at pcm n (all c) t k ≡ column (moment_of h beds objects codes pcm n) c t k
  listed_sums c t zero = refl
  listed_sums c t (suc k) =
      ap (λ (x : Float). x ∷ sums_at pcm n (all c) (suc t) k) (listed_sum c t)
      ∙ ap (λ (l : List Float). heard (moment_of h beds objects codes pcm n t) c ∷ l) (listed_sums c (suc t) k)

  -- rows that hold these sums are a run that is heard
  pub listed_heard : (t k j : ℕ) (rows : List Float) → 12 ≤ j → Filled (λ c. sums_at pcm n (all c) t k) k j rows → Heard (moment_of h beds objects codes pcm n) t k rows
  listed_heard t k j rows l f = record { columns = λ c m. f.columns c (omega arith) ∙ listed_sums c t k; rest = f.rest }
