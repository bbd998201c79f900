-- The terms of a run by channel: each is fed by one of the run's inputs. Assumes nothing.
use mathlib.Core.Path.{◌≡◌, refl}
use mathlib.Core.Bool.{Bool, true, false, cond}
use mathlib.Core.List.{List, [], ◌∷◌, ◌++◌}
use Prim.Native.Nat.{ℕ, zero, suc, ◌+◌, ◌<◌, ◌≤◌}
use native.Mathlib.Omega.{arith}
use native.Mathlib.Nat.{not-suc-le-zero, le_of_suc-le-suc}
use lib.ListN.{length}
use lib.Ieee.{Float, eq}
use Rattle.std.specs.Prelude.{Option, Some, None}
use Rattle.beds.specs.Matching.{matching}
use Rattle.panning.specs.Setup.{Setup}
use Rattle.panning.specs.Terms.{on_channel}
use Rattle.rules.specs.Parts.{0·0}
use Rattle.rules.specs.Leaves.{Source, Bed}
use Rattle.rules.specs.Mix.{added_terms}
use Rattle.render.specs.declared.lists.Fed.{Fed}
use Rattle.render.specs.MixedSources.{bed_terms}
use Rattle.render.specs.Listed.{fed_with, fed_of, found_fed, beds_listed, objects_listed, run_listed, FedBy}
use Rattle.render.proofs.BedTerms.{found_inside}

none_fed : (m : ℕ) → FedBy m []
none_fed m j l = absurd (not-suc-le-zero l)

fed_cons : (m : ℕ) (f : Fed) (fs : List Fed) → f.input < m → FedBy m fs → FedBy m (f ∷ fs)
fed_cons m f fs h r zero l = h
fed_cons m f fs h r (suc j) l = r j (le_of_suc-le-suc l)

fed_append : (m : ℕ) (a b : List Fed) → FedBy m a → FedBy m b → FedBy m (a ++ b)
fed_append m [] b p q = q
fed_append m (f ∷ a) b p q = fed_cons m f (a ++ b) (p 0 (omega arith)) (fed_append m a b (λ j l. p (suc j) (omega arith)) q)

fed_inside : (m i : ℕ) → i < m → (gs : List Float) → FedBy m (fed_of i gs)
unfolding fed_of
fed_inside m i h [] = none_fed m
fed_inside m i h (g ∷ gs) = go (eq g 0·0) (fed_inside m i h gs)
  where
    go : (b : Bool) → FedBy m (fed_of i gs) → FedBy m (cond b (fed_of i gs) (fed_with i g ∷ fed_of i gs))
    go true r = r
    go false r = fed_cons m (fed_with i g) (fed_of i gs) h r

-- what is found is an input
found_within : (m : ℕ) (code : ℕ) (codes : List ℕ) (gs : List Float) → length codes ≤ m → (f : Option ℕ) → matching code codes ≡ f → FedBy m (found_fed f gs)
found_within m code codes gs w (Some i) e = let k = found_inside code codes e in fed_inside m i (omega arith) gs
found_within m code codes gs w None e = none_fed m

module _ (h : Setup) (m c : ℕ) where
  beds_fed : (codes : List ℕ) (bs : List Bed) → length codes ≤ m → FedBy m (beds_listed h codes bs c)
  beds_fed codes [] w = none_fed m
  beds_fed codes (b ∷ bs) w =
      let f = matching b.code codes in
      let gs = on_channel c (bed_terms h b) in
      fed_append m (found_fed f gs) (beds_listed h codes bs c) (found_within m b.code codes gs w f refl) (beds_fed codes bs w)

  objects_fed : (i : ℕ) (os : List Source) → i + length os ≤ m → FedBy m (objects_listed h i os c)
  objects_fed i [] w = none_fed m
  objects_fed i (o ∷ os) w =
      let gs = on_channel c (added_terms h o) in
      fed_append m (fed_of i gs) (objects_listed h (suc i) os c) (fed_inside m i (omega arith) gs) (objects_fed (suc i) os (omega arith))

-- what the lists hold is fed by the run's inputs, its beds' and then its objects'
pub listed_fed : (h : Setup) (codes : List ℕ) (beds : List Bed) (objects : List Source) (inputs c : ℕ) → length objects ≤ inputs
    → FedBy (length codes + inputs) (run_listed h codes beds objects c)
listed_fed h codes beds objects inputs c w =
    let m = length codes + inputs in
    fed_append m (beds_listed h codes beds c) (objects_listed h (length codes) objects c)
    (beds_fed h m c codes beds (omega arith)) (objects_fed h m c (length codes) objects (omega arith))
