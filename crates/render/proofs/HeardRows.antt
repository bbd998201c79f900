-- Source after source over a run is sample after sample: the rows hold what is heard at each moment. Assumes nothing.
use mathlib.Core.Path.{◌≡◌, refl, sym, ap, subst, ◌∙◌}
use mathlib.Core.List.{List, [], ◌∷◌, ◌++◌}
use Prim.Native.Nat.{ℕ, zero, suc, ◌+◌, ◌*◌, ◌<◌, ◌≤◌}
use native.Mathlib.Omega.{arith}
use native.Mathlib.Nat.{not-suc-le-zero, le_of_suc-le-suc}
use lib.ListN.{length, get_or, take, drop, length-drop, length-replicate, get_or-replicate}
use lib.Seq.{get_or-take, get_or-drop, length-take-le, ext_get_or}
use lib.Ieee.{Float, nan}
use Rattle.words.specs.Words.{float_at}
use Rattle.mixing.specs.Sums as sums
use Rattle.mixing.specs.Sums.{total}
use Rattle.mixing.proofs.Theorems.{length-samples, sample-at}
use Rattle.std.specs.Prelude.{Option, Some, None}
use Rattle.beds.specs.Matching.{matching}
use Rattle.panning.specs.Setup.{Setup}
use Rattle.panning.specs.Terms.{Term, on_channel}
use Rattle.rules.specs.Parts.{0·0}
use Rattle.rules.specs.Leaves.{Source, Bed}
use Rattle.rules.specs.Mix.{added_terms, adds_of, sample_at, samples_at, scaled_by, fed_by, beds_on, objects_on, Moment, heard}
use Rattle.render.specs.MixedRows.{mixed_terms}
use Rattle.render.specs.declared.Span.{Span}
use Rattle.render.specs.MixedSources.{bed_terms, channel_start, channel_row, mixed_found, mixed_beds, mixed_objects}
use Rattle.formats.specs.Areas.{place_count}
use Rattle.render.specs.Run.{silent_rows, moment_of, column, Heard}
use Rattle.render.proofs.BedTerms.{bed_adds_is}
use Rattle.render.proofs.Adds.{Adds, scaled_on, adds_none, adds_then, adds_as, adds_terms}

-- ---- columns

length_column : (m : ℕ → Moment) (c t k : ℕ) → length (column m c t k) ≡ k
length_column m c t zero = refl
length_column m c t (suc k) = ap suc (length_column m c (suc t) k)

column_at : (m : ℕ → Moment) (c t k i : ℕ) → i < k → get_or (column m c t k) i nan ≡ heard (m (t + i)) c
column_at m c t zero i h = absurd (not-suc-le-zero h)
column_at m c t (suc k) zero h = let e : t + 0 ≡ t = omega arith in rw e
column_at m c t (suc k) (suc i) h = let e : t + suc i ≡ suc t + i = omega arith in rw e (column_at m c (suc t) k i (le_of_suc-le-suc h))

heard_is : (m : Moment) (c : ℕ) → heard m c ≡ total 0·0 (beds_on m.hall c m.beds m.codes m.inputs ++ objects_on m.hall c m.objects m.own)
unfolding heard
heard_is m c = refl

pub silent_long : length silent_rows ≡ place_count
unfolding silent_rows
silent_long = length-replicate place_count 0·0

-- ---- beds and objects

module _ (pcm : List ℕ) (s : Span) where
  abbrev k : ℕ
  k = s.count

  short : k ≤ 64
  short = s.short

  -- channel j at the run's sample i
  abbrev input : ℕ → ℕ → Float
  input i j = sample_at pcm s.frame j (s.first + i)

  row_at : (i j : ℕ) → i < k → get_or (channel_row pcm s j) i nan ≡ input i j
  row_at i j h =
      let n = s.frame in
      let t = s.first in
      let e : 4 * (j * n + t) + 4 * i ≡ 4 * (j * n + (t + i)) = omega arith in
      sample-at pcm (channel_start s j) k i nan h ∙ ap (float_at pcm) e

  adds_row : (j : ℕ) (ts : List Term) (os : List Float) → length os ≡ 768 → Adds k (λ c i. scaled_on c ts (input i j)) os (mixed_terms (channel_row pcm s j) ts os)
  adds_row j ts os h =
      let xs = channel_row pcm s j in
      let e : length xs ≡ k = length-samples pcm (channel_start s j) k in
      let G : ℕ → ℕ → List sums.Addend = λ c i. scaled_on c ts (get_or xs i nan) in
      adds_as k G (λ c i. scaled_on c ts (input i j)) os (mixed_terms xs ts os) (λ c i l m. ap (scaled_by (on_channel c ts)) (row_at i j m))
      (subst (λ (m : ℕ). Adds m G os (mixed_terms xs ts os)) e (adds_terms xs (omega arith) ts os h))

  adds_found : (ts : List Term) (f : Option ℕ) (os : List Float) → length os ≡ 768 → Adds k (λ c i. fed_by (on_channel c ts) f (input i)) os (mixed_found pcm s ts f os)
  adds_found ts (Some j) os h = adds_row j ts os h
  adds_found ts None os h = adds_none k os h

  module _ (h : Setup) where
    adds_beds : (codes : List ℕ) (bs : List Bed) (os : List Float) → length os ≡ 768 → Adds k (λ c i. beds_on h c bs codes (input i)) os (mixed_beds h pcm s codes bs os)
    adds_beds codes [] os l = adds_none k os l
    adds_beds codes (b ∷ bs) os l =
        let f = matching b.code codes in
        let mid = mixed_found pcm s (bed_terms h b) f os in
        let G : ℕ → ℕ → List sums.Addend = λ c i. fed_by (adds_of h b c) f (input i) in
        let a =
        adds_as k (λ c i. fed_by (on_channel c (bed_terms h b)) f (input i)) G os mid
        (λ c i l m. ap (λ (ks : List Float). fed_by ks f (input i)) (bed_adds_is h b c)) (adds_found (bed_terms h b) f os l)
        in
        adds_then k G (λ c i. beds_on h c bs codes (input i)) os mid (mixed_beds h pcm s codes bs mid) a (adds_beds codes bs mid a.whole)

    -- the objects are the channels from j on
    abbrev own : ℕ → ℕ → ℕ → List Float
    own m j i = samples_at pcm s.frame m j (s.first + i)

    adds_objects : (j : ℕ) (ss : List Source) (os : List Float) → length os ≡ 768 → Adds k (λ c i. objects_on h c ss (own (length ss) j i)) os (mixed_objects h pcm s j ss os)
    adds_objects j [] os l = adds_none k os l
    adds_objects j (o ∷ ss) os l =
        let mid = mixed_terms (channel_row pcm s j) (added_terms h o) os in
        let a = adds_row j (added_terms h o) os l in
        adds_then k (λ c i. scaled_on c (added_terms h o) (input i j)) (λ c i. objects_on h c ss (own (length ss) (suc j) i)) os mid
        (mixed_objects h pcm s (suc j) ss mid) a (adds_objects (suc j) ss mid a.whole)

    -- ---- rows of +0.0, then the beds, then the objects

    module _ (beds : List Bed) (objects : List Source) (codes : List ℕ) where
      abbrev at : ℕ → Moment
      at = moment_of h beds objects codes pcm s.frame

      -- the moment of the run's sample i
      abbrev within : ℕ → Moment
      within i = at (s.first + i)

      terms : ℕ → ℕ → List sums.Addend
      terms c i = beds_on h c beds codes (within i).inputs ++ objects_on h c objects (within i).own

      run_adds : Adds k terms silent_rows (mixed_objects h pcm s (length codes) objects (mixed_beds h pcm s codes beds silent_rows))
      unfolding terms
      run_adds =
          let mid = mixed_beds h pcm s codes beds silent_rows in
          let a = adds_beds codes beds silent_rows silent_long in
          adds_then k (λ c i. beds_on h c beds codes (within i).inputs) (λ c i. objects_on h c objects (within i).own) silent_rows mid
          (mixed_objects h pcm s (length codes) objects mid) a (adds_objects (length codes) objects mid a.whole)

      silent_at : (c i : ℕ) → c < 12 → i < 64 → get_or silent_rows (64 * c + i) nan ≡ 0·0
      unfolding silent_rows
      silent_at c i l m = get_or-replicate place_count (64 * c + i) 0·0 nan (omega arith)

      run_at : (rows : List Float) → Adds k terms silent_rows rows → (c i : ℕ) → c < 12 → i < k → get_or rows (64 * c + i) nan ≡ heard (within i) c
      unfolding terms
      run_at rows g c i l m = g.at c i l m ∙ ap (λ (x : Float). total x (terms c i)) (silent_at c i l (omega arith)) ∙ sym (heard_is (within i) c)

      run_columns : (rows : List Float) → Adds k terms silent_rows rows → (c : ℕ) → c < 12 → take k (drop (64 * c) rows) ≡ column at c s.first k
      run_columns rows g c l =
          let w = g.whole in
          let m : k ≤ length (drop (64 * c) rows) = rw length-drop (omega arith) in
          let d : length (take k (drop (64 * c) rows)) ≡ k = length-take-le k (drop (64 * c) rows) m in
          ext_get_or nan (take k (drop (64 * c) rows)) (column at c s.first k) (d ∙ sym (length_column at c s.first k))
          (λ i q.
          let b : i < k = omega arith in
          get_or-take k (drop (64 * c) rows) i nan b ∙ get_or-drop (64 * c) rows i nan ∙ run_at rows g c i l b ∙ sym (column_at at c s.first k i b))

      pub run_heard : {rows : List Float} → rows ≡ mixed_objects h pcm s (length codes) objects (mixed_beds h pcm s codes beds silent_rows) → Heard at s.first k rows
      run_heard {rows} p =
          let g = subst (Adds k terms silent_rows) (sym p) run_adds in
          record { columns = run_columns rows g; rest = λ c i l m o. g.past c i l m o ∙ silent_at c i l o }
