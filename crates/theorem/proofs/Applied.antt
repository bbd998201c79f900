-- An update that refusals 5 and 6 let pass keeps what `Sound` says, one in the block's ranges (R-12) what `Within` says. Assumes nothing.
use Prim.Native.Nat.{ℕ, zero, suc, ◌+◌, ◌-◌, ◌*◌, ◌≤◌, ◌<◌}
use mathlib.Core.Path.{◌≡◌, refl, sym, ◌∙◌, subst}
use mathlib.Core.Bool.{Bool, true, not, cond}
use mathlib.Core.List.{List, [], ◌∷◌}
use lib.Dec.{T, eqb, ltb, lit≤}
use lib.ListN.{length, get_or, set, replicate, length-set, get_or-replicate}
use lib.Ieee.{Float, nan, fits, binary32, le, of_bits}
use native.Mathlib.Nat.{zero-add}
use native.Mathlib.Omega.{arith}
use borrow.Author.Tests.{ltb-true, lt-ltb}
use Rattle.ieee.specs.Bounds.{All}
use Rattle.words.specs.Words.{Bytes, word, float_at}
use Rattle.vectors.specs.Vectors.{zero_vec3}
use Rattle.vectors.specs.Vectors as vectors
use Rattle.panning.specs.Choice.{0·0, 1·0}
use Rattle.panning.specs.Table.{between, 8·0, Position}
use Rattle.records.specs.Laid.{laid_out, count, update_at}
use Rattle.records.specs.ValuesInRange.{in_range, all_fit}
use Rattle.records.proofs.Theorems.{in_range_fits}
use Rattle.timed.specs.Infos.{maybe_at}
use Rattle.timed.specs.Objects.{no_source, no_track}
use Rattle.timed.specs.State.{Timed, no_element, element_of}
use Rattle.timed.specs.declared.state.BlockState.{BlockState}
use Rattle.timed.specs.declared.state.Track.{Track}
use Rattle.timed.specs.declared.state.DynamicSourceState.{DynamicSourceState}
use Rattle.timed.specs.declared.state.ElementRendererState.{ElementRendererState}
use Rattle.timed.proofs.Theorems.{times_in, times_keeps, cond_keeps, set_each}
use Rattle.updates.specs.Said.{Element, Update, update_of}
use Rattle.updates.specs.Applied.{0·707, new_source, new_track, next_sources, next_gains, block_given, scheduled, element_next, is_kept, is_same, Work, element_given, elements_applied}
use Rattle.updates.specs.Applied.{code_given, codes_given, applied}
use Rattle.records.specs.WholeRecords.{WholeUpdate}
use Rattle.updates.proofs.Theorems.{applied_within}
use Rattle.updates.proofs.Elements.{flags_enough}
use Rattle.store.specs.ValidBlocks.{head_valid, heads_valid}
use Rattle.store.specs.Ranged.{Single, Singles, SourceSingles, TrackSingles, InfosRanged}
use Rattle.store.proofs.BlockTests.{and_in}
use lib.Ieee.Fits.{and_l, and_r}
use Rattle.timed.specs.InfoSizes.{info_bytes}
use Rattle.theorem.specs.Instance.{Sent}
use Rattle.theorem.proofs.Sound.{SourceSound, InfosSound, Sound, Within}
use Rattle.theorem.proofs.InfosWritten.{Said, Table, Fit, objects_kept}
use Rattle.theorem.proofs.Checked.{Checked, Shaped, SoundSaid, RangedSaid, whole, codes, info_ranged, info_sound}

-- ---- the infos, in the forms of `Sound` and of `Within`

pub sound_table : (is : List ℕ) → InfosSound is → Table SoundSaid is
unfolding maybe_at float_at
sound_table is h = record { long = h.long; bytes = h.bytes; each = λ k l. (h.gain k l, h.size k l, h.send k l) }

pub table_sound : (is : List ℕ) → Table SoundSaid is → InfosSound is
unfolding maybe_at float_at
table_sound is h = record { long = h.long; bytes = h.bytes; gain = λ k l. (h.each k l).0; size = λ k l. (h.each k l).1; send = λ k l. (h.each k l).2 }

heads_out : (is : List ℕ) (n at : ℕ) → T (heads_valid is at n) → (k : ℕ) → k < n → T (head_valid (word is (at + info_bytes * k)))
unfolding heads_valid
heads_out is zero at h k l = absurd (omega arith)
heads_out is (suc n) at h zero l = subst (λ (j : ℕ). T (head_valid (word is j))) (let e : at ≡ at + info_bytes * 0 = omega arith in e)
    (and_l (head_valid (word is at)) (heads_valid is (at + info_bytes) n) h)
heads_out is (suc n) at h (suc k) l =
    subst (λ (j : ℕ). T (head_valid (word is j))) (let e : at + info_bytes + info_bytes * k ≡ at + info_bytes * suc k = omega arith in e)
    (heads_out is n (at + info_bytes) (and_r (head_valid (word is at)) (heads_valid is (at + info_bytes) n) h) k (omega arith))

heads_in : (is : List ℕ) (n at : ℕ) → ((k : ℕ) → k < n → T (head_valid (word is (at + info_bytes * k)))) → T (heads_valid is at n)
unfolding heads_valid
heads_in is zero at h = tt
heads_in is (suc n) at h =
    and_in (head_valid (word is at)) (heads_valid is (at + info_bytes) n)
    (subst (λ (j : ℕ). T (head_valid (word is j))) (let e : at + info_bytes * 0 ≡ at = omega arith in e) (h 0 (omega arith)))
    (heads_in is n (at + info_bytes)
    (λ k l. subst (λ (j : ℕ). T (head_valid (word is j))) (let e : at + info_bytes * suc k ≡ at + info_bytes + info_bytes * k = omega arith in e) (h (suc k) (omega arith))))

ranged_table : (is : List ℕ) → InfosRanged is → Table RangedSaid is
ranged_table is h = record {
  long = h.length;
  bytes = h.bytes;
  each = λ k l. subst (λ (j : ℕ). T (head_valid (word is j))) (zero-add (info_bytes * k)) (heads_out is 512 0 h.heads k l);
}

table_ranged : (is : List ℕ) → Table RangedSaid is → InfosRanged is
table_ranged is h = record {
  length = h.long;
  bytes = h.bytes;
  heads = heads_in is 512 0
      (λ k l. subst (λ (j : ℕ). T (head_valid (word is j))) (sym (zero-add (info_bytes * k))) (h.each k l));
}

-- ---- lists

pub all_same : {A : Type 0} (P : A → Type 0) (n : ℕ) (a : A) → P a → All P (replicate n a)
all_same P zero a h = tt
all_same P (suc n) a h = (h, all_same P n a h)

all_set : {A : Type 0} (P : A → Type 0) (l : List A) (i : ℕ) (x : A) → P x → All P l → All P (set l i x)
all_set P [] i x p h = h
all_set P (y ∷ l) zero x p h = (p, h.1)
all_set P (y ∷ l) (suc i) x p h = (h.0, all_set P l i x p h.1)

-- ---- what starts again

zero_fits : T (fits binary32 vectors.0·0f)
unfolding fits of_bits
zero_fits = tt

pub origin : Position zero_vec3
origin = record { x = zero_fits; y = zero_fits; z = zero_fits }

origin_singles : Singles zero_vec3
origin_singles = record { x = zero_fits; y = zero_fits; z = zero_fits }

start_gain : T (between 0·0 8·0 0·707)
unfolding between fits le of_bits
start_gain = tt

start_fits : T (fits binary32 0·707)
unfolding fits of_bits
start_fits = tt

start_size : T (between 0·0 1·0 vectors.0·0f)
unfolding between fits le of_bits
start_size = tt

-- ---- the elements

module _ (same : Bool) (u : Update) where
  pub states_long : (states : List ElementRendererState) (is : List ℕ) → length (elements_applied same u states is).states ≡ length states
  unfolding elements_applied element_given
  states_long states is =
      times_keeps (λ (w : Work). length w.states ≡ length states) (element_given same u) (λ e w h. length-set w.states e _ ∙ h) u.elements 0
      (record { states = states; infos = is }) refl

  states_kept : (Q : ElementRendererState → Type 0)
      → ((e : ℕ) → e < u.elements → (kept : Bool) (s : ElementRendererState) → Q s → Q (element_next kept (u.objects - u.isf) (u.element e) s)) →
      (states : List ElementRendererState) (is : List ℕ) → ((i : ℕ) → i < 2 → Q (get_or states i no_element)) → (i : ℕ) → i < 2
      → Q (get_or (elements_applied same u states is).states i no_element)
  unfolding elements_applied element_given
  states_kept Q next states is h =
      times_in (λ (w : Work). (i : ℕ) → i < 2 → Q (get_or w.states i no_element)) (element_given same u) u.elements
      (λ e w l i.
      let s = get_or w.states e no_element in
      let kept = is_kept same s.blocks (u.element e).blocks in
      set_each (λ (j : ℕ) (y : ElementRendererState). j < 2 → Q y) w.states e (element_next kept (u.objects - u.isf) (u.element e) s) no_element (λ j. next e l kept s (i e j))
      i)
      u.elements 0 (omega arith) (record { states = states; infos = is }) h

  infos_kept : (P : Said) → u.elements ≤ 2 → u.objects ≤ 32 → ((e : ℕ) → e < u.elements → (u.element e).blocks ≤ 8) →
      ((bed : Bool) (e o b : ℕ) → e < u.elements → o < u.objects → b < (u.element e).blocks → Fit P bed ((u.element e).info o b)) →
      (states : List ElementRendererState) (is : List ℕ) → Table P is → Table P (elements_applied same u states is).infos
  unfolding elements_applied element_given
  infos_kept P two most few f states is h =
      times_in (λ (w : Work). Table P w.infos) (element_given same u) u.elements
      (λ e w l i.
      let s = get_or w.states e no_element in
      let kept = is_kept same s.blocks (u.element e).blocks in
      objects_kept P (not kept) u.isf (u.element e) (e * 256) u.objects w.infos (omega arith) most (few e l) (λ bed o b p q. f bed e o b l p q) i)
      u.elements 0 (omega arith) (record { states = states; infos = is }) h

-- an element's targets, for `Sound`
record Targets (s : ElementRendererState) : Type 0 where
  tracks : length s.tracks ≡ 16
  targets : (d : ℕ) → d < 16 → Position (get_or s.tracks d no_track).future

targets_next : (kept : Bool) (n : ℕ) (x : Element) (s : ElementRendererState) → Targets s → Targets (element_next kept n x s)
unfolding element_next
targets_next kept n x s h =
    record {
      tracks = cond_keeps (λ (l : List Track). length l ≡ 16) kept s.tracks (replicate 16 new_track) (λ _. h.tracks) (λ _. refl);
      targets = λ d l.
          cond_keeps (λ (t : List Track). Position (get_or t d no_track).future) kept s.tracks (replicate 16 new_track) (λ _. h.targets d l)
          (λ _. subst (λ (t : Track). Position t.future) (sym (get_or-replicate 16 d new_track no_track l)) origin);
    }

-- an element's tables, for `Within`
record Tables (s : ElementRendererState) : Type 0 where
  flags : s.flags ≤ 16
  schedule : length s.schedule ≡ 8
  tracks : length s.tracks ≡ 16
  targets : All TrackSingles s.tracks

scheduled_long : (x : Element) (s : List BlockState) → length s ≡ 8 → length (scheduled x s) ≡ 8
unfolding scheduled
scheduled_long x s h = times_keeps (λ (l : List BlockState). length l ≡ 8) (block_given x) (λ b l i. length-set l b _ ∙ i) x.blocks 0 s h

tables_next : (kept : Bool) (n : ℕ) (x : Element) (s : ElementRendererState) → n ≤ 16 → Tables s → Tables (element_next kept n x s)
unfolding element_next
tables_next kept n x s l h =
    record {
      flags = cond_keeps (λ (k : ℕ). k ≤ 16) kept s.flags n (λ _. h.flags) (λ _. l);
      schedule = scheduled_long x s.schedule h.schedule;
      tracks = cond_keeps (λ (t : List Track). length t ≡ 16) kept s.tracks (replicate 16 new_track) (λ _. h.tracks) (λ _. refl);
      targets = cond_keeps (All TrackSingles) kept s.tracks (replicate 16 new_track) (λ _. h.targets) (λ _. all_same TrackSingles 16 new_track origin_singles);
    }

-- ---- codes, gains, sources

pub codes_long : (u : Update) (cs : List ℕ) → length (codes_given u cs) ≡ length cs
unfolding codes_given
codes_long u cs = times_keeps (λ (l : List ℕ). length l ≡ length cs) (code_given u) (λ k l h. length-set l k _ ∙ h) 18 0 cs refl

codes_listed : (u : Update) (cs : List ℕ) → ((k : ℕ) → k < 18 → u.code k ≤ 17) → All (λ c. c ≤ 17) cs → All (λ c. c ≤ 17) (codes_given u cs)
unfolding codes_given
codes_listed u cs f h = times_in (All (λ c. c ≤ 17)) (code_given u) 18 (λ k l i q. all_set (λ c. c ≤ 17) l k (u.code k) (f k i) q) 18 0 (lit≤ tt) cs h

gains_next : (P : List Float → Type 0) (n n' : ℕ) (gs : List Float) → P gs → P (replicate 18 0·707) → P (next_gains n n' gs)
unfolding next_gains
gains_next P n n' gs h k = cond_keeps P (eqb n n') gs (replicate 18 0·707) (λ _. h) (λ _. k)

sources_next : (P : List DynamicSourceState → Type 0) (n n' : ℕ) (ss : List DynamicSourceState) → P ss → P (replicate 16 new_source) → P (next_sources n n' ss)
unfolding next_sources
sources_next P n n' ss h k = cond_keeps P (eqb n n') ss (replicate 16 new_source) (λ _. h) (λ _. k)

new_sound : SourceSound new_source
new_sound = record { gain = start_gain; size = start_size; place = origin; send = start_size }

new_singles : SourceSingles new_source
new_singles = record { gain = start_fits; size = zero_fits; place = origin_singles; send = zero_fits }

-- ---- the update

module _ (m : List ℕ) (bytes : Bytes m) (laid : laid_out m ≡ true) (fit : all_fit m ≡ true) (i : ℕ) (one : i < count m) where
  abbrev u : Update
  u = update_of m (update_at m i)

  w : WholeUpdate m (update_at m i)
  w = whole m bytes laid fit i one

  sound_given : in_range m ≡ true → (n : ℕ) (t : Timed) → Sound t → Sound (applied n u t)
  unfolding applied
  sound_given range n t h =
      let s = t.state in
      let es = states_kept (is_same s u) u Targets (λ e l kept x q. targets_next kept (u.objects - u.isf) (u.element e) x q) s.states t.infos
      (λ k l. record { tracks = h.tracks k l; targets = λ d q. h.targets k d l q }) in
      record {
        beds = w.few_beds;
        objects = w.few_dynamic;
        codes = codes_long u s.codes ∙ h.codes;
        states = states_long (is_same s u) u s.states t.infos ∙ h.states;
        gains = λ k l. gains_next (λ (gs : List Float). T (between 0·0 8·0 (get_or gs k nan))) s.beds u.beds s.gains (h.gains k l)
            (subst (λ (x : Float). T (between 0·0 8·0 x)) (sym (get_or-replicate 18 k 0·707 nan l)) start_gain);
        dynamic = sources_next (λ (ss : List DynamicSourceState). length ss ≡ 16) (s.objects - s.isf) (u.objects - u.isf) s.sources h.dynamic refl;
        sources = λ d l. sources_next (λ (ss : List DynamicSourceState). SourceSound (get_or ss d no_source)) (s.objects - s.isf) (u.objects - u.isf) s.sources (h.sources d l)
            (subst SourceSound (sym (get_or-replicate 16 d new_source no_source l)) new_sound);
        tracks = λ e l. (es e l).tracks;
        targets = λ e d l q. (es e l).targets d q;
        infos = table_sound _
            (infos_kept (is_same s u) u SoundSaid w.few_elements w.few_objects (λ e l. (w.each e l).given.few)
            (λ bed e o b p q r. info_sound m bytes laid fit i one e o b p q r range bed) s.states t.infos (sound_table t.infos h.infos));
      }

  within_given : (n : ℕ) (t : Timed) → n ≤ 1099511627776 → Within n t → Within n (applied n u t)
  unfolding applied
  within_given n t below h =
      let s = t.state in
      let es = states_kept (is_same s u) u Tables (λ e l kept x q. tables_next kept (u.objects - u.isf) (u.element e) x w.few_dynamic q) s.states t.infos
      (λ k l. let r = h.state.elements k l in record { flags = r.flags; schedule = r.schedule; tracks = r.tracks; targets = r.targets }) in
      record {
        state = record {
          within = applied_within n m (update_at m i) t w below h.state.within;
          codes = codes_long u s.codes ∙ h.state.codes;
          listed = codes_listed u s.codes (codes m bytes laid fit i one) h.state.listed;
          gains = gains_next (λ (gs : List Float). length gs ≡ 18) s.beds u.beds s.gains h.state.gains refl;
          beds = gains_next (All Single) s.beds u.beds s.gains h.state.beds (all_same Single 18 0·707 start_fits);
          sources = sources_next (λ (ss : List DynamicSourceState). length ss ≡ 16) (s.objects - s.isf) (u.objects - u.isf) s.sources h.state.sources refl;
          objects = sources_next (All SourceSingles) (s.objects - s.isf) (u.objects - u.isf) s.sources h.state.objects (all_same SourceSingles 16 new_source new_singles);
          states = states_long (is_same s u) u s.states t.infos ∙ h.state.states;
          elements = λ e l.
              let r = es e l in
              record {
                flags = r.flags;
                enough = cond_keeps (λ (k : ℕ). k ≤ (element_of (applied n u t).state e).flags) (ltb e u.elements) (u.objects - u.isf) 0
                    (λ q. flags_enough n u t e (ltb-true e u.elements q) (let k = h.state.states in omega arith)
                    (λ p. subst (λ (b : Bool). cond b (s.objects - s.isf) 0 ≤ (element_of s e).flags) (lt-ltb e s.elements p) (h.state.elements e l).enough))
                    (λ _. omega arith);
                schedule = r.schedule;
                tracks = r.tracks;
                targets = r.targets;
              };
        };
        infos = table_ranged _
            (infos_kept (is_same s u) u RangedSaid w.few_elements w.few_objects (λ e l. (w.each e l).given.few)
            (λ bed e o b p q r. info_ranged m bytes laid fit i one e o b p q r bed) s.states t.infos (ranged_table t.infos h.infos));
      }

pub sound_apply : (n : ℕ) (u : Sent) (t : Timed) → Checked u → Sound t → Sound (applied n u.said t)
sound_apply n u t c h =
    subst (λ (v : Update). Sound (applied n v t)) (sym c.is) (sound_given c.meta c.bytes c.laid (in_range_fits c.meta c.range) c.index c.there c.range n t h)

pub within_apply : (n : ℕ) (u : Sent) (t : Timed) → n ≤ 1099511627776 → Shaped u → Within n t → Within n (applied n u.said t)
within_apply n u t l c h = subst (λ (v : Update). Within n (applied n v t)) (sym c.is) (within_given c.meta c.bytes c.laid c.fit c.index c.there n t l h)
