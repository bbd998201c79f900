-- A slot that starts no later than a stream position keeps document 01's ranges at that position. Assumes nothing.
use Prim.Native.Nat.{ℕ, zero, suc, ◌+◌, ◌*◌, ◌<◌, ◌≤◌}
use mathlib.Core.Path.{◌≡◌, refl, ap, ◌∙◌}
use mathlib.Core.Bool.{Bool, true, false, cond}
use mathlib.Core.List.{List, [], ◌∷◌}
use native.Mathlib.Omega.{arith}
use lib.ListN.{length, get_or}
use lib.Ieee.{Float, nan, binary32}
use lib.Ieee.Bits.{of_bits-fits}
use Rattle.std.specs.Prelude.{Some, None}
use Rattle.ieee.specs.Bounds.{All}
use Rattle.words.specs.Words.{word, float_at}
use Rattle.vectors.specs.declared.Vec3.{Vec3}
use Rattle.vectors.specs.Fit.{VecFits}
use Rattle.vectors.specs.Head.{has}
use Rattle.timed.specs.Infos.{head_at, maybe_at}
use Rattle.timed.specs.Objects.{no_source, no_track}
use Rattle.timed.specs.Slot.{InRange}
use Rattle.timed.specs.State.{Timed, element_of, slot_at}
use Rattle.timed.specs.declared.state.MetadataRendererState.{MetadataRendererState}
use Rattle.timed.proofs.Theorems.{slot_within, Like, like_head, slot_like}
use Rattle.store.specs.ValidBlocks.{least_flags, heads_valid}
use Rattle.store.specs.Ranged.{Single, Singles, SourceSingles, TrackSingles, ElementRanged, StateRanged, InfosRanged}
use Rattle.store.proofs.Whole.{all_at}
use Rattle.timed.specs.InfoSizes.{info_bytes}
use Rattle.theorem.proofs.Sound.{Within}
use Rattle.theorem.proofs.SlotShape.{Shaped, shape_slot}
use Rattle.theorem.proofs.SlotObjects.{Holds, InfosHave}
use Rattle.theorem.proofs.SlotState.{StateHas, slot_has}

-- ---- floats

all_out : {A : Type 0} (P : A → Type 0) (d : A) (xs : List A) → All P xs → (i : ℕ) → i < length xs → P (get_or xs i d)
all_out P d [] h i l = absurd (omega arith)
all_out P d (x ∷ xs) h zero l = h.0
all_out P d (x ∷ xs) h (suc i) l = all_out P d xs h.1 i (omega arith)

either_holds : (P : Float → Type 0) (b : Bool) (x : Float) → P x → Holds P (cond b (Some x) None)
either_holds P true x h = h
either_holds P false x h = tt

-- whatever bytes say is an f32
single_at : (is : List ℕ) (k bit at : ℕ) → Holds Single (maybe_at is k bit at)
unfolding maybe_at float_at
single_at is k bit at = either_holds Single (has (head_at is k) bit) (float_at is (info_bytes * k + at)) (of_bits-fits binary32 (word is (info_bytes * k + at)))

infos_single : (is : List ℕ) → InfosHave Single Single is
unfolding float_at
infos_single is = record { gain = λ k. single_at is k 4 4; size = λ k. single_at is k 32 8; send = λ k. of_bits-fits binary32 _ }

fits_of : {v : Vec3} → Singles v → VecFits v
fits_of h = record { x_fits = h.x; y_fits = h.y; z_fits = h.z }

singles_of : {v : Vec3} → VecFits v → Singles v
singles_of h = record { x = h.x_fits; y = h.y_fits; z = h.z_fits }

module _ (n : ℕ) (s : MetadataRendererState) (h : StateRanged n s) where
  pub state_has : StateHas Single Single s
  state_has =
      record {
        beds = h.within.beds;
        objects = h.within.dynamic;
        states = h.states;
        gains = λ i l. all_out Single nan s.gains h.beds i (rw h.gains l);
        sources = λ d l.
            let g = all_out SourceSingles no_source s.sources h.objects d (rw h.sources l) in
            record { gain = g.gain; size = g.size; place = fits_of g.place; send = g.send };
        targets = λ e l d k. fits_of (all_out TrackSingles no_track (element_of s e).tracks (h.elements e l).targets d (rw (h.elements e l).tracks k));
      }

  -- a state of this shape
  module _ (t : MetadataRendererState) (same : Shaped s t) (g : StateHas Single Single t) where
    element_ranged : (i : ℕ) → i < 2 → ElementRanged (least_flags i t) (element_of t i)
    element_ranged i l =
        let e = h.elements i l in
        let f = same.element i in
        let long = f.tracks ∙ e.tracks in
        record {
          flags = rw f.flags e.flags;
          enough = rw (same.elements, same.objects, same.isf, f.flags) e.enough;
          schedule = f.schedule ∙ e.schedule;
          tracks = long;
          targets = all_at TrackSingles no_track (element_of t i).tracks (λ d k. singles_of (g.targets i l d (rw long at k)));
        }

    pub state_ranged : ((e : ℕ) → e < 2 → InRange n (element_of t e)) → StateRanged n t
    state_ranged r =
        let gains = same.gains ∙ h.gains in
        let sources = same.sources ∙ h.sources in
        record {
          within = record {
            payload = rw same.payload h.within.payload;
            objects = rw same.objects h.within.objects;
            isf = rw same.isf h.within.isf;
            dynamic = g.objects;
            beds = g.beds;
            channels = rw (same.beds, same.objects) h.within.channels;
            elements = rw same.elements h.within.elements;
            states = r;
          };
          codes = ap length same.codes ∙ h.codes;
          listed = rw same.codes h.listed;
          gains = gains;
          beds = all_at Single nan t.gains (λ i l. g.gains i (rw gains at l));
          sources = sources;
          objects =
              all_at SourceSingles no_source t.sources
              (λ d l. let x = g.sources d (rw sources at l) in record { gain = x.gain; size = x.size; place = singles_of x.place; send = x.send });
          states = g.states;
          elements = element_ranged;
        }

-- ---- infos

heads_same : {is js : List ℕ} → Like is js → (m k : ℕ) → heads_valid js (info_bytes * k) m ≡ heads_valid is (info_bytes * k) m
unfolding heads_valid
heads_same l zero k = refl
heads_same l (suc m) k =
    let e : info_bytes * k + info_bytes ≡ info_bytes * suc k = omega arith in
    rw (like_head l k, e, heads_same l m (suc k))

pub like_ranged : {is js : List ℕ} → Like is js → InfosRanged is → InfosRanged js
like_ranged l h = record { length = l.long ∙ h.length; bytes = l.bytes h.bytes; heads = rw (heads_same l 512 0) h.heads }

pub within_slot : (n start : ℕ) (m : Timed) → start ≤ n → n ≤ 1099511627776 → Within n m → Within n (slot_at start m)
within_slot n start m early _ h =
    record {
      state =
          state_ranged n m.state h.state (slot_at start m).state (shape_slot start m)
          (slot_has Single Single start m (state_has n m.state h.state) (infos_single m.infos))
          (slot_within n start m early h.state.within).states;
      infos = like_ranged (slot_like start m) h.infos;
    }
