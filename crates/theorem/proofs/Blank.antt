-- The timed state before any update is sound and within its ranges. Assumes nothing.
use Prim.Native.Nat.{ℕ, zero, ◌+◌, ◌*◌, ◌≤◌, ◌<◌}
use mathlib.Core.Path.{◌≡◌, refl, sym, ◌∙◌, subst}
use mathlib.Core.Bool.{false}
use lib.Dec.{T, lit≤}
use lib.ListN.{length, get_or, replicate, length-replicate, get_or-replicate}
use lib.Ieee.{Float, nan, fits, binary32, le, of_bits}
use Rattle.words.specs.Words.{number}
use Rattle.panning.specs.Choice.{0·0, 1·0}
use Rattle.panning.specs.Table.{between, 8·0, Position}
use Rattle.timed.specs.Objects.{no_source, no_track}
use Rattle.timed.specs.State.{Timed, no_element}
use Rattle.timed.specs.declared.state.Track.{Track}
use Rattle.timed.specs.declared.state.ElementRendererState.{ElementRendererState}
use Rattle.timed.proofs.Theorems as timed'
use Rattle.panning.specs.Setup.{hall_with}
use Rattle.rules.proofs.Theorems.{right_hall}
use Rattle.store.specs.Layout.{still, no_blocks, blank}
use Rattle.store.proofs.Fresh.{fresh_ranged}
use Rattle.timed.specs.InfoSizes.{info_bytes, all_bytes, send_byte}
use Rattle.theorem.proofs.ZeroBytes.{zero_bytes, zero_number}
use Rattle.theorem.proofs.Sound.{SourceSound, InfosSound, Sound, Within}
use Rattle.theorem.proofs.Checked.{SoundSaid}
use Rattle.theorem.proofs.Applied.{table_sound}

nothing_said : (h g z d : ℕ) → h ≡ 0 → d ≡ 0 → SoundSaid h g z d
unfolding between fits le of_bits
nothing_said h g z d e f = rw (e, f) (tt, tt, tt)

infos_blank : (n : ℕ) → n ≡ all_bytes → InfosSound (replicate n 0)
infos_blank n e =
    table_sound (replicate n 0)
    (record {
      long = length-replicate {A = ℕ} n 0 ∙ e;
      bytes = zero_bytes n;
      each = λ k l. nothing_said _ _ _ _ (zero_number n (info_bytes * k) 4) (zero_number n (info_bytes * k + send_byte) 4);
    })

zero_gain : T (between 0·0 8·0 0·0)
unfolding between fits le
zero_gain = tt

zero_size : T (between 0·0 1·0 0·0)
unfolding between fits le
zero_size = tt

zero_fits : T (fits binary32 0·0)
unfolding fits
zero_fits = tt

still_fits : Position still
still_fits = record { x = zero_fits; y = zero_fits; z = zero_fits }

element_blank : (e : ℕ) → e < 2 → get_or (replicate 2 no_blocks) e no_element ≡ no_blocks
element_blank e l = get_or-replicate 2 e no_blocks no_element l

pub sound_blank : Sound blank
unfolding blank
sound_blank =
    record {
      beds = lit≤ tt;
      objects = lit≤ tt;
      codes = refl;
      states = refl;
      gains = λ k l. subst (λ (x : Float). T (between 0·0 8·0 x)) (sym (get_or-replicate 18 k 0·0 nan l)) zero_gain;
      dynamic = refl;
      sources = λ d l. subst SourceSound (sym (get_or-replicate 16 d (record { gain = 0·0; size = 0·0; place = still; placed = false; wanted = false; held = false; send = 0·0 }) no_source l))
          (record { gain = zero_gain; size = zero_size; place = still_fits; send = zero_size });
      tracks = λ e l. subst (λ (x : ElementRendererState). length x.tracks ≡ 16) (sym (element_blank e l)) refl;
      targets = λ e d l q. subst (λ (x : ElementRendererState). Position (get_or x.tracks d no_track).future) (sym (element_blank e l))
          (subst (λ (t : Track). Position t.future) (sym (get_or-replicate 16 d (record { now = false; future = still }) no_track q)) still_fits);
      infos = infos_blank all_bytes refl;
    }

pub within_blank : Within 0 blank
within_blank = let h = fresh_ranged (hall_with 0) (right_hall 0 (lit≤ tt)) in record { state = h.state; infos = h.infos }

pub within_later : (n k : ℕ) (m : Timed) → n ≤ k → Within n m → Within k m
within_later n k m l h =
    let s = h.state in
    record {
      state = record {
        within = timed'.within_later n k m.state l s.within;
        codes = s.codes;
        listed = s.listed;
        gains = s.gains;
        beds = s.beds;
        sources = s.sources;
        objects = s.objects;
        states = s.states;
        elements = s.elements;
      };
      infos = h.infos;
    }
