-- The invariant of the renderer, kept by every update, slot, sample and frame; what is given out is from -1 to 1, in whole blocks of 64. Assumes nothing beyond `Facts`.
use mathlib.Core.Path.{◌≡◌, refl, sym, ap, ◌∙◌, subst}
use mathlib.Core.Logic.{◌⊎◌, inl, inr}
use mathlib.Core.Bool.{Bool, true, false, cond, ◌&&◌}
use mathlib.Core.List.{List, [], ◌∷◌}
use Prim.Native.Nat.{ℕ, ◌+◌, ◌*◌, ◌<◌}
use native.Mathlib.Nat.{le_of_eq, le_trans, not-suc-le-zero}
use native.Mathlib.Omega.{arith}
use borrow.Author.Tests.{leb-true, eq-eqb}
use lib.Dec.{eqb, leb, ltb, lit≤, lit<}
use lib.ListN.{length}
use lib.Ieee.{Float, binary32, to_bits, of_bits}
use lib.Ieee.Bits.{of_bits-to_bits}
use Rattle.ieee.specs.Units.{One, F32, Gain, Unitary}
use Rattle.ieee.specs.Bounds.{Bounded, All}
use Rattle.ieee.proofs.Constants.{zero_f32}
use Rattle.lowpass.specs.Lowpass.{output, new}
use Rattle.lowpass.proofs.Calm.{Calm, calm_next, output_bounded}
use Rattle.lowpass.proofs.CalmAtRates.{calm_listed}
use Rattle.angles.specs.Angle.{Listed}
use Rattle.limiter.specs.Range.{MetersInRange}
use Rattle.limiter.specs.declared.meters.Meters.{Meters}
use Rattle.limiter.proofs.Theorems.{one_gain}
use Rattle.panning.specs.Setup.{Setup, HallFits}
use Rattle.rules.specs.Parts.{Channels, none, Places, floats, laid, zeros}
use Rattle.rules.specs.Leaves.{Leaves, started}
use Rattle.rules.specs.Mix.{sample_at, Moment, heard, fed}
use Rattle.rules.specs.Samples.{Frame, State, fresh, sounding, limited, metered, row, applied_at, updated, slotted, moment, After, passed, opened}
use Rattle.rules.specs.Calls.{with_meta, with_waits}
use Rattle.rules.specs.Sounds.{AllMetered}
use Rattle.rules.specs.Promises.{count_on}
use Rattle.rules.specs.BlockCalls.{Layout}
use Rattle.rules.proofs.EachOf.{either, all_laid, length_laid, all_same, all_map, length_map, length_sounding, all_sounding, count_most, none_count, zeros_long, few_left}
use Rattle.rules.proofs.Owed.{Mixable, Facts}
use Rattle.rules.proofs.ChannelBound.{Most, most_range, Hearable, heard_bounded}
use Rattle.rules.proofs.Limited.{limited_tame, limited_metered, meters_kept, gain_kept, length_limited}
use Rattle.rules.proofs.Metered.{one_metered}

-- ---- words that hold finite samples
abbrev pub Finite : ℕ → Type 0
Finite w = F32 (of_bits binary32 w)

stored : (x : Float) → F32 x → Finite (to_bits binary32 x)
stored x f = subst F32 (sym (of_bits-to_bits binary32 x f.fit)) f

zero_finite : Finite 0
unfolding of_bits
zero_finite = zero_f32

zeros_finite : (c : ℕ) → All Finite (zeros c)
zeros_finite c = either (All Finite) (ltb c 12) (all_same Finite 64 0 zero_finite) tt

module _ (L : Leaves) (B : Layout L) (F : Facts L B) where
  -- what refusals 3, 5, 6 and 8 leave of a frame
  pub record Admitted (f : Frame L.Update) : Type 0 where
    pub rate : Listed f.rate
    pub updates : All F.Checked f.updates
    pub input : (i t : ℕ) → i < length f.codes → t < f.samples → Bounded (16 * One) (sample_at f.pcm f.samples i t)
    pub own : (t : ℕ) → t < f.samples → All (Bounded (16 * One)) (Rattle.rules.specs.Mix.samples_at f.pcm f.samples f.objects (length f.codes) t)

  -- a renderer, but for its rate and its filter
  pub record Steady (r : State L) : Type 0 where
    pub hall : HallFits r.setup
    pub meta : F.Sound r.meta
    pub gain : Gain r.limiter.gain
    pub places : (c : ℕ) → All Finite (r.pending.places c)
    pub long : (c : ℕ) → c < 12 → length (r.pending.places c) ≡ 64
    pub few : r.pending.count < 64
    pub kept : F.Kept r.waits

  -- one that has a rate
  pub record Good (r : State L) : Type 0 where
    pub rate : Listed r.rate
    pub calm : Calm Most r.filter
    pub steady : Steady r

  -- one that has none yet
  pub record Idle (r : State L) : Type 0 where
    pub rate : r.rate ≡ 0
    pub none : r.pending.count ≡ 0
    pub steady : Steady r

  -- the invariant between calls
  abbrev pub Rest : State L → Type 0
  Rest r = Idle r ⊎ Good r

  pub fresh_rest : (h : Setup) → HallFits h → Rest (fresh L h)
  fresh_rest h f =
      inl (record { rate = refl; none = refl; steady = record { hall = f; meta = F.sound_blank; gain = one_gain; places = zeros_finite; long = zeros_long; few = lit< tt; kept = F.kept_none } })

  -- ---- a hold, a release
  wanted_steady : (w : Bool) (d : ℕ) (r : State L) → Steady r → Steady (with_meta L (L.want w d r.meta) r)
  wanted_steady w d r s = record { hall = s.hall; meta = F.sound_want w d r.meta s.meta; gain = s.gain; places = s.places; long = s.long; few = s.few; kept = s.kept }

  pub marked_rest : (w : Bool) (d : ℕ) (r : State L) → Rest r → Rest (with_meta L (L.want w d r.meta) r)
  marked_rest w d r (inl g) = inl (record { rate = g.rate; none = g.none; steady = wanted_steady w d r g.steady })
  marked_rest w d r (inr g) = inr (record { rate = g.rate; calm = g.calm; steady = wanted_steady w d r g.steady })

  -- ---- what waits after an accepted push
  settled_steady : (ws : L.Waits) (r : State L) → F.Kept ws → Steady r → Steady (with_waits L ws r)
  settled_steady ws r k s = record { hall = s.hall; meta = s.meta; gain = s.gain; places = s.places; long = s.long; few = s.few; kept = k }

  pub settled_good : (ws : L.Waits) (r : State L) → F.Kept ws → Good r → Good (with_waits L ws r)
  settled_good ws r k g = record { rate = g.rate; calm = g.calm; steady = settled_steady ws r k g.steady }

  -- ---- updates, slots, a rate
  applied_good : (t : ℕ) (u : L.Update) (r : State L) → F.Checked u → Good r → Good (applied_at L t u r)
  applied_good t u r k g =
      let s = g.steady in
      record {
        rate = g.rate;
        calm = g.calm;
        steady = record { hall = s.hall; meta = F.sound_apply r.clock.position u r.meta k s.meta; gain = s.gain; places = s.places; long = s.long; few = s.few; kept = s.kept };
      }

  pub updated_good : (t : ℕ) (us : List L.Update) (r : State L) → All F.Checked us → Good r → Good (updated L t us r)
  updated_good t [] r k g = g
  updated_good t (u ∷ us) r k g = updated_good t us (cond (eqb (L.offset u) t) (applied_at L t u r) r) k.1 (either Good (eqb (L.offset u) t) (applied_good t u r k.0 g) g)

  slotted_good : (r : State L) → Good r → Good (slotted L r)
  slotted_good r g =
      let s = g.steady in
      record {
        rate = g.rate;
        calm = g.calm;
        steady = record {
          hall = s.hall;
          meta = either F.Sound (started L r.meta && eqb r.clock.phase 0) (F.sound_slot r.clock.start r.meta s.meta) s.meta;
          gain = s.gain;
          places = s.places;
          long = s.long;
          few = s.few;
          kept = s.kept;
        };
      }

  -- what a sample finds
  pub before_good : (t : ℕ) (us : List L.Update) (r : State L) → All F.Checked us → Good r → Good (slotted L (updated L t us r))
  before_good t us r k g = slotted_good (updated L t us r) (updated_good t us r k g)

  opened_steady : (rate : ℕ) (r : State L) → Steady r → Steady (opened L rate r)
  opened_steady rate r s = record { hall = s.hall; meta = s.meta; gain = s.gain; places = s.places; long = s.long; few = s.few; kept = s.kept }

  pub opened_good : (rate : ℕ) (r : State L) → Listed rate → Rest r → Good (opened L rate r)
  opened_good rate r k (inl g) =
      let e = sym (eq-eqb r.rate 0 g.rate) in
      record {
        rate = subst (λ (b : Bool). Listed (cond b rate r.rate)) e k;
        calm = subst (λ (b : Bool). Calm Most (cond b (new rate) r.filter)) e (calm_listed k Most);
        steady = opened_steady rate r g.steady;
      }
  opened_good rate r k (inr g) =
      record {
        rate = either Listed (eqb r.rate 0) k g.rate;
        calm = either (Calm Most) (eqb r.rate 0) (calm_listed k Most) g.calm;
        steady = opened_steady rate r g.steady;
      }

  -- ---- one sample
  pub moment_hearable : (f : Frame L.Update) → Admitted f → (t : ℕ) → t < f.samples → (hall : Setup) → HallFits hall → (m : L.Meta) → F.Sound m
      → Hearable (moment L f t hall m)
  moment_hearable f k t h hall e m s = record { hall = e; sources = go (started L m); inputs = λ i l. k.input i t l h; own = k.own t h }
    where
      x : Mixable (L.beds m) (L.objects m)
      x = F.mixable m s

      go : (b : Bool) → Mixable (cond b (L.beds m) []) (cond b (L.objects m) [])
      go true = x
      go false = record { few_beds = lit≤ tt; beds = tt; few_objects = lit≤ tt; objects = tt }

  -- n samples from p pending, in the hall h: what was given out, in how many blocks, and what is left
  pub record Fine (h : Setup) (p n : ℕ) (a : After L) : Type 0 where
    pub next : Good a.next
    pub given : (c : ℕ) → c < 12 → All Unitary (a.given c)
    pub blocks : ℕ
    pub count : length a.meters ≡ blocks
    pub meters : All MetersInRange a.meters
    pub within : AllMetered a.meters a.given
    pub length : (c : ℕ) → c < 12 → length (a.given c) ≡ count_on h (64 * blocks) c
    pub all : 64 * blocks + a.next.pending.count ≡ p + n

  module _ (m : Moment) (h : Hearable m) (r : State L) (g : Good r) where
    row_finite : (c : ℕ) → All (λ (x : Float). Finite (to_bits binary32 x)) (row m r.filter c)
    row_finite c =
        either (All (λ (x : Float). Finite (to_bits binary32 x))) (eqb c 3) (
          stored (output r.filter (fed m)) (output_bounded most_range g.calm (heard_bounded m h 3)).f32,
          tt,
        )
        (stored (heard m c) (heard_bounded m h c).f32, tt)

    abbrev laid_row : Channels
    laid_row = sounding r.setup (row m r.filter)

    abbrev places : Places
    places c = laid r.pending.count (laid_row c) (r.pending.places c)

    places_finite : (c : ℕ) → All Finite (places c)
    places_finite c =
        all_laid Finite r.pending.count (laid_row c) (r.pending.places c)
        (all_sounding r.setup (λ (x : Float). Finite (to_bits binary32 x)) (row m r.filter) c (row_finite c)) (g.steady.places c)

    places_long : (c : ℕ) → c < 12 → length (places c) ≡ 64
    places_long c l = length_laid r.pending.count (laid_row c) (r.pending.places c) ∙ g.steady.long c l

    -- the block that the limiter meets
    abbrev block : Channels
    block = sounding r.setup (floats places)

    block_finite : (c : ℕ) → All F32 (block c)
    block_finite c = all_sounding r.setup F32 (floats places) c (all_map F32 (of_bits binary32) (places c) (places_finite c))

    block_long : (c : ℕ) → c < 12 → length (block c) ≡ count_on r.setup 64 c
    block_long c l = length_sounding r.setup (floats places) 64 c (length_map (of_bits binary32) (places c) ∙ places_long c l)

    passed_good : Good (passed L m r).next
    passed_good =
        record {
          rate = g.rate;
          calm = calm_next most_range g.calm (heard_bounded m h 3);
          steady = record {
            hall = g.steady.hall;
            meta = g.steady.meta;
            gain = either Gain (leb 64 (r.pending.count + 1)) (gain_kept block block_finite 64 r.rate g.rate (lit≤ tt) r.limiter.gain g.steady.gain)
                g.steady.gain;
            places = places_finite;
            long = places_long;
            few = few_left r.pending.count (leb 64 (r.pending.count + 1)) refl;
            kept = g.steady.kept;
          };
        }

    abbrev meters : List Meters
    meters = metered r.limiter.gain block

    pub passed_fine : Fine r.setup r.pending.count 1 (passed L m r)
    passed_fine = go (leb 64 (r.pending.count + 1)) refl
      where
        go : (b : Bool) → leb 64 (r.pending.count + 1) ≡ b → Fine r.setup r.pending.count 1 (passed L m r)
        go true e =
            let few = g.steady.few in
            let most = leb-true 64 (r.pending.count + 1) e in
            record {
              next = passed_good;
              given = λ c l. subst (λ (b : Bool). All Unitary (cond b (limited r.limiter.gain block) none c)) (sym e)
                  (limited_tame block block_finite 64 r.rate g.rate (lit≤ tt) r.limiter.gain g.steady.gain c l);
              blocks = 1;
              length = λ c l. ap (λ (b : Bool). length (cond b (limited r.limiter.gain block) none c)) e ∙ length_limited r.limiter.gain block c
                  ∙ block_long c l;
              all = ap (λ (b : Bool). 64 * 1 + cond b 0 (r.pending.count + 1)) e ∙ (omega arith);
              count = ap (λ (b : Bool). length (cond b meters [])) e;
              meters = subst (λ (b : Bool). All MetersInRange (cond b meters [])) (sym e)
                  (meters_kept block block_finite 64 r.rate g.rate (lit≤ tt) r.limiter.gain g.steady.gain);
              within = subst (λ (b : Bool). AllMetered (cond b meters []) (cond b (limited r.limiter.gain block) none)) (sym e)
                  (one_metered r.limiter.gain block (λ c l. le_trans (le_of_eq (length_limited r.limiter.gain block c ∙ block_long c l)) (count_most r.setup 64 c))
                  (limited_metered block block_finite 64 r.rate g.rate (lit≤ tt) r.limiter.gain g.steady.gain));
            }
        go false e =
            record {
              next = passed_good;
              given = λ c l. subst (λ (b : Bool). All Unitary (cond b (limited r.limiter.gain block) none c)) (sym e) tt;
              blocks = 0;
              length = λ c l. ap (λ (b : Bool). length (cond b (limited r.limiter.gain block) none c)) e ∙ sym (none_count r.setup c);
              all = ap (λ (b : Bool). 64 * 0 + cond b 0 (r.pending.count + 1)) e ∙ (omega arith);
              count = ap (λ (b : Bool). length (cond b meters [])) e;
              meters = subst (λ (b : Bool). All MetersInRange (cond b meters [])) (sym e) tt;
              within = subst (λ (b : Bool). AllMetered (cond b meters []) (cond b (limited r.limiter.gain block) none)) (sym e)
                  (λ c i l h. absurd (not-suc-le-zero h));
            }
