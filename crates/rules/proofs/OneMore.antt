-- A push on any renderer, sample by sample: what one sample more leaves and gives out, and which bits it lays. Assumes nothing.
use mathlib.Core.Path.{◌≡◌, refl, sym, ap, ap₂, ◌∙◌}
use mathlib.Core.Bool.{Bool, true, false, cond}
use mathlib.Core.List.{List, [], ◌∷◌, ◌++◌}
use Prim.Native.Nat.{ℕ, suc, ◌<◌}
use lib.Dec.{eqb}
use lib.ListN.{set}
use lib.Ieee.{Float, binary32, to_bits}
use Rattle.lowpass.specs.Lowpass.{output}
use Rattle.lowpass.specs.declared.BiquadLowpassState.{BiquadLowpassState}
use Rattle.panning.specs.Setup.{Setup, present}
use Rattle.rules.specs.Parts.{laid}
use Rattle.rules.specs.Leaves.{Leaves}
use Rattle.rules.specs.Mix.{Moment, heard, fed}
use Rattle.rules.specs.Samples.{Frame, State, row, updated, slotted, After, passed, sampled, framed, opened, pushed}
use Rattle.rules.specs.Refusals.{Args}
use Rattle.rules.specs.Calls.{frame_of}
use Rattle.rules.specs.Sounds.{silent, before, met, moment_at, sound_at}
use Rattle.rules.proofs.Clock.{untouched, setup_kept}
use Rattle.rules.proofs.Moments.{moment_of, next_at, given_at, meters_at, moment_at_is}

-- ---- a row is one sample
abbrev sound : Moment → BiquadLowpassState → ℕ → Float
sound m low c = cond (eqb c 3) (output low (fed m)) (heard m c)

row_is : (m : Moment) (low : BiquadLowpassState) (c : ℕ) → row m low c ≡ sound m low c ∷ []
row_is m low c = go (eqb c 3)
  where
    go : (b : Bool) → cond b (output low (fed m) ∷ []) (heard m c ∷ []) ≡ cond b (output low (fed m)) (heard m c) ∷ []
    go true = refl
    go false = refl

module _ (L : Leaves) where
  -- v, which updates and a slot left of s
  abbrev over : State L → State L → State L
  over s v =
      record {
        setup = s.setup;
        rate = s.rate;
        clock = record { position = s.clock.position; phase = v.clock.phase; start = v.clock.start };
        limiter = s.limiter;
        filter = s.filter;
        meta = v.meta;
        pending = s.pending;
        waits = s.waits;
      }

  met_is : (t : ℕ) (us : List L.Update) (s : State L) → slotted L (updated L t us s) ≡ over s (slotted L (updated L t us s))
  met_is t us s =
      let v = slotted L (updated L t us s) in
      let u = untouched L t us s in
      λ i. record {
        setup = u.setup i;
        rate = u.rate i;
        clock = record { position = u.position i; phase = v.clock.phase; start = v.clock.start };
        limiter = u.limiter i;
        filter = u.filter i;
        meta = v.meta;
        pending = u.pending i;
        waits = u.waits i;
      }

  module _ (r : State L) (a : Args) where
    abbrev f : Frame L.Update
    f = frame_of L r a

    abbrev start : State L
    start = opened L a.rate r

    abbrev s : ℕ → State L
    s t = before L r a t

    pub moment_is : (t : ℕ) → t < a.samples → moment_at L r a t ≡ moment_of L f t (s t)
    unfolding pushed
    moment_is t h = moment_at_is L f start a.samples t (silent r.setup) h

    -- one sample more
    abbrev pub more : ℕ → After L
    more t = passed L (moment_at L r a t) (over (s t) (met L r a t))

    sampled_is : (t : ℕ) → t < a.samples → sampled L f t (s t) ≡ more t
    sampled_is t h = ap₂ (passed L) (sym (moment_is t h)) (met_is t f.updates (s t))

    pub next_is : (t : ℕ) → t < a.samples → s (suc t) ≡ (more t).next
    next_is t h = next_at L f start t ∙ ap (λ (x : After L). x.next) (sampled_is t h)

    pub given_is : (t c : ℕ) → t < a.samples → (framed L f (suc t) 0 start).given c ≡ (framed L f t 0 start).given c ++ (more t).given c
    given_is t c h = given_at L f start t c ∙ ap (λ (x : After L). (framed L f t 0 start).given c ++ x.given c) (sampled_is t h)

    pub meters_are : (t : ℕ) → t < a.samples → (framed L f (suc t) 0 start).meters ≡ (framed L f t 0 start).meters ++ (more t).meters
    meters_are t h = meters_at L f start t ∙ ap (λ (x : After L). (framed L f t 0 start).meters ++ x.meters) (sampled_is t h)

    -- no sample changes the hall
    pub hall_at : (t : ℕ) → (s t).setup ≡ r.setup
    hall_at t = setup_kept L f t 0 start

    -- the sample is laid behind those that wait
    pub places_are : (t c : ℕ) → present r.setup.layout c ≡ true
        → (more t).next.pending.places c ≡ set ((s t).pending.places c) (s t).pending.count (to_bits binary32 (sound_at L r a c t))
    places_are t c e =
        ap (λ (xs : List Float). laid (s t).pending.count xs ((s t).pending.places c))
        (ap (λ (b : Bool). cond b (row (moment_at L r a t) (s t).filter c) []) (ap (λ (h : Setup). present h.layout c) (hall_at t) ∙ e) ∙ row_is (moment_at L r a t) (s t).filter c)
