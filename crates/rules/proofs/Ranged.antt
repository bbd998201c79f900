-- Every accepted call leaves a renderer within document 01's ranges, from any renderer within them. Assumes nothing beyond `Facts`.
use mathlib.Core.Path.{◌≡◌, refl, sym, ap, ◌∙◌, subst}
use mathlib.Core.Logic.{◌⊎◌, inl, inr}
use mathlib.Core.Bool.{Bool, true, false, cond, not, ◌&&◌, ◌||◌}
use mathlib.Core.List.{List, [], ◌∷◌}
use Prim.Native.Nat.{ℕ, zero, suc, ◌+◌, ◌≤◌, ◌<◌, zero-le}
use native.Mathlib.Omega.{arith}
use borrow.Author.Tests.{leb-true, leb-false, eqb-false, le-ltb}
use lib.Dec.{T, eqb, leb, ltb, lit≤, lit<}
use lib.ListN.{replicate}
use lib.Ieee.{binary32, fits}
use lib.Ieee.Fits.{sub-fits}
use Rattle.ieee.specs.Bounds.{All}
use Rattle.words.specs.Words.{Bytes, Words}
use Rattle.rules.specs.Parts.{Channels, laid}
use Rattle.rules.specs.Leaves.{Leaves, started}
use Rattle.rules.specs.Mix.{Moment}
use Rattle.rules.specs.Samples.{Frame, State, fresh, row, sounding, applied_at, updated, slotted, moment, passed, sampled, framed, opened, pushed, flushed}
use Rattle.rules.specs.Refusals.{Args, listed}
use Rattle.panning.specs.Setup.{Setup}
use Rattle.rules.specs.Ranges.{Fits, FilterFits, HallRanged, Ranged}
use Rattle.rules.specs.Calls.{frame_of, with_meta, with_waits}
use Rattle.rules.specs.BlockCalls.{Layout}
use Rattle.rules.proofs.EachOf.{either, length_laid, all_sounding, zeros_long, few_left}
use Rattle.rules.proofs.Owed.{Facts}
use Rattle.rules.proofs.FloatsFit.{heard_fits, grown_fits, new_fits, laid_words, laid_none, same_words, row_fits}
use Rattle.rules.proofs.Judged.{Passed}
use Rattle.rules.proofs.Clock.{untouched}

module _ (L : Leaves) (B : Layout L) (F : Facts L B) where
  abbrev pub R : State L → Type 0
  R = Ranged L F.Within

  pub fresh_ranged : (h : Setup) → HallRanged h → R (fresh L h)
  unfolding fits
  fresh_ranged h e = record {
    setup = e;
    rate = inl refl;
    position = zero-le;
    phase = lit< tt;
    start = lit≤ tt;
    gain = tt;
    filter = record { a1 = tt; a2 = tt; b0 = tt; b1 = tt; b2 = tt; x1 = tt; x2 = tt; y1 = tt; y2 = tt };
    meta = F.within_blank;
    pending = lit< tt;
    idle = λ e. refl;
    long = zeros_long;
    words = λ c. either Words (ltb c 12) (same_words 64 0 (lit< tt)) tt;
    none = λ c h. ap (λ (b : Bool). cond b (replicate 64 0) []) (le-ltb c 12 h);
  }

  -- ---- updates and slots
  pub applied_ranged : (t : ℕ) (u : L.Update) (r : State L) → F.Shaped u → R r → R (applied_at L t u r)
  applied_ranged t u r k g =
      let s = slot_kept (not (started L r.meta) || eqb t 0) in
      record {
        setup = g.setup;
        rate = g.rate;
        position = g.position;
        phase = s.0;
        start = s.1;
        gain = g.gain;
        filter = g.filter;
        meta = F.within_apply r.clock.position u r.meta g.position k g.meta;
        pending = g.pending;
        idle = g.idle;
        long = g.long;
        words = g.words;
        none = g.none;
      }
    where
      slot_kept : (b : Bool) → (cond b 0 r.clock.phase < 64) × (cond b r.clock.position r.clock.start + cond b 0 r.clock.phase ≤ r.clock.position)
      slot_kept true = (lit< tt, omega arith)
      slot_kept false = (g.phase, g.start)

  pub slotted_ranged : (r : State L) → R r → R (slotted L r)
  slotted_ranged r g =
      let s = g.start in
      record {
        setup = g.setup;
        rate = g.rate;
        position = g.position;
        phase = g.phase;
        start = g.start;
        gain = g.gain;
        filter = g.filter;
        meta = either (F.Within r.clock.position) (started L r.meta && eqb r.clock.phase 0)
            (F.within_slot r.clock.position r.clock.start r.meta (omega arith) g.position g.meta) g.meta;
        pending = g.pending;
        idle = g.idle;
        long = g.long;
        words = g.words;
        none = g.none;
      }

  -- ---- a sample
  pub passed_ranged : (m : Moment) (r : State L) → listed r.rate ≡ true → r.clock.position + 1 ≤ 1099511627776 → R r → R (passed L m r).next
  passed_ranged m r l h g =
      let s = slot_kept (started L r.meta) (leb 64 (r.clock.phase + 1)) refl in
      record {
        setup = g.setup;
        rate = inr l;
        position = h;
        phase = s.0;
        start = s.1;
        gain = either Fits (leb 64 (r.pending.count + 1)) (grown_fits 64 r.rate _) g.gain;
        filter = record {
          a1 = g.filter.a1;
          a2 = g.filter.a2;
          b0 = g.filter.b0;
          b1 = g.filter.b1;
          b2 = g.filter.b2;
          x1 = heard_fits m 3;
          x2 = g.filter.x1;
          y1 = sub-fits binary32 _ _;
          y2 = g.filter.y1;
        };
        meta = F.within_later r.clock.position (r.clock.position + 1) r.meta (omega arith) g.meta;
        pending = few_left r.pending.count (leb 64 (r.pending.count + 1)) refl;
        idle = λ e. absurd (subst T (sym l ∙ ap listed e) tt);
        long = λ c k. length_laid r.pending.count (laid_row c) (r.pending.places c) ∙ g.long c k;
        words = λ c. laid_words r.pending.count (laid_row c) (r.pending.places c) (all_sounding r.setup Fits (row m r.filter) c (row_fits m r.filter c)) (g.words c);
        none = λ c k. ap (laid r.pending.count (laid_row c)) (g.none c k) ∙ laid_none r.pending.count (laid_row c);
      }
    where
      laid_row : Channels
      laid_row = sounding r.setup (row m r.filter)

      slot_kept : (run last : Bool) → leb 64 (r.clock.phase + 1) ≡ last
          → (cond run (cond last 0 (r.clock.phase + 1)) r.clock.phase < 64) ×
          (cond (run && last) (r.clock.start + 64) r.clock.start + cond run (cond last 0 (r.clock.phase + 1)) r.clock.phase ≤ r.clock.position + 1)
      slot_kept true true e = let p = g.phase in let s = g.start in let k = leb-true 64 (r.clock.phase + 1) e in (lit< tt, omega arith)
      slot_kept true false e = let s = g.start in (leb-false 64 (r.clock.phase + 1) e, omega arith)
      slot_kept false last e = let s = g.start in (g.phase, omega arith)

  -- ---- a frame
  pub updated_ranged : (t : ℕ) (us : List L.Update) (r : State L) → All F.Shaped us → R r → R (updated L t us r)
  updated_ranged t [] r c g = g
  updated_ranged t (u ∷ us) r c g =
      updated_ranged t us (cond (eqb (L.offset u) t) (applied_at L t u r) r) c.1 (either R (eqb (L.offset u) t) (applied_ranged t u r c.0 g) g)

  pub framed_ranged : (f : Frame L.Update) → All F.Shaped f.updates → (n t : ℕ) (r : State L) → listed r.rate ≡ true → r.clock.position + n ≤ 1099511627776 → R r →
      R (framed L f n t r).next
  framed_ranged f k zero t r l h g = g
  framed_ranged f k (suc n) t r l h g =
      let s = slotted L (updated L t f.updates r) in
      let i = slotted_ranged (updated L t f.updates r) (updated_ranged t f.updates r k g) in
      let u = untouched L t f.updates r in
      let w : listed s.rate ≡ true = ap listed u.rate ∙ l in
      let v = u.position in
      framed_ranged f k n (suc t) (sampled L f t r).next w (omega arith) (passed_ranged (moment L f t s.setup s.meta) s w (omega arith) i)

  pub opened_ranged : (rate : ℕ) (r : State L) → listed rate ≡ true → R r → R (opened L rate r) × (listed (opened L rate r).rate ≡ true)
  opened_ranged rate r l g = (
    record {
      setup = g.setup;
      rate = inr now;
      position = g.position;
      phase = g.phase;
      start = g.start;
      gain = g.gain;
      filter = either FilterFits (eqb r.rate 0) (new_fits rate) g.filter;
      meta = g.meta;
      pending = g.pending;
      idle = λ e. absurd (subst T (sym now ∙ ap listed e) tt);
      long = g.long;
      words = g.words;
      none = g.none;
    },
    now,
  )
    where
      at : (b : Bool) → eqb r.rate 0 ≡ b → (r.rate ≡ 0) ⊎ (listed r.rate ≡ true) → listed (cond b rate r.rate) ≡ true
      at true e w = l
      at false e (inl z) = absurd (eqb-false r.rate 0 e z)
      at false e (inr w) = w

      now : listed (cond (eqb r.rate 0) rate r.rate) ≡ true
      now = at (eqb r.rate 0) refl g.rate

  pub pushed_ranged : (r : State L) (a : Args) → Bytes a.meta → Passed L r a → R r → F.Ahead r.clock.position r.waits → R (pushed L (frame_of L r a) r).next
  unfolding pushed
  pushed_ranged r a b p g w =
      let e = p.early in
      let o = opened_ranged a.rate r e.listed g in
      framed_ranged (frame_of L r a) (F.shaped r.clock.position a.samples r.waits a.meta w b e.laid_out e.in_range) a.samples 0 (opened L a.rate r) o.1 e.position o.0

  pub flushed_ranged : (r : State L) → R r → R (flushed L r).next
  unfolding flushed
  flushed_ranged r g = record {
    setup = g.setup;
    rate = g.rate;
    position = g.position;
    phase = g.phase;
    start = g.start;
    gain = grown_fits r.pending.count r.rate _;
    filter = g.filter;
    meta = g.meta;
    pending = lit< tt;
    idle = λ e. refl;
    long = g.long;
    words = g.words;
    none = g.none;
  }

  pub marked_ranged : (w : Bool) (d : ℕ) (r : State L) → R r → R (with_meta L (L.want w d r.meta) r)
  marked_ranged w d r g = record {
    setup = g.setup;
    rate = g.rate;
    position = g.position;
    phase = g.phase;
    start = g.start;
    gain = g.gain;
    filter = g.filter;
    meta = F.within_want r.clock.position w d r.meta g.meta;
    pending = g.pending;
    idle = g.idle;
    long = g.long;
    words = g.words;
    none = g.none;
  }

  pub settled_ranged : (ws : L.Waits) (r : State L) → R r → R (with_waits L ws r)
  settled_ranged ws r g = record {
    setup = g.setup;
    rate = g.rate;
    position = g.position;
    phase = g.phase;
    start = g.start;
    gain = g.gain;
    filter = g.filter;
    meta = g.meta;
    pending = g.pending;
    idle = g.idle;
    long = g.long;
    words = g.words;
    none = g.none;
  }
