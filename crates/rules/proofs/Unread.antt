-- The places of a channel that the hall lacks: no rule reads them, and no call but one that starts anew writes them. Of any renderer, of any bits. Assumes nothing.
use mathlib.Core.Path.{◌≡◌, refl, sym, ap, fun_ext, ◌∙◌, subst}
use mathlib.Core.Bool.{Bool, true, false, cond}
use mathlib.Core.List.{List, [], ◌∷◌, ◌++◌, map}
use Prim.Native.Nat.{ℕ, zero, suc, ◌+◌}
use lib.Dec.{T, eqb, leb, ltb}
use lib.ListN.{length, take}
use lib.Ieee.{binary32, of_bits}
use Rattle.limiter.specs.Meters.{call_meters}
use Rattle.lowpass.specs.Lowpass.{next, new}
use Rattle.panning.specs.Setup.{Setup, present, hall_with}
use Rattle.rules.specs.Parts.{Places, none, joined, floats, laid}
use Rattle.rules.specs.Leaves.{Leaves, started}
use Rattle.rules.specs.Mix.{Moment, fed}
use Rattle.rules.specs.Samples.{Frame, State, After, sounding, limited, metered, gain_after, row, ticked, updated, slotted}
use Rattle.rules.specs.Samples.{moment, passed, sampled, framed, opened, fresh, pushed, waiting, flushed}
use Rattle.rules.specs.Refusals.{Args, Found, clear, stop, is_clear, room}
use Rattle.rules.specs.Making.{hall_of, layout_found, table_found}
use Rattle.rules.specs.Calls.{Call, push, flush, reset, make, make_with, mark, find, rendered, place, Result, updates_in, frame_with, frame_of, ahead_after, with_waits, answered, found, numbered, alike_marks, asked, drained, making, marking, step}
use Rattle.rules.specs.Absent.{starts_anew, AlikeButAbsent, SameButAbsent, SameAlong}
use Rattle.finding.specs.Search.{search}
use Rattle.rules.proofs.Clock.{untouched, met_alike}

-- ---- what the channels of a hall hold

-- places that are alike on the channels that the hall h has
abbrev AlikeIn : Setup → Places → Places → Type 0
AlikeIn h p q = (c : ℕ) → T (present h.layout c) → p c ≡ q c

-- sound alike
sounding_alike : {h g : Setup} → h ≡ g → (p q : Places) → AlikeIn h p q → sounding h (floats p) ≡ sounding g (floats q)
sounding_alike {h} e p q a = fun_ext (λ c. go c (present h.layout c) (a c)) ∙ (λ i. sounding (e i) (floats q))
  where
    go : (c : ℕ) (b : Bool) → (T b → p c ≡ q c) → cond b (floats p c) [] ≡ cond b (floats q c) []
    go c true a = ap (map (of_bits binary32)) (a tt)
    go c false a = refl

module _ (L : Leaves) where
  -- a frame's or a flush's
  record Both (x y : After L) : Type 0 where
    pub next : AlikeButAbsent L x.next y.next
    pub given : x.given ≡ y.given
    pub meters : x.meters ≡ y.meters
    pub moments : x.moments ≡ y.moments

  pub alike_to_itself : (r : State L) → AlikeButAbsent L r r
  alike_to_itself r = record { setup = refl; rate = refl; clock = refl; limiter = refl; filter = refl; meta = refl; count = refl; waits = refl; places = λ c h. refl }

  -- ---- a sample
  met_unread : (t : ℕ) (us : List L.Update) (r s : State L) → AlikeButAbsent L r s → AlikeButAbsent L (slotted L (updated L t us r)) (slotted L (updated L t us s))
  met_unread t us r s a =
      let m = met_alike L t us r s (record { setup = a.setup; clock = a.clock; meta = a.meta }) in
      let u = untouched L t us r in
      let v = untouched L t us s in
      record {
        setup = m.setup;
        rate = u.rate ∙ a.rate ∙ sym v.rate;
        clock = m.clock;
        limiter = u.limiter ∙ a.limiter ∙ sym v.limiter;
        filter = u.filter ∙ a.filter ∙ sym v.filter;
        meta = m.meta;
        count = (λ i. (u.pending i).count) ∙ a.count ∙ (λ i. (sym v.pending i).count);
        waits = u.waits ∙ a.waits ∙ sym v.waits;
        places = λ c h. (λ i. (u.pending i).places c) ∙ a.places c (subst (λ (e : Setup). T (present e.layout c)) u.setup h) ∙ (λ i. (sym v.pending i).places c);
      }

  module _ (m n : Moment) (e : m ≡ n) (r s : State L) (a : AlikeButAbsent L r s) where
    abbrev laid_on : Moment → State L → Places
    laid_on m r c = laid r.pending.count (sounding r.setup (row m r.filter) c) (r.pending.places c)

    laid_alike : AlikeIn r.setup (laid_on m r) (laid_on n s)
    laid_alike c h i = laid (a.count i) (sounding (a.setup i) (row (e i) (a.filter i)) c) (a.places c h i)

    block : sounding r.setup (floats (laid_on m r)) ≡ sounding s.setup (floats (laid_on n s))
    block = sounding_alike a.setup (laid_on m r) (laid_on n s) laid_alike

    passed_unread : Both (passed L m r) (passed L n s)
    passed_unread =
        record {
          next = record {
            setup = a.setup;
            rate = a.rate;
            clock = λ i. ticked (started L (a.meta i)) 1 (a.clock i);
            limiter = λ i. record { gain = cond (leb 64 (a.count i + 1)) (gain_after 64 (a.rate i) (a.limiter i).gain (block i)) (a.limiter i).gain };
            filter = λ i. next (a.filter i) (fed (e i));
            meta = a.meta;
            count = λ i. cond (leb 64 (a.count i + 1)) 0 (a.count i + 1);
            waits = a.waits;
            places = laid_alike;
          };
          given = λ i. cond (leb 64 (a.count i + 1)) (limited (a.limiter i).gain (block i)) none;
          meters = λ i. cond (leb 64 (a.count i + 1)) (metered (a.limiter i).gain (block i)) [];
          moments = λ i. e i ∷ [];
        }

  -- ---- a frame
  module _ (f : Frame L.Update) where
    sampled_unread : (t : ℕ) (r s : State L) → AlikeButAbsent L r s → Both (sampled L f t r) (sampled L f t s)
    sampled_unread t r s a =
        let x = slotted L (updated L t f.updates r) in
        let y = slotted L (updated L t f.updates s) in
        let m = met_unread t f.updates r s a in
        passed_unread (moment L f t x.setup x.meta) (moment L f t y.setup y.meta) (λ i. moment L f t (m.setup i) (m.meta i)) x y m

    framed_unread : (n t : ℕ) (r s : State L) → AlikeButAbsent L r s → Both (framed L f n t r) (framed L f n t s)
    framed_unread zero t r s a = record { next = a; given = refl; meters = refl; moments = refl }
    framed_unread (suc n) t r s a =
        let x = sampled_unread t r s a in
        let y = framed_unread n (suc t) (sampled L f t r).next (sampled L f t s).next x.next in
        record {
          next = y.next;
          given = λ i. joined (x.given i) (y.given i);
          meters = λ i. x.meters i ++ y.meters i;
          moments = λ i. x.moments i ++ y.moments i;
        }

    -- the places stay
    pub framed_kept : (n t : ℕ) (r : State L) (c : ℕ) → present r.setup.layout c ≡ false → (framed L f n t r).next.pending.places c ≡ r.pending.places c
    framed_kept zero t r c e = refl
    framed_kept (suc n) t r c e =
        let u = untouched L t f.updates r in
        let x = slotted L (updated L t f.updates r) in
        let away : present x.setup.layout c ≡ false = (λ i. present (u.setup i).layout c) ∙ e in
        framed_kept n (suc t) (sampled L f t r).next c away
        ∙ ap (λ (b : Bool). laid x.pending.count (cond b (row (moment L f t x.setup x.meta) x.filter c) []) (x.pending.places c)) away
        ∙ (λ i. (u.pending i).places c)

  opened_unread : (rate : ℕ) (r s : State L) → AlikeButAbsent L r s → AlikeButAbsent L (opened L rate r) (opened L rate s)
  opened_unread rate r s a =
      record {
        setup = a.setup;
        rate = λ i. cond (eqb (a.rate i) 0) rate (a.rate i);
        clock = a.clock;
        limiter = a.limiter;
        filter = λ i. cond (eqb (a.rate i) 0) (new rate) (a.filter i);
        meta = a.meta;
        count = a.count;
        waits = a.waits;
        places = a.places;
      }

  -- ---- calls
  module _ (r s : State L) (a : AlikeButAbsent L r s) where
    abbrev block_of : sounding r.setup (floats r.pending.places) ≡ sounding s.setup (floats s.pending.places)
    block_of = sounding_alike a.setup r.pending.places s.pending.places a.places

    waits : waiting L r ≡ waiting L s
    waits i c = take (a.count i) (block_of i c)

    -- the refusals do not look at pending samples
    found_unread : (p : Args) → found L r p ≡ found L s p
    found_unread p i = found L (record {
      setup = a.setup i;
      rate = a.rate i;
      clock = a.clock i;
      limiter = a.limiter i;
      filter = a.filter i;
      meta = a.meta i;
      pending = r.pending;
      waits = a.waits i;
    }) p

    asked_unread : (p : Args) (v : Found) → SameButAbsent L (asked L v p r) (asked L v p s)
    unfolding pushed
    asked_unread p (stop n x y) = record { answer = refl; moments = refl; next = a }
    asked_unread p clear =
        let d = framed_unread (frame_of L r p) p.samples 0 (opened L p.rate r) (opened L p.rate s) (opened_unread p.rate r s a) in
        subst (λ (us : List L.Update). SameButAbsent L (asked L clear p r) (pushed_with us)) updates_unread
        (record { answer = λ i. rendered (d.given i) (call_meters (d.meters i)); moments = d.moments; next = settled_unread d.next })
      where
        updates_unread : updates_in L r p ≡ updates_in L s p
        updates_unread i = L.updates (a.clock i).position p.samples (a.waits i) p.meta

        -- the push on s, with these updates
        pushed_with : List L.Update → Result L
        pushed_with us =
            let d = pushed L (frame_with L us p) s in
            record { answer = answered L d; next = with_waits L (ahead_after L s p) d.next; moments = d.moments }

        settled_unread : {x y : State L} → AlikeButAbsent L x y → AlikeButAbsent L (with_waits L (ahead_after L r p) x) (with_waits L (ahead_after L s p) y)
        settled_unread d =
            record {
              setup = d.setup;
              rate = d.rate;
              clock = d.clock;
              limiter = d.limiter;
              filter = d.filter;
              meta = d.meta;
              count = d.count;
              waits = λ i. L.settle (a.clock i).position p.samples (a.waits i) p.meta;
              places = d.places;
            }

    drained_unread : (b e : Bool) → SameButAbsent L (drained L b e r) (drained L b e s)
    unfolding flushed
    drained_unread false e = record { answer = refl; moments = refl; next = a }
    drained_unread true true = record { answer = refl; moments = refl; next = a }
    drained_unread true false =
        record {
          answer = λ i. rendered (limited (a.limiter i).gain (waits i)) (call_meters (metered (a.limiter i).gain (waits i)));
          moments = refl;
          next = record {
            setup = a.setup;
            rate = a.rate;
            clock = a.clock;
            limiter = λ i. record { gain = gain_after (a.count i) (a.rate i) (a.limiter i).gain (waits i) };
            filter = a.filter;
            meta = a.meta;
            count = refl;
            waits = a.waits;
            places = a.places;
          };
        }

    made_unread : (v : Found) (h : Setup) → SameButAbsent L (making L v h r) (making L v h s)
    made_unread (stop n x y) h = record { answer = refl; moments = refl; next = a }
    made_unread clear h = record { answer = refl; moments = refl; next = alike_to_itself (fresh L h) }

    marking_unread : (v known w : Bool) (d : ℕ) → SameButAbsent L (marking L v known w d r) (marking L v known w d s)
    marking_unread false known w d = record { answer = refl; moments = refl; next = a }
    marking_unread true true w d = record { answer = refl; moments = refl; next = a }
    marking_unread true false w d =
        record {
          answer = refl;
          moments = refl;
          next = record {
            setup = a.setup;
            rate = a.rate;
            clock = a.clock;
            limiter = a.limiter;
            filter = a.filter;
            meta = λ i. L.want w d (a.meta i);
            count = a.count;
            waits = a.waits;
            places = a.places;
          };
        }

    reset_unread : AlikeButAbsent L (fresh L r.setup) (fresh L s.setup)
    reset_unread = record { setup = a.setup; rate = refl; clock = refl; limiter = refl; filter = refl; meta = refl; count = refl; waits = refl; places = λ c h. refl }

  -- bits in the places of a channel that the hall lacks turn nothing down: with any others there each call does the same
  pub absent_unread : (r s : State L) → AlikeButAbsent L r s → (c : Call) → SameButAbsent L (step L r c) (step L s c)
  absent_unread r s a (push p) =
      subst (λ (v : Found). SameButAbsent L (asked L (found L r p) p r) (asked L v p s)) (found_unread r s a p) (asked_unread r s a p (found L r p))
  absent_unread r s a (flush out stride) =
      let b = room stride (length out) in
      let e = eqb r.pending.count 0 in
      subst (λ (n : ℕ). SameButAbsent L (drained L b e r) (drained L b (eqb n 0) s)) a.count (drained_unread r s a b e)
  absent_unread r s a reset = record { answer = refl; moments = refl; next = reset_unread r s a }
  absent_unread r s a (make n) = made_unread r s a (layout_found n) (hall_with n)
  absent_unread r s a (make_with n t) = made_unread r s a (table_found n t) (hall_of n t)
  absent_unread r s a (mark w d) =
      let v : L.Meta → Bool = λ m. let x = L.shape m in ltb d (cond x.started x.objects 0) in
      subst (λ (m : L.Meta). SameButAbsent L (marking L (v r.meta) (alike_marks w (L.wants d r.meta)) w d r) (marking L (v m) (alike_marks w (L.wants d m)) w d s)) a.meta
      (marking_unread r s a (v r.meta) (alike_marks w (L.wants d r.meta)) w d)
  absent_unread r s a (find m) = record { answer = ap (λ (h : Setup). place (search h m)) a.setup; moments = refl; next = a }

  -- and so do all calls in a row
  pub absent_unread_along : (r s : State L) → AlikeButAbsent L r s → (cs : List Call) → SameAlong L r s cs
  absent_unread_along r s a [] = record { answers = refl; moments = refl; final = a }
  absent_unread_along r s a (c ∷ cs) =
      let x = absent_unread r s a c in
      let y = absent_unread_along (step L r c).next (step L s c).next x.next cs in
      record { answers = λ i. x.answer i ∷ y.answers i; moments = λ i. x.moments i ∷ y.moments i; final = y.final }

  -- ---- the places stay
  module _ (r : State L) (c : ℕ) (away : present r.setup.layout c ≡ false) where
    asked_kept : (p : Args) (v : Found) → (asked L v p r).next.pending.places c ≡ r.pending.places c
    unfolding pushed
    asked_kept p (stop n x y) = refl
    asked_kept p clear = framed_kept (frame_of L r p) p.samples 0 (opened L p.rate r) c away

    drained_kept : (b e : Bool) → (drained L b e r).next.pending.places c ≡ r.pending.places c
    unfolding flushed
    drained_kept false e = refl
    drained_kept true true = refl
    drained_kept true false = refl

    marking_kept : (v known w : Bool) (d : ℕ) → (marking L v known w d r).next.pending.places c ≡ r.pending.places c
    marking_kept false known w d = refl
    marking_kept true true w d = refl
    marking_kept true false w d = refl

    made_kept : (v : Found) (h : Setup) → is_clear v ≡ false → (making L v h r).next.pending.places c ≡ r.pending.places c
    made_kept (stop n x y) h e = refl
    made_kept clear h e = absurd (subst T e tt)

  pub absent_kept : (r : State L) (call : Call) → starts_anew call ≡ false → (c : ℕ) → present r.setup.layout c ≡ false → (step L r call).next.pending.places c ≡ r.pending.places c
  absent_kept r (push p) e c away = asked_kept r c away p (found L r p)
  absent_kept r (flush out stride) e c away = drained_kept r c away (room stride (length out)) (eqb r.pending.count 0)
  absent_kept r reset e c away = absurd (subst T e tt)
  absent_kept r (make n) e c away = made_kept r c away (layout_found n) (hall_with n) e
  absent_kept r (make_with n t) e c away = made_kept r c away (table_found n t) (hall_of n t) e
  absent_kept r (mark w d) e c away = marking_kept r c away (ltb d (numbered L r)) (alike_marks w (L.wants d r.meta)) w d
  absent_kept r (find m) e c away = refl
