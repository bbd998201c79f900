-- Places behind the pending samples are written before they are read: a renderer with others there goes on the same, and once a block is given out it is the same. The places of
-- a channel that is absent are not written, so there both have the same. Assumes nothing.
use Prim.Native.Nat.{ℕ, zero, suc, ◌+◌, ◌≤◌, ◌<◌}
use mathlib.Core.Path.{◌≡◌, refl, sym, ap, ap₂, fun_ext, ◌∙◌, subst}
use mathlib.Core.Bool.{Bool, true, false, cond}
use mathlib.Core.List.{List, [], ◌∷◌, ◌++◌}
use native.Mathlib.Nat.{suc-ne-zero, suc_inj}
use native.Mathlib.Numerals.{add-one}
use native.Mathlib.Omega.{arith}
use borrow.Author.Tests.{leb-true, leb-false}
use lib.Dec.{eqb, leb}
use lib.ListN.{length, get_or, set, take, drop}
use lib.Seq.{take_all}
use lib.Ieee.{Float, binary32, to_bits}
use Rattle.lowpass.specs.Lowpass.{output, next}
use Rattle.panning.specs.Setup.{Setup, present}
use Rattle.lowpass.specs.declared.BiquadLowpassState.{BiquadLowpassState}
use Rattle.rules.specs.Parts.{Places, joined, laid}
use Rattle.rules.specs.Leaves.{Leaves, started}
use Rattle.rules.specs.Mix.{Moment, heard, fed}
use Rattle.rules.specs.Samples.{Frame, Pending, State, After, sounding, row, ticked, applied_at, updated, slotted, moment, closing, passed, sampled, framed}
use Rattle.rules.proofs.Theorems.{untouched}
use Rattle.chunk.proofs.Theorems.{length_laid}

-- ---- places that agree on the first n of each channel, and on all of one that the hall lacks

pub record Agree (h : Setup) (n : ℕ) (p q : Places) : Type 0 where
  pub same : (c : ℕ) → take n (p c) ≡ take n (q c)
  pub absent : (c : ℕ) → present h.layout c ≡ false → q c ≡ p c
  pub long : (c : ℕ) → length (p c) ≡ length (q c)
  pub short : (c : ℕ) → length (p c) ≤ 64

set_agree : (n v : ℕ) (ws vs : List ℕ) → take n ws ≡ take n vs → length ws ≡ length vs → take (suc n) (set ws n v) ≡ take (suc n) (set vs n v)
set_agree n v [] [] e l = refl
set_agree n v [] (x ∷ vs) e l = absurd (suc-ne-zero (length vs) (sym l))
set_agree n v (w ∷ ws) [] e l = absurd (suc-ne-zero (length ws) l)
set_agree zero v (w ∷ ws) (x ∷ vs) e l = refl
set_agree (suc n) v (w ∷ ws) (x ∷ vs) e l =
    ap₂ (λ (y : ℕ) (ys : List ℕ). y ∷ ys) (ap (λ (ys : List ℕ). get_or ys 0 0) e) (set_agree n v ws vs (ap (drop 1) e) (suc_inj l))

one_laid : (n : ℕ) (b : Bool) (x y : Float) (ws : List ℕ) → laid n (cond b (x ∷ []) (y ∷ [])) ws ≡ set ws n (to_bits binary32 (cond b x y))
one_laid n true x y ws = refl
one_laid n false x y ws = refl

-- a sample more
agree_more : (h : Setup) (m : Moment) (low : BiquadLowpassState) (n : ℕ) (p q : Places) → Agree h n p q
    → Agree h (n + 1) (λ c. laid n (sounding h (row m low) c) (p c)) (λ c. laid n (sounding h (row m low) c) (q c))
agree_more h m low n p q a =
    record {
      same = λ c. rw (add-one n) (more c (present h.layout c) refl);
      absent = λ c e. ap (laid n (sounding h (row m low) c)) (a.absent c e);
      long = λ c. length_laid n (sounding h (row m low) c) (p c) ∙ a.long c ∙ sym (length_laid n (sounding h (row m low) c) (q c));
      short = λ c. subst (λ (k : ℕ). k ≤ 64) (sym (length_laid n (sounding h (row m low) c) (p c))) (a.short c);
    }
  where
    more : (c : ℕ) (b : Bool) → present h.layout c ≡ b → take (suc n) (laid n (cond b (row m low c) []) (p c)) ≡ take (suc n) (laid n (cond b (row m low c) []) (q c))
    more c true e =
        ap (take (suc n)) (one_laid n (eqb c 3) (output low (fed m)) (heard m c) (p c))
        ∙ set_agree n (to_bits binary32 (cond (eqb c 3) (output low (fed m)) (heard m c))) (p c) (q c) (a.same c) (a.long c)
        ∙ sym (ap (take (suc n)) (one_laid n (eqb c 3) (output low (fed m)) (heard m c) (q c)))
    more c false e = ap (take (suc n)) (sym (a.absent c e))

agree_all : (h : Setup) (p q : Places) → Agree h 64 p q → q ≡ p
agree_all h p q a = fun_ext (λ c.
    sym (take_all 64 (q c) (subst (λ (k : ℕ). k ≤ 64) (a.long c) (a.short c))) ∙ sym (a.same c) ∙ take_all 64 (p c) (a.short c))

module _ (L : Leaves) where
  -- with other places
  abbrev pub replaced : Places → State L → State L
  replaced q r =
      record {
        setup = r.setup;
        rate = r.rate;
        clock = r.clock;
        limiter = r.limiter;
        filter = r.filter;
        meta = r.meta;
        pending = record { count = r.pending.count; places = q };
        waits = r.waits;
      }

  one_replaced : (q : Places) (t : ℕ) (u : L.Update) (r : State L) (b : Bool)
      → cond b (applied_at L t u (replaced q r)) (replaced q r) ≡ replaced q (cond b (applied_at L t u r) r)
  one_replaced q t u r true = refl
  one_replaced q t u r false = refl

  updated_replaced : (q : Places) (t : ℕ) (us : List L.Update) (r : State L) → updated L t us (replaced q r) ≡ replaced q (updated L t us r)
  updated_replaced q t [] r = refl
  updated_replaced q t (u ∷ us) r =
      ap (updated L t us) (one_replaced q t u r (eqb (L.offset u) t)) ∙ updated_replaced q t us (cond (eqb (L.offset u) t) (applied_at L t u r) r)

  -- ---- a sample

  module _ (m : Moment) (s : State L) (q : Places) where
    abbrev laid_on : Places → Places
    laid_on p c = laid s.pending.count (sounding s.setup (row m s.filter) c) (p c)

    abbrev closes : Places → After L
    closes p =
        closing L
        (record {
          setup = s.setup;
          rate = s.rate;
          clock = ticked (started L s.meta) 1 s.clock;
          limiter = s.limiter;
          filter = next s.filter (fed m);
          meta = s.meta;
          pending = record { count = s.pending.count + 1; places = p };
          waits = s.waits;
        })
        (m ∷ [])

    -- the block is whole
    passed_whole : Agree s.setup s.pending.count s.pending.places q → s.pending.count + 1 ≡ 64 → passed L m (replaced q s) ≡ passed L m s
    passed_whole a e =
        ap closes
        (agree_all s.setup (laid_on s.pending.places) (laid_on q)
        (subst (λ (k : ℕ). Agree s.setup k (laid_on s.pending.places) (laid_on q)) e (agree_more s.setup m s.filter s.pending.count s.pending.places q a)))

    -- the sample waits
    passed_waits : leb 64 (s.pending.count + 1) ≡ false
        → passed L m (replaced q s)
        ≡ record { next = replaced (laid_on q) (passed L m s).next; given = (passed L m s).given; meters = (passed L m s).meters; moments = (passed L m s).moments }
    passed_waits e = rw e refl

    count_waits : leb 64 (s.pending.count + 1) ≡ false → (passed L m s).next.pending.count ≡ s.pending.count + 1
    count_waits e = rw e refl

  -- ---- a frame

  module _ (f : Frame L.Update) where
    abbrev followed : ℕ → ℕ → After L → After L
    followed m t a =
        let d = framed L f m (suc t) a.next in
        record { next = d.next; given = joined a.given d.given; meters = a.meters ++ d.meters; moments = a.moments ++ d.moments }

    abbrev behind_of : After L → After L → After L
    behind_of a d = record { next = d.next; given = joined a.given d.given; meters = a.meters ++ d.meters; moments = a.moments ++ d.moments }

    pub framed_replaced : (m t : ℕ) (r : State L) (q : Places) → Agree r.setup r.pending.count r.pending.places q → r.pending.count < 64 → 64 ≤ r.pending.count + m
        → framed L f m t (replaced q r) ≡ framed L f m t r
    framed_replaced zero t r q a l h = absurd (omega arith)
    framed_replaced (suc m) t r q a l h =
        let s = slotted L (updated L t f.updates r) in
        let u : s.pending ≡ r.pending = (untouched L t f.updates r).pending in
        let v : s.setup ≡ r.setup = (untouched L t f.updates r).setup in
        let n : s.pending.count ≡ r.pending.count = ap (λ (p : Pending). p.count) u in
        let k = moment L f t s.setup s.meta in
        let b : Agree s.setup s.pending.count s.pending.places q =
        subst (λ (h : Setup). Agree h s.pending.count s.pending.places q) (sym v) (subst (λ (p : Pending). Agree r.setup p.count p.places q) (sym u) a) in
        let e : sampled L f t (replaced q r) ≡ passed L k (replaced q s) =
        ap (λ (x : State L). passed L (moment L f t x.setup x.meta) x) (ap (slotted L) (updated_replaced q t f.updates r)) in
        go (framed_replaced m (suc t)) (leb 64 (s.pending.count + 1)) s refl k b e refl (omega arith) (omega arith)
      where
        go : ((x : State L) (p : Places) → Agree x.setup x.pending.count x.pending.places p → x.pending.count < 64 → 64 ≤ x.pending.count + m
            → framed L f m (suc t) (replaced p x) ≡ framed L f m (suc t) x)
            → (w : Bool) (s : State L) → leb 64 (s.pending.count + 1) ≡ w → (k : Moment) → Agree s.setup s.pending.count s.pending.places q
            → sampled L f t (replaced q r) ≡ passed L k (replaced q s) → sampled L f t r ≡ passed L k s → s.pending.count < 64 → 64 ≤ s.pending.count + suc m
            → framed L f (suc m) t (replaced q r) ≡ framed L f (suc m) t r
        go rest true s w k b e g i j =
            let x = leb-true 64 (s.pending.count + 1) w in
            ap (followed m t) (e ∙ passed_whole k s q b (omega arith) ∙ sym g)
        go rest false s w k b e g i j =
            let x = leb-false 64 (s.pending.count + 1) w in
            let c = count_waits k s q w in
            let y = passed L k s in
            ap (followed m t) (e ∙ passed_waits k s q w)
            ∙ ap (behind_of y)
            (rest y.next (laid_on k s q q)
            (subst (λ (i : ℕ). Agree s.setup i (laid_on k s q s.pending.places) (laid_on k s q q)) (sym c)
            (agree_more s.setup k s.filter s.pending.count s.pending.places q b))
            (omega arith) (omega arith))
            ∙ ap (followed m t) (sym g)
