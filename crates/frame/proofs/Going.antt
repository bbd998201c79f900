-- The frame's loop over the rules: what holds before each turn, and that a turn keeps it. Assumes nothing beyond `Facts` and `Shaped`.
use Prim.Native.Nat.{ℕ, suc, ◌+◌, ◌-◌, ◌*◌, ◌%◌, ◌≤◌, ◌<◌, zero-le}
use native.Mathlib.Nat.{zero-add, suc-ne-zero}
use native.Mathlib.Omega.{arith}
use mathlib.Core.Path.{◌≡◌, refl, sym, ap, ◌∙◌, subst}
use mathlib.Core.Logic.{◌⊎◌, inl, inr}
use mathlib.Core.Bool.{Bool, true, false, cond}
use mathlib.Core.List.{List, [], ◌∷◌}
use lib.Dec.{eqb, ltb, lit<}
use lib.ListN.{length, length-append}
use lib.Ieee.{Float}
use borrow.Author.Tests.{eqb-true, eqb-false, ltb-true, ltb-false}
use Rattle.ieee.specs.Bounds.{All}
use Rattle.limiter.specs.Meters.{unmet, meets_all}
use Rattle.limiter.specs.declared.meters.Meters.{Meters}
use Rattle.limiter.proofs.Theorems.{meets_append}
use Rattle.panning.specs.Setup.{Setup, present}
use Rattle.panning.proofs.Theorems.{front_present}
use Rattle.rules.specs.Parts.{Places}
use Rattle.rules.specs.Leaves.{Leaves, Shape}
use Rattle.rules.specs.Samples.{Frame, Pending, State, After, updated, slotted, framed, opened, pushed}
use Rattle.rules.specs.Refusals.{Args, listed, shape_at}
use Rattle.rules.specs.Calls.{announced, frame_with}
use Rattle.rules.specs.BlockCalls.{Layout, written}
use Rattle.rules.specs.Promises.{count_on}
use Rattle.rules.proofs.Theorems.{Facts, PassedWith, is_roomy, samples_fit, untouched, R, updated_ranged, slotted_ranged, framed_ranged, opened_ranged, Matches, matches_on, judged}
use Rattle.rules.proofs.Theorems.{updated_shape, slotted_shape, count_most, here_count, all_or_none}
use Rattle.frame.specs.Chunk.{chunk}
use Rattle.rendering.specs.Out.{behind}
use Rattle.frame.proofs.Chunks.{both, Turn, chunk_passes, chunk_whole, turn}
use Rattle.frame.proofs.Outs.{behind_joined, behind_nothing, behind_none, length_behind}
use Rattle.frame.proofs.Replaced.{Agree, replaced, framed_replaced}
use Rattle.frame.proofs.Counted.{Counted, framed_counted}

-- ---- numbers

-- of p pending samples and n more, at most 64 in all, a block is given out, or none
ready_is : (b : Bool) (ready p n blocks pending : ℕ) → eqb pending 0 ≡ b → 64 * blocks + pending ≡ p + suc n → p + suc n ≤ 64 → cond b (ready + 64) ready ≡ ready + 64 * blocks
ready_is true ready p n blocks pending e h l = let z = eqb-true pending 0 e in omega arith
ready_is false ready p n blocks pending e h l = let z = eqb-false pending 0 e in omega arith

-- p₀ samples were pending before the frame: the blocks b of this turn and d of the rest find room behind those that are ready
space : (ready p₀ p t n m samples stride b d pending end : ℕ) → ready % 64 ≡ 0 → stride % 64 ≡ 0 → p₀ < 64 → samples ≤ stride → t + suc n + m ≡ samples → ready + p ≡ p₀ + t
    → 64 * b + pending ≡ p + suc n → 64 * d + end ≡ pending + m → ready + 64 * b + 64 * d ≤ stride
space ready p₀ p t n m samples stride b d pending end x y few fit all at c e = omega arith

empty : (xs : List Float) → length xs ≡ 0 → xs ≡ []
empty [] e = refl
empty (x ∷ xs) e = absurd (suc-ne-zero (length xs) e)

module _ (L : Leaves) (B : Layout L) (F : Facts L B) where
  -- what timed states within their ranges have for updates and slots to give them their shapes, gains of any bits
  pub record Shaped : Type 1 where
    pub Coded : L.Meta → Type 0
    pub within : (n : ℕ) (m : L.Meta) → F.Within n m → Coded m
    pub keeps : (n : ℕ) (u : L.Update) (m : L.Meta) → F.Shaped u → Coded m → Coded (L.apply n u m)
    pub gives : (n : ℕ) (u : L.Update) (m : L.Meta) → F.Shaped u → Coded m → L.shape (L.apply n u m) ≡ L.sent u
    pub rests : (n : ℕ) (m : L.Meta) → L.shape (L.slot n m) ≡ L.shape m

  -- ---- a push on the renderer r₀
  module _ (r₀ : State L) (us : List L.Update) (a : Args) where
    abbrev frame : Frame L.Update
    frame = frame_with L us a

    abbrev Fit : Shape → Type 0
    Fit = Matches (announced L us) a.objects a.codes

    abbrev shaped : ℕ → Shape → Shape
    shaped t s = shape_at (announced L us) a.objects a.codes t (announced L us) s

    -- the samples from t on, from r
    abbrev rest : ℕ → State L → After L
    rest t r = framed L frame (a.samples - t) t r

    -- before sample t: with the renderer r, `ready` samples of each channel in the output and the meters `level` of their blocks, the rest of the frame is the rest of the push
    pub record Going (t : ℕ) (r : State L) (ready : ℕ) (level : Meters) (out : List ℕ) : Type 0 where
      pub here : t ≤ a.samples
      pub next : (rest t r).next ≡ (pushed L frame r₀).next
      pub given : behind ready (rest t r).given a.stride out ≡ written (pushed L frame r₀).given a.stride a.out
      pub count : ready + length ((rest t r).given 0) ≡ length ((pushed L frame r₀).given 0)
      pub meters : meets_all level (rest t r).meters ≡ meets_all unmet (pushed L frame r₀).meters
      pub long : length out ≡ length a.out
      pub ranged : R L B F r
      pub listed : listed r.rate ≡ true
      pub position : r.clock.position ≡ r₀.clock.position + t
      pub pending : ready + r.pending.count ≡ r₀.pending.count + t
      pub whole : ready % 64 ≡ 0
      pub fits : t < a.samples → Fit (shaped t (L.shape r.meta))

    abbrev met : ℕ → State L → State L
    met t r = slotted L (updated L t us r)

    -- what the updates and the slot at t leave
    pub record Begun (t : ℕ) (r : State L) : Type 0 where
      pub setup : (met t r).setup ≡ r.setup
      pub updates : R L B F (updated L t us r)
      pub ranged : R L B F (met t r)
      pub listed : listed (met t r).rate ≡ true
      pub position : (met t r).clock.position ≡ r.clock.position
      pub pending : (met t r).pending.count ≡ r.pending.count
      pub fits : Fit (L.shape (met t r).meta)

    module _ (S : Shaped) (p : PassedWith L us r₀ a) (k : All F.Shaped us) (t : ℕ) (r : State L) (ready : ℕ) (level : Meters) (out : List ℕ) (g : Going t r ready level out)
        (more : t < a.samples) where
      pub begun : Begun t r
      begun =
          let u = updated_ranged L B F t us r k g.ranged in
          let w = untouched L t us r in
          let e = slotted_shape L B F (updated L t us r) (λ n. S.rests n (updated L t us r).meta)
          ∙ updated_shape L B F F.Shaped S.Coded S.keeps S.gives (announced L us) a.objects a.codes t us r k (S.within r.clock.position r.meta g.ranged.meta) in
          record {
            setup = w.setup;
            updates = u;
            ranged = slotted_ranged L B F (updated L t us r) u;
            listed = ap listed w.rate ∙ g.listed;
            position = w.position;
            pending = ap (λ (p : Pending). p.count) w.pending;
            fits = subst Fit (sym e) (g.fits more);
          }

      -- ---- a turn of n + 1 samples
      module _ (few : r₀.pending.count < 64) (n : ℕ) (fit : t + suc n ≤ a.samples) (q : Turn L frame n t (met t r)) where
        abbrev C : After L
        C = chunk L frame (suc n) t (met t r)

        abbrev D : After L
        D = rest (t + suc n) C.next

        parts : rest t r ≡ both L C D
        parts =
            ap (λ (i : ℕ). framed L frame i t r) (let e : a.samples - t ≡ suc n + (a.samples - (t + suc n)) = omega arith in e)
            ∙ turn L frame n (a.samples - (t + suc n)) t r q

        at_once : framed L frame (suc n) t r ≡ C
        at_once = chunk_whole L frame n t r q

        counted : Counted L r.setup r.pending.count (suc n) C
        counted = subst (Counted L r.setup r.pending.count (suc n)) at_once (framed_counted L frame (suc n) t r g.ranged.long g.ranged.pending)

        chunk_ranged : R L B F C.next
        chunk_ranged =
            let at = g.position in
            let last = p.early.position in
            subst (λ (x : After L). R L B F x.next) at_once (framed_ranged L B F frame k (suc n) t r g.listed (omega arith) g.ranged)

        rest_counted : Counted L r.setup C.next.pending.count (a.samples - (t + suc n)) D
        rest_counted =
            subst (λ (h : Setup). Counted L h C.next.pending.count (a.samples - (t + suc n)) D)
            ((chunk_passes L frame (suc n) t (met t r)).setup ∙ begun.setup)
            (framed_counted L frame (a.samples - (t + suc n)) (t + suc n) C.next chunk_ranged.long chunk_ranged.pending)

        room : (c : ℕ) → c < 12 → ready + 64 * counted.blocks + length (D.given c) ≤ a.stride
        room c l =
            let e = rest_counted.length c l in
            let w = is_roomy a.stride (length a.out) p.early.room in
            subst (λ (i : ℕ). ready + 64 * counted.blocks + i ≤ a.stride) (sym e)
            (below (count_on r.setup (64 * rest_counted.blocks) c) (count_most r.setup (64 * rest_counted.blocks) c)
            (space ready r₀.pending.count r.pending.count t n (a.samples - (t + suc n)) a.samples a.stride counted.blocks rest_counted.blocks
            C.next.pending.count D.next.pending.count g.whole w.whole
            few (samples_fit a p.early.sized) (omega arith) g.pending counted.all rest_counted.all))
          where
            below : (i : ℕ) → i ≤ 64 * rest_counted.blocks → ready + 64 * counted.blocks + 64 * rest_counted.blocks ≤ a.stride → ready + 64 * counted.blocks + i ≤ a.stride
            below i x y = omega arith

        -- a channel that is there has all of this turn's blocks, and one that is absent has nothing after them
        follows : (c : ℕ) → c < 12 → (length (C.given c) ≡ 64 * counted.blocks) ⊎ (D.given c ≡ [])
        follows c l = elim (all_or_none r.setup (64 * counted.blocks) c (counted.length c l)) [
          | inl e ↦ inl e
          | inr e ↦ inr (empty (D.given c) (rest_counted.length c l ∙ ap (λ (b : Bool). cond b (64 * rest_counted.blocks) 0) e.0))
        ]

        count_more : length ((rest t r).given 0) ≡ 64 * counted.blocks + length (D.given 0)
        count_more =
            ap (λ (x : After L). length (x.given 0)) parts ∙ length-append (C.given 0) (D.given 0) ∙ ap (λ (i : ℕ). i + length (D.given 0))
            (counted.length 0 (lit< tt) ∙ here_count r.setup (64 * counted.blocks) 0 (front_present r.setup.layout g.ranged.setup.layout))

        fits_more : t + suc n < a.samples → Fit (shaped (t + suc n) (L.shape C.next.meta))
        fits_more l =
            let j = judged (announced L us) a.objects a.codes a.samples a.rate r₀.rate (L.shape r₀.meta) p.later in
            matches_on (announced L us) a.objects a.codes (t + suc n) (announced L us) (L.shape C.next.meta) (j.then_all (t + suc n) l)
            (subst (λ (x : L.Meta). Fit (L.shape x)) (sym (chunk_passes L frame (suc n) t (met t r)).meta) begun.fits)

        gone : Going (t + suc n) C.next (ready + 64 * counted.blocks) (meets_all level C.meters) (behind ready C.given a.stride out)
        gone =
            let c = chunk_passes L frame (suc n) t (met t r) in
            let b = begun in
            record {
              here = fit;
              next = sym (ap (λ (x : After L). x.next) parts) ∙ g.next;
              given = behind_joined C.given D.given ready (64 * counted.blocks) a.stride follows room out
                  ∙ ap (λ (x : After L). behind ready x.given a.stride out) (sym parts) ∙ g.given;
              count = numbers_count (64 * counted.blocks) (length (D.given 0)) (length ((rest t r).given 0)) g.count count_more;
              meters = sym (meets_append level C.meters D.meters) ∙ ap (λ (x : After L). meets_all level x.meters) (sym parts) ∙ g.meters;
              long = length_behind ready C.given a.stride out ∙ g.long;
              ranged = chunk_ranged;
              listed = ap listed c.rate ∙ b.listed;
              position = numbers_position r₀.clock.position C.next.clock.position (met t r).clock.position r.clock.position c.position b.position
                  g.position;
              pending = numbers_pending r₀.pending.count counted.blocks C.next.pending.count r.pending.count counted.all g.pending;
              whole = numbers_whole counted.blocks g.whole;
              fits = fits_more;
            }
          where
            numbers_count : (x y i : ℕ) {z : ℕ} → ready + i ≡ z → i ≡ x + y → ready + x + y ≡ z
            numbers_count x y i e f = omega arith

            numbers_position : (z x y w : ℕ) → x ≡ y + suc n → y ≡ w → w ≡ z + t → x ≡ z + (t + suc n)
            numbers_position z x y w e f h = omega arith

            numbers_pending : (z b x y : ℕ) → 64 * b + x ≡ y + suc n → ready + y ≡ z + t → ready + 64 * b + x ≡ z + (t + suc n)
            numbers_pending z b x y e f = omega arith

            numbers_whole : (b : ℕ) → ready % 64 ≡ 0 → (ready + 64 * b) % 64 ≡ 0
            numbers_whole b e = omega arith

        pub step : Going (t + suc n) C.next (cond (eqb C.next.pending.count 0) (ready + 64) ready) (meets_all level C.meters) (behind ready C.given a.stride out)
        step =
            let h = q.room in
            let e = begun.pending in
            subst (λ (i : ℕ). Going (t + suc n) C.next i (meets_all level C.meters) (behind ready C.given a.stride out))
            (sym (ready_is (eqb C.next.pending.count 0) ready r.pending.count n counted.blocks C.next.pending.count refl counted.all (omega arith))) gone

    -- where nothing is pending and a block's samples are left, places may be others, but for those of a channel that is absent
    pub swapped : (q : Places) (t : ℕ) (r : State L) (ready : ℕ) (level : Meters) (out : List ℕ) → Going t r ready level out → r.pending.count ≡ 0 → 64 ≤ a.samples - t
        → ((c : ℕ) → present r.setup.layout c ≡ false → q c ≡ r.pending.places c) → R L B F (replaced L q r) → Going t (replaced L q r) ready level out
    swapped q t r ready level out g z m away h =
        record {
          here = g.here;
          next = ap (λ (x : After L). x.next) same ∙ g.next;
          given = ap (λ (x : After L). behind ready x.given a.stride out) same ∙ g.given;
          count = ap (λ (x : After L). ready + length (x.given 0)) same ∙ g.count;
          meters = ap (λ (x : After L). meets_all level x.meters) same ∙ g.meters;
          long = g.long;
          ranged = h;
          listed = g.listed;
          position = g.position;
          pending = g.pending;
          whole = g.whole;
          fits = g.fits;
        }
      where
        agree : Agree r.setup r.pending.count r.pending.places q
        agree = rw z (record { same = λ c. refl; absent = away; long = λ c. level_of c (ltb c 12) refl; short = λ c. short_of c (ltb c 12) refl })
          where
            level_of : (c : ℕ) (b : Bool) → ltb c 12 ≡ b → length (r.pending.places c) ≡ length (q c)
            level_of c true e = g.ranged.long c (ltb-true c 12 e) ∙ sym (h.long c (ltb-true c 12 e))
            level_of c false e = ap length (g.ranged.none c (ltb-false c 12 e)) ∙ sym (ap length (h.none c (ltb-false c 12 e)))

            short_of : (c : ℕ) (b : Bool) → ltb c 12 ≡ b → length (r.pending.places c) ≤ 64
            short_of c true e = rw (g.ranged.long c (ltb-true c 12 e)) (omega arith)
            short_of c false e = rw (g.ranged.none c (ltb-false c 12 e)) (omega arith)

        same : rest t (replaced L q r) ≡ rest t r
        same = framed_replaced L frame (a.samples - t) t r q agree (omega arith) (omega arith)

    -- ---- before the first sample, and after the last
    pub starts : R L B F r₀ → PassedWith L us r₀ a → Going 0 (opened L a.rate r₀) 0 unmet a.out
    unfolding pushed
    starts g p =
        let o = opened_ranged L B F a.rate r₀ p.early.listed g in
        let j = judged (announced L us) a.objects a.codes a.samples a.rate r₀.rate (L.shape r₀.meta) p.later in
        record {
          here = zero-le;
          next = ap (λ (x : After L). x.next) all;
          given = behind_nothing (rest 0 (opened L a.rate r₀)).given a.stride a.out ∙ ap (λ (x : After L). written x.given a.stride a.out) all;
          count = zero-add (length ((rest 0 (opened L a.rate r₀)).given 0)) ∙ ap (λ (x : After L). length (x.given 0)) all;
          meters = ap (λ (x : After L). meets_all unmet x.meters) all;
          long = refl;
          ranged = o.0;
          listed = o.1;
          position = omega arith;
          pending = omega arith;
          whole = refl;
          fits = λ l. j.first;
        }
      where
        all : rest 0 (opened L a.rate r₀) ≡ framed L frame a.samples 0 (opened L a.rate r₀)
        all = ap (λ (i : ℕ). framed L frame i 0 (opened L a.rate r₀)) (let e : a.samples - 0 ≡ a.samples = omega arith in e)

    pub ends : (t : ℕ) (r : State L) (ready : ℕ) (level : Meters) (out : List ℕ) → Going t r ready level out → a.samples ≤ t
        → (r ≡ (pushed L frame r₀).next) × (out ≡ written (pushed L frame r₀).given a.stride a.out) × (ready ≡ length ((pushed L frame r₀).given 0))
        × (level ≡ meets_all unmet (pushed L frame r₀).meters)
    ends t r ready level out g h = (
      sym (ap (λ (x : After L). x.next) none_left) ∙ g.next,
      sym (behind_none ready a.stride out) ∙ ap (λ (x : After L). behind ready x.given a.stride out) (sym none_left) ∙ g.given,
      let c = ap (λ (x : After L). length (x.given 0)) none_left in (let e : ready ≡ ready + length ((rest t r).given 0) = omega arith in e) ∙ g.count,
      sym (ap (λ (x : After L). meets_all level x.meters) none_left) ∙ g.meters,
    )
      where
        none_left : rest t r ≡ framed L frame 0 t r
        none_left = ap (λ (i : ℕ). framed L frame i t r) (let e : a.samples - t ≡ 0 = omega arith in e)
