-- Refusals 11, 13 and 14: at each sample of an accepted push the objects are as many as the push brings, and each bed has its input; before the first update there are none.
-- Assumes nothing beyond `Facts`.
use mathlib.Core.Path.{◌≡◌, refl, sym, ap, ◌∙◌, subst}
use mathlib.Core.Logic.{◌≢◌}
use mathlib.Core.Bool.{Bool, true, false, cond, not, ◌&&◌, ◌||◌}
use mathlib.Core.List.{List, [], ◌∷◌, map}
use Prim.Native.Nat.{ℕ, zero, suc, ◌+◌, ◌-◌, ◌≤◌, ◌<◌}
use native.Mathlib.Nat.{not-suc-le-zero, le_of_lt, sub-zero}
use native.Mathlib.Omega.{arith}
use borrow.Author.Tests.{eqb-true, eqb-false, not-true}
use lib.Dec.{T, eqb}
use lib.ListN.{length}
use lib.Ieee.{Float}
use Rattle.std.specs.Prelude.{Option, Some, None}
use Rattle.beds.specs.Matching.{matching, counted}
use Rattle.beds.proofs.Matches as match
use Rattle.ieee.specs.Bounds.{All}
use Rattle.rules.specs.Leaves.{Leaves, Shape, Bed, started}
use Rattle.rules.specs.Mix.{fed_by}
use Rattle.rules.specs.Samples.{Frame, State, applied_at, updated, slotted, sampled, opened}
use Rattle.rules.specs.Refusals.{Args, Found, clear, unless, bed_found, beds_found, Announced, objects_match, counts_at, shape_at, mixes, walk, later, none_sent}
use Rattle.rules.specs.Calls.{announced, frame_of}
use Rattle.rules.specs.Sounds as sounds
use Rattle.rules.specs.Promises.{Matched, begun}
use Rattle.rules.specs.BlockCalls.{Layout}
use Rattle.rules.proofs.EachOf.{either}
use Rattle.rules.proofs.Owed.{Facts}
use Rattle.rules.proofs.Judged.{then_clear, unless_clear, Passed}
use Rattle.rules.proofs.Invariant.{Good, Admitted, updated_good, before_good}
use Rattle.rules.proofs.Frames.{sampled_fine}
use Rattle.rules.proofs.Begun.{at, before, begins, updated_started}
use Rattle.rules.proofs.Moments.{along}

module _ (all : List Announced) (objects : ℕ) (codes : List ℕ) where
  -- as many objects as the push brings, once an update was applied
  abbrev pub Matches : Shape → Type 0
  Matches s = s.started ≡ true → s.objects ≡ objects

  pub match_clear : (s : Shape) → objects_match all objects codes s ≡ clear → s.objects ≡ objects
  match_clear s e = eqb-true s.objects objects (unless_clear (eqb s.objects objects) 11 s.objects objects e)

  -- updates that passed 11 leave a shape that matches
  pub matches_on : (t : ℕ) (vs : List Announced) (s : Shape) → counts_at all objects codes t vs ≡ clear → Matches s → Matches (shape_at all objects codes t vs s)
  matches_on t [] s e m = m
  matches_on t (u ∷ vs) s e m =
      let p = then_clear (cond (eqb u.offset t) (objects_match all objects codes u.shape) clear) (counts_at all objects codes t vs) e in
      matches_on t vs (cond (eqb u.offset t) u.shape s) p.1 (go (eqb u.offset t) p.0)
    where
      go : (b : Bool) → cond b (objects_match all objects codes u.shape) clear ≡ clear → Matches (cond b u.shape s)
      go true e st = match_clear u.shape e
      go false e st = m st

  abbrev pub counts : ℕ → Found
  counts t = counts_at all objects codes t all

  abbrev pub after : ℕ → Shape → Shape
  after t s = shape_at all objects codes t all s

  -- 11 for the updates of every sample
  walked : (n t k : ℕ) (s : Shape) → walk all objects codes n t s ≡ clear → k < n → counts (t + k) ≡ clear
  walked zero t k s e h = absurd (not-suc-le-zero h)
  walked (suc n) t zero s e h = ap counts (let q : t + 0 ≡ t = omega arith in q) ∙ (then_clear (counts t) _ e).0
  walked (suc n) t (suc k) s e h =
      let p = then_clear (mixes all objects codes (after t s)) (walk all objects codes n (suc t) (after t s)) (then_clear (counts t) _ e).1 in
      ap counts (let q : t + suc k ≡ suc t + k = omega arith in q) ∙ walked n (suc t) k (after t s) p.1 (omega arith)

  -- one sample of the walk
  pub walk_on : (n t : ℕ) (s : Shape) → t < n → walk all objects codes (n - t) t s ≡ clear
      → (counts t ≡ clear) × (mixes all objects codes (after t s) ≡ clear) × (walk all objects codes (n - suc t) (suc t) (after t s) ≡ clear)
  walk_on n t s h e =
      let q : n - t ≡ suc (n - suc t) = omega arith in
      let p = then_clear (counts t) _ (subst (λ (k : ℕ). walk all objects codes k t s ≡ clear) q e) in
      let m = then_clear (mixes all objects codes (after t s)) _ p.1 in
      (p.0, m.0, m.1)

  pub record Judged (n : ℕ) (s : Shape) : Type 0 where
    pub first : Matches (after 0 s)
    pub then_all : (k : ℕ) → k < n → counts k ≡ clear
    pub walks : walk all objects codes n 0 s ≡ clear

  pub judged : (n rate old : ℕ) (s : Shape) → later all objects codes n rate old s ≡ clear → Judged n s
  judged n rate old s e =
      let p1 = (then_clear (unless (eqb old 0 || eqb old rate) 9 old rate) _ e).1 in
      let p2 = (then_clear (unless (s.started || not (none_sent all objects codes all)) 10 0 0) _ p1).1 in
      let p3 = (then_clear (counts 0) _ p2).1 in
      let p4 = (then_clear (unless (not (eqb n 0)) 12 0 0) _ p3).1 in
      let p5 = then_clear (cond (after 0 s).started (objects_match all objects codes (after 0 s)) clear) (walk all objects codes n 0 s) p4 in
      record { first = go (after 0 s).started refl p5.0; then_all = λ k h. ap counts (let q : k ≡ 0 + k = omega arith in q) ∙ walked n 0 k s p5.1 h; walks = p5.1 }
    where
      go : (b : Bool) → (after 0 s).started ≡ b → cond b (objects_match all objects codes (after 0 s)) clear ≡ clear → Matches (after 0 s)
      go true q e st = match_clear (after 0 s) e
      go false q e st = absurd (subst T (sym st ∙ q) tt)

-- ---- 13 and 14
bed_matched : (beds codes : List ℕ) (b : Bed) → bed_found beds codes b.code ≡ clear → Matched codes b
bed_matched beds codes b e = go (matching b.code codes) refl (match.judged b.code codes)
  where
    clear_both : (unless (not (eqb (counted b.code codes) 0)) 13 (counted b.code beds) 0 ≡ clear) × (unless (not (eqb b.code 6)) 14 b.code 0 ≡ clear)
    clear_both = then_clear (unless (not (eqb (counted b.code codes) 0)) 13 (counted b.code beds) 0) _ e

    some : counted b.code codes ≢ 0
    some = eqb-false (counted b.code codes) 0 (not-true _ (unless_clear _ 13 (counted b.code beds) 0 clear_both.0))

    go : (f : Option ℕ) → matching b.code codes ≡ f → match.Judged b.code codes f → Matched codes b
    go (Some i) q w = record { input = i; there = w.0; feeds = q; supported = eqb-false b.code 6 (not-true _ (unless_clear _ 14 b.code 0 clear_both.1)) }
    go None q w = absurd (some w)

all_matched : (beds codes : List ℕ) (bs : List Bed) → beds_found beds codes (map (λ (b : Bed). b.code) bs) ≡ clear → All (Matched codes) bs
all_matched beds codes [] e = tt
all_matched beds codes (b ∷ bs) e = let p = then_clear (bed_found beds codes b.code) _ e in (bed_matched beds codes b p.0, all_matched beds codes bs p.1)

-- a bed without an input, which 13 keeps out, adds nothing
pub unmatched : (ks : List Float) (inputs : ℕ → Float) → fed_by ks None inputs ≡ []
unmatched ks inputs = refl

module _ (L : Leaves) (B : Layout L) (F : Facts L B) where
  -- of timed states of which updates with Q keep P, and to which they give their shape
  module _ (Q : L.Update → Type 0) (P : L.Meta → Type 0) (keeps : (n : ℕ) (u : L.Update) (m : L.Meta) → Q u → P m → P (L.apply n u m))
      (gives : (n : ℕ) (u : L.Update) (m : L.Meta) → Q u → P m → L.shape (L.apply n u m) ≡ L.sent u) where
    -- the shape that sample t is heard with
    pub updated_shape : (all : List Announced) (objects : ℕ) (codes : List ℕ) (t : ℕ) (us : List L.Update) (r : State L) → All Q us → P r.meta
        → L.shape (updated L t us r).meta ≡ shape_at all objects codes t (announced L us) (L.shape r.meta)
    updated_shape all objects codes t [] r k s = refl
    updated_shape all objects codes t (u ∷ us) r k s =
        let x = either (λ (r : State L). P r.meta) (eqb (L.offset u) t) {x = applied_at L t u r} {y = r} (keeps r.clock.position u r.meta k.0 s) s in
        updated_shape all objects codes t us (cond (eqb (L.offset u) t) (applied_at L t u r) r) k.1 x
        ∙ ap (shape_at all objects codes t (announced L us)) (go (eqb (L.offset u) t))
      where
        go : (b : Bool) → L.shape (cond b (applied_at L t u r) r).meta ≡ cond b (L.sent u) (L.shape r.meta)
        go true = gives r.clock.position u r.meta k.0 s
        go false = refl

  pub slotted_shape : (r : State L) → ((n : ℕ) → L.shape (L.slot n r.meta) ≡ L.shape r.meta) → L.shape (slotted L r).meta ≡ L.shape r.meta
  slotted_shape r rests = go (started L r.meta && eqb r.clock.phase 0)
    where
      go : (b : Bool) → L.shape (cond b (L.slot r.clock.start r.meta) r.meta) ≡ L.shape r.meta
      go true = rests r.clock.start
      go false = refl

  module _ (r : State L) (a : Args) (p : Passed L r a) (k : Admitted L B F (frame_of L r a)) where
    abbrev f : Frame L.Update
    f = frame_of L r a

    abbrev sent : List Announced
    sent = announced L f.updates

    abbrev Fit : Shape → Type 0
    Fit = Matches sent a.objects a.codes

    abbrev shaped : ℕ → Shape → Shape
    shaped t s = shape_at sent a.objects a.codes t sent s

    abbrev met : ℕ → State L → State L
    met t s = slotted L (updated L t f.updates s)

    met_good : (t : ℕ) (s : State L) → Good L B F s → Good L B F (met t s)
    met_good t s g = before_good L B F t f.updates s k.updates g

    slot_rests : (t : ℕ) (s : State L) → Good L B F s → L.shape (met t s).meta ≡ L.shape (updated L t f.updates s).meta
    slot_rests t s g = let u = updated L t f.updates s in slotted_shape u (λ n. F.shape_slot n u.meta (updated_good L B F t f.updates s k.updates g).steady.meta)

    met_shape : (t : ℕ) (s : State L) → Good L B F s → L.shape (met t s).meta ≡ shaped t (L.shape s.meta)
    met_shape t s g =
        slot_rests t s g ∙ updated_shape F.Checked F.Sound F.sound_apply F.shape_apply sent a.objects a.codes t f.updates s k.updates g.steady.meta

    met_started : (t : ℕ) (s : State L) → Good L B F s → started L s.meta ≡ before L r a t → started L (met t s).meta ≡ begun L r a t
    met_started t s g e =
        ap (λ (s : Shape). s.started) (slot_rests t s g)
        ∙ updated_started L B F t f.updates s k.updates g.steady.meta ∙ ap (λ (b : Bool). b || at L t f.updates) e ∙ begins L r a t

    j : Judged sent a.objects a.codes a.samples (L.shape r.meta)
    j = judged sent a.objects a.codes a.samples a.rate r.rate (L.shape r.meta) p.later

    -- before sample t
    pub record Inv (t : ℕ) (s : State L) : Type 0 where
      pub good : Good L B F s
      pub begins : started L s.meta ≡ before L r a t
      pub walks : walk sent a.objects a.codes (a.samples - t) t (L.shape s.meta) ≡ clear
      pub fits : t < a.samples → Fit (shaped t (L.shape s.meta))

    keep : (t : ℕ) (s : State L) → t < a.samples → Inv t s → Inv (suc t) (sampled L f t s).next
    keep t s h i =
        let is = sym (met_shape t s i.good) in
        let w = subst (λ (x : Shape). walk sent a.objects a.codes (a.samples - suc t) (suc t) x ≡ clear) is
        (walk_on sent a.objects a.codes a.samples t (L.shape s.meta) h i.walks).2 in
        record {
          good = (sampled_fine L B F f k t h s i.good).next;
          begins = met_started t s i.good i.begins;
          walks = w;
          fits = λ l. matches_on sent a.objects a.codes (suc t) sent (L.shape (met t s).meta)
              (walk_on sent a.objects a.codes a.samples (suc t) (L.shape (met t s).meta) l w).0 (subst Fit is (i.fits h));
        }

    module _ (g : Good L B F (opened L a.rate r)) where
      abbrev s : ℕ → State L
      s t = sounds.before L r a t

      pub inv : (t : ℕ) → t ≤ a.samples → Inv t (s t)
      inv t h = along L f (opened L a.rate r) a.samples Inv keep (record { good = g; begins = refl; walks = rw sub-zero j.walks; fits = λ l. j.first }) t h

      module _ (t : ℕ) (h : t < a.samples) where
        abbrev m : L.Meta
        m = (sounds.met L r a t).meta

        i : Inv t (s t)
        i = inv t (le_of_lt h)

        pub started_at : started L m ≡ begun L r a t
        started_at = met_started t (s t) i.good i.begins

        -- refusal 11
        pub count_there : started L m ≡ true → (L.shape m).objects ≡ a.objects
        count_there e = subst Fit (sym (met_shape t (s t) i.good)) (i.fits h) e

        pub objects_there : length (cond (begun L r a t) (L.objects m) []) ≡ cond (begun L r a t) a.objects 0
        objects_there = go (begun L r a t) started_at
          where
            go : (b : Bool) → started L m ≡ b → length (cond b (L.objects m) []) ≡ cond b a.objects 0
            go true e = F.shape_objects m (met_good t (s t) i.good).steady.meta e ∙ count_there e
            go false e = refl

        -- refusals 13 and 14
        pub beds_there : All (Matched a.codes) (cond (begun L r a t) (L.beds m) [])
        beds_there = go (begun L r a t) started_at
          where
            mixed : mixes sent a.objects a.codes (L.shape m) ≡ clear
            mixed = subst (λ (x : Shape). mixes sent a.objects a.codes x ≡ clear) (sym (met_shape t (s t) i.good))
                (walk_on sent a.objects a.codes a.samples t (L.shape (s t).meta) h i.walks).1

            go : (b : Bool) → started L m ≡ b → All (Matched a.codes) (cond b (L.beds m) [])
            go true e =
                let found = subst (λ (b : Bool). cond b (beds_found (L.shape m).beds a.codes (L.shape m).beds) clear ≡ clear) e mixed in
                let codes = F.shape_beds m (met_good t (s t) i.good).steady.meta e in
                all_matched (L.shape m).beds a.codes (L.beds m) (subst (λ (cs : List ℕ). beds_found (L.shape m).beds a.codes cs ≡ clear) (sym codes) found)
            go false e = tt
