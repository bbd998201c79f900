-- How soon the level returns: the gain after calls in a row is what the blocks that they complete leave of it, so that quiet ones bring it to 1. Assumes nothing, and on blocks
-- nothing beyond `Facts`.
use mathlib.Core.Path.{◌≡◌, refl, sym, ap, ap₂, ◌∙◌, subst}
use mathlib.Core.Logic.{◌⊎◌, inl, inr}
use mathlib.Core.Bool.{Bool, true, false, cond, ◌||◌}
use mathlib.Core.List.{List, [], ◌∷◌, ◌++◌, map}
use Prim.Native.Nat.{ℕ, zero, suc, ◌+◌, ◌/◌, ◌≤◌}
use native.Mathlib.Omega.{arith}
use borrow.Author.Tests.{eqb-true, ne_eqb}
use lib.Dec.{T, eqb, leb}
use lib.ListN.{length, length-append}
use lib.Ieee.{Float, binary32, of_bits}
use lib.Ieee.Bits.{of_bits-fits}
use Rattle.std.proofs.lemmas.List.{map-append}
use Rattle.ieee.specs.Bounds.{All}
use Rattle.limiter.specs.Level.{Level}
use Rattle.limiter.specs.Limiter.{1·0}
use Rattle.limiter.specs.Return.{after_blocks}
use Rattle.limiter.specs.declared.meters.Meters.{Meters}
use Rattle.limiter.specs.declared.Limiter.{Limiter}
use Rattle.limiter.proofs.Theorems.{returns_after, after_more, block_level}
use Rattle.lowpass.specs.Lowpass.{next}
use Rattle.panning.specs.Setup.{Setup, hall_with}
use Rattle.rules.specs.Parts.{Channels, Places, floats, twelve}
use Rattle.rules.specs.Leaves.{Leaves}
use Rattle.rules.specs.Mix.{fed}
use Rattle.rules.specs.Samples.{Frame, State, sounding, metered, gain_after, row, updated, slotted, moment, settled, sampled, framed, opened, pushed}
use Rattle.rules.specs.Refusals.{Args, Found, clear, stop, unless, listed}
use Rattle.rules.specs.Making.{hall_of, layout_found, table_found}
use Rattle.rules.specs.Ranges.{Fits}
use Rattle.rules.specs.Calls.{Call, push, flush, reset, make, make_with, mark, find, Answer, refused, rendered, nothing, cleared, marked, place, frame_of, found, asked, making, step, final}
use Rattle.rules.specs.BlockCalls.{Layout, Outcome, left, out_of, stride_of, takes, made, final_on}
use Rattle.rules.specs.Demand3.{Lent, AllLent}
use Rattle.rules.specs.Returning.{peaks, is_idle, is_push, pushes_blocks, completed, all_completed, Unbroken, LevelReturns, LevelReturnsOn}
use Rattle.rules.proofs.EachOf.{all_append, all_sounding}
use Rattle.rules.proofs.Judged.{Passed, is_passed, is_listed, then_clear, unless_clear}
use Rattle.rules.proofs.Clock.{untouched}
use Rattle.rules.proofs.Owed.{Facts, InRanges}
use Rattle.rules.proofs.Keeps.{step_ranged}
use Rattle.rules.proofs.StateBlocks.{Means, step_means}

all_front : (ps qs : List Float) → All Level (ps ++ qs) → All Level ps
all_front [] qs h = tt
all_front (p ∷ ps) qs h = (h.0, all_front ps qs h.1)

-- ---- the block of one sample, where it is whole
gain_by : (b : Bool) (rate : ℕ) (g : Float) (block : Channels) → cond b (gain_after 64 rate g block) g ≡ after_blocks rate g (peaks (cond b (metered g block) []))
gain_by true rate g block = refl
gain_by false rate g block = refl

block_fits : (h : Setup) (p : Places) (c : ℕ) → All Fits (sounding h (floats p) c)
block_fits h p c = all_sounding h Fits (floats p) c (each (p c))
  where
    each : (ws : List ℕ) → All Fits (map (of_bits binary32) ws)
    each [] = tt
    each (w ∷ ws) = (of_bits-fits binary32 w, each ws)

level_by : (b : Bool) (g : Float) (h : Setup) (p : Places) → All Level (peaks (cond b (metered g (sounding h (floats p))) []))
level_by true g h p =
    let f = block_fits h p in
    (block_level (twelve (sounding h (floats p))) (f 0, (f 1, (f 2, (f 3, (f 4, (f 5, (f 6, (f 7, (f 8, (f 9, (f 10, (f 11, tt)))))))))))), tt)
level_by false g h p = tt

module _ (L : Leaves) where
  -- ---- a frame
  module _ (f : Frame L.Update) where
    sampled_rate : (t : ℕ) (r : State L) → (sampled L f t r).next.rate ≡ r.rate
    sampled_rate t r = (untouched L t f.updates r).rate

    sampled_gain : (t : ℕ) (r : State L) → (sampled L f t r).next.limiter.gain ≡ after_blocks r.rate r.limiter.gain (peaks (sampled L f t r).meters)
    sampled_gain t r =
        let v = slotted L (updated L t f.updates r) in
        let u = untouched L t f.updates r in
        let n = settled L 1 (next v.filter (fed (moment L f t v.setup v.meta))) (sounding v.setup (row (moment L f t v.setup v.meta) v.filter)) v in
        let block = sounding v.setup (floats n.pending.places) in
        let whole = leb 64 n.pending.count in
        gain_by whole v.rate v.limiter.gain block
        ∙ ap₂ (λ (k : ℕ) (g : Float). after_blocks k g (peaks (cond whole (metered v.limiter.gain block) []))) u.rate (ap (λ (l : Limiter). l.gain) u.limiter)

    framed_rate : (n t : ℕ) (r : State L) → (framed L f n t r).next.rate ≡ r.rate
    framed_rate zero t r = refl
    framed_rate (suc n) t r = framed_rate n (suc t) (sampled L f t r).next ∙ sampled_rate t r

    framed_gain : (n t : ℕ) (r : State L) → (framed L f n t r).next.limiter.gain ≡ after_blocks r.rate r.limiter.gain (peaks (framed L f n t r).meters)
    framed_gain zero t r = refl
    framed_gain (suc n) t r =
        let a = sampled L f t r in
        let d = framed L f n (suc t) a.next in
        framed_gain n (suc t) a.next
        ∙ ap₂ (λ (k : ℕ) (g : Float). after_blocks k g (peaks d.meters)) (sampled_rate t r) (sampled_gain t r)
        ∙ sym (after_more r.rate r.limiter.gain (peaks a.meters) (peaks d.meters))
        ∙ ap (after_blocks r.rate r.limiter.gain) (sym (map-append (λ (m : Meters). m.peak) a.meters d.meters))

    sampled_levels : (t : ℕ) (r : State L) → All Level (peaks (sampled L f t r).meters)
    sampled_levels t r =
        let v = slotted L (updated L t f.updates r) in
        let n = settled L 1 (next v.filter (fed (moment L f t v.setup v.meta))) (sounding v.setup (row (moment L f t v.setup v.meta) v.filter)) v in
        level_by (leb 64 n.pending.count) v.limiter.gain v.setup n.pending.places

    framed_levels : (n t : ℕ) (r : State L) → All Level (peaks (framed L f n t r).meters)
    framed_levels zero t r = tt
    framed_levels (suc n) t r =
        let a = sampled L f t r in
        let d = framed L f n (suc t) a.next in
        subst (All Level) (sym (map-append (λ (m : Meters). m.peak) a.meters d.meters))
        (all_append Level (peaks a.meters) (peaks d.meters) (sampled_levels t r) (framed_levels n (suc t) a.next))

  -- ---- a push that is accepted
  module _ (r : State L) (a : Args) (e : found L r a ≡ clear) where
    abbrev after : State L
    after = (pushed L (frame_of L r a) r).next

    passes : Passed L r a
    passes = is_passed L r a e

    -- refusal 9
    rate_by : (first : Bool) → (first || eqb r.rate a.rate) ≡ true → cond first a.rate r.rate ≡ a.rate
    rate_by true q = refl
    rate_by false q = eqb-true r.rate a.rate q

    opened_rate : (opened L a.rate r).rate ≡ a.rate
    opened_rate =
        let x = eqb r.rate 0 || eqb r.rate a.rate in
        rate_by (eqb r.rate 0) (unless_clear x 9 r.rate a.rate (then_clear (unless x 9 r.rate a.rate) _ passes.later).0)

    after_rate : after.rate ≡ a.rate
    unfolding pushed
    after_rate = framed_rate (frame_of L r a) a.samples 0 (opened L a.rate r) ∙ opened_rate

    after_gain : after.limiter.gain ≡ after_blocks a.rate r.limiter.gain (peaks (pushed L (frame_of L r a) r).meters)
    unfolding pushed
    after_gain =
        framed_gain (frame_of L r a) a.samples 0 (opened L a.rate r)
        ∙ ap (λ (k : ℕ). after_blocks k r.limiter.gain (peaks (pushed L (frame_of L r a) r).meters)) opened_rate

    after_levels : All Level (peaks (pushed L (frame_of L r a) r).meters)
    unfolding pushed
    after_levels = framed_levels (frame_of L r a) a.samples 0 (opened L a.rate r)

    after_listed : listed after.rate ≡ true
    after_listed = ap listed after_rate ∙ passes.early.listed

    -- a rate that was there is the push's
    same_rate : listed r.rate ≡ true → after.rate ≡ r.rate
    same_rate l =
        let z : eqb r.rate 0 ≡ false = ne_eqb r.rate 0 (λ q. subst T (sym l ∙ ap listed q) tt) in
        after_rate ∙ sym opened_rate ∙ ap (λ (b : Bool). cond b a.rate r.rate) z

  -- ---- calls in a row
  -- the rate is there once a block is complete, and stays; the gain is what the blocks leave; their peaks are levels
  record Row (r : State L) (cs : List Call) : Type 0 where
    rated : (listed (final L r cs).rate ≡ true) ⊎ (all_completed L r cs ≡ [])
    kept : listed r.rate ≡ true → (final L r cs).rate ≡ r.rate
    gain : (final L r cs).limiter.gain ≡ after_blocks (final L r cs).rate r.limiter.gain (all_completed L r cs)
    levels : All Level (all_completed L r cs)

  -- of a call, and of the row after it
  abbrev Then : State L → State L → List Float → List Call → Type 0
  Then r s ps cs =
      ((listed (final L s cs).rate ≡ true) ⊎ (ps ++ all_completed L s cs ≡ []))
      × (listed r.rate ≡ true → (final L s cs).rate ≡ r.rate)
      × ((final L s cs).limiter.gain ≡ after_blocks (final L s cs).rate r.limiter.gain (ps ++ all_completed L s cs))
      × All Level (ps ++ all_completed L s cs)

  pushed_then : (r : State L) (a : Args) (e : found L r a ≡ clear) (cs : List Call) → let n = (asked L clear a r).next in Row n cs
      → Then r n (peaks (pushed L (frame_of L r a) r).meters) cs
  pushed_then r a e cs i =
      let d = pushed L (frame_of L r a) r in
      let n = (asked L clear a r).next in
      let k = (final L n cs).rate in
      let same : a.rate ≡ k = sym (i.kept (after_listed r a e) ∙ after_rate r a e) in (
        inl (ap listed (sym same) ∙ (passes r a e).early.listed),
        λ l. i.kept (after_listed r a e) ∙ same_rate r a e l,
        i.gain
            ∙ ap (λ (g : Float). after_blocks k g (all_completed L n cs)) (after_gain r a e ∙ ap (λ (n : ℕ). after_blocks n r.limiter.gain (peaks d.meters)) same)
            ∙ sym (after_more k r.limiter.gain (peaks d.meters) (all_completed L n cs)),
        all_append Level (peaks d.meters) (all_completed L n cs) (after_levels r a e) i.levels,
      )

  -- the rate and the gain stay
  abbrev Level_stays : State L → State L → Type 0
  Level_stays s r = (s.rate ≡ r.rate) × (s.limiter ≡ r.limiter)

  idle_then : (r s : State L) (cs : List Call) → Level_stays s r → Row s cs → Then r s [] cs
  idle_then r s cs e i = (
    i.rated,
    λ l. i.kept (ap listed e.0 ∙ l) ∙ e.0,
    i.gain ∙ ap (λ (x : Limiter). after_blocks (final L s cs).rate x.gain (all_completed L s cs)) e.1,
    i.levels,
  )

  -- an idle answer leaves the renderer as it was, but for what is asked for of an object
  idle_next : (x : Answer) (s r : State L) → T (is_idle x) → Means L x s r → Level_stays s r
  idle_next (refused n a b) s r t m = (ap (λ (x : State L). x.rate) m, ap (λ (x : State L). x.limiter) m)
  idle_next (rendered rs ms) s r t m = absurd t
  idle_next nothing s r t m = (ap (λ (x : State L). x.rate) m, ap (λ (x : State L). x.limiter) m)
  idle_next cleared s r t m = absurd t
  idle_next (marked true) s r t m = (ap (λ (x : State L). x.rate) m, ap (λ (x : State L). x.limiter) m)
  idle_next (marked false) s r t m = (ap (λ (x : State L). x.rate) m, ap (λ (x : State L). x.limiter) m)
  idle_next (place p) s r t m = (ap (λ (x : State L). x.rate) m, ap (λ (x : State L). x.limiter) m)

  -- a making call that is stopped leaves all
  making_idle : (v : Found) (h : Setup) (r : State L) → T (is_idle (making L v h r).answer) → (making L v h r).next ≡ r
  making_idle (stop n x y) h r t = refl
  making_idle clear h r t = absurd t

  asked_then : (r : State L) (a : Args) (v : Found) → found L r a ≡ v → (cs : List Call) → Row (asked L v a r).next cs
      → Then r (asked L v a r).next (pushes_blocks L v r a) cs
  asked_then r a (stop n x y) e cs i = idle_then r r cs (refl, refl) i
  asked_then r a clear e cs i = pushed_then r a e cs i

  call_then : (r : State L) (c : Call) → T (is_push c || is_idle (step L r c).answer) → (cs : List Call) → Row (step L r c).next cs → Then r (step L r c).next (completed L r c) cs
  call_then r (push a) t cs i = asked_then r a (found L r a) refl cs i
  call_then r (flush out stride) t cs i = let c = flush out stride in
      idle_then r (step L r c).next cs (idle_next (step L r c).answer (step L r c).next r t (step_means L r c)) i
  call_then r reset t cs i = absurd t
  call_then r (make n) t cs i = let c = make n in idle_then r (step L r c).next cs (idle_next (step L r c).answer (step L r c).next r t (step_means L r c)) i
  call_then r (make_with n b) t cs i = let c = make_with n b in idle_then r (step L r c).next cs (idle_next (step L r c).answer (step L r c).next r t (step_means L r c)) i
  call_then r (mark w d) t cs i = let c = mark w d in idle_then r (step L r c).next cs (idle_next (step L r c).answer (step L r c).next r t (step_means L r c)) i
  call_then r (find m) t cs i = idle_then r r cs (refl, refl) i

  in_row : (r : State L) (cs : List Call) → Unbroken L r cs → Row r cs
  in_row r [] u = record { rated = inr refl; kept = λ l. refl; gain = refl; levels = tt }
  in_row r (c ∷ cs) u =
      let t = call_then r c u.0 cs (in_row (step L r c).next cs u.1) in
      record { rated = t.0; kept = t.1; gain = t.2; levels = t.3 }

  pub level_returns : LevelReturns L
  level_returns r z cs q = go i.rated
    where
      i : Row r cs
      i = in_row r cs q.unbroken

      k : ℕ
      k = (final L r cs).rate

      some : all_completed L r cs ≡ [] → ⊥
      some e = nothing_there q.earlier q.last (sym q.blocks ∙ e) (q.enough)
        where
          nothing_there : (ps qs : List Float) → ps ++ qs ≡ [] → k / 64 + 2 ≤ length qs → ⊥
          nothing_there ps qs e n = let m : length ps + length qs ≡ 0 = sym (length-append ps qs) ∙ ap length e in omega arith

      go : (listed k ≡ true) ⊎ (all_completed L r cs ≡ []) → (final L r cs).limiter.gain ≡ 1·0
      go (inl l) =
          let s = is_listed k l in
          i.gain ∙ ap (after_blocks k r.limiter.gain) q.blocks
          ∙ returns_after k s.low s.high r.limiter.gain z q.earlier
          (all_front q.earlier q.last (subst (All Level) q.blocks i.levels)) q.last q.enough q.quiet
      go (inr e) = absurd (some e)

  -- ---- on the bytes of a block in its ranges
  module _ (B : Layout L) (F : Facts L B) where
    -- the block holds what the rules say, where the call took it
    left_on : (x : Answer) (s : State L) (out : List ℕ) (n : ℕ) (b : List ℕ) → Means L x s (B.decode b) → B.valid b ≡ true → InRanges F s
        → let b' = (left L B x s out n b).state in (B.valid b' ≡ true) × (B.decode b' ≡ s)
    left_on (refused k x y) s out n b m v g = (v, sym m)
    left_on (rendered w x) s out n b m v g = (F.valid s g, F.back s g)
    left_on nothing s out n b m v g = (v, sym m)
    left_on cleared s out n b m v g = (F.valid s g, F.back s g)
    left_on (marked true) s out n b m v g = (F.valid s g, F.back s g)
    left_on (marked false) s out n b m v g = (v, sym m)
    left_on (place p) s out n b m v g = (v, sym m)

    -- and where it did not
    not_taken : (c : Call) (b : List ℕ) → B.valid b ≡ true → takes L B c b ≡ false → T (is_push c || is_idle (step L (B.decode b) c).answer)
        → B.decode b ≡ (step L (B.decode b) c).next
    not_taken (push a) b v e t = absurd (subst T (sym v ∙ e) tt)
    not_taken (flush out stride) b v e t = absurd (subst T (sym v ∙ e) tt)
    not_taken reset b v e t = absurd t
    not_taken (make n) b v e t = sym (making_idle (layout_found n) (hall_with n) (B.decode b) t)
    not_taken (make_with n w) b v e t = sym (making_idle (table_found n w) (hall_of n w) (B.decode b) t)
    not_taken (mark w d) b v e t = absurd (subst T (sym v ∙ e) tt)
    not_taken (find m) b v e t = absurd (subst T (sym v ∙ e) tt)

    made_on : (c : Call) (b : List ℕ) → Lent c → B.valid b ≡ true → InRanges F (B.decode b) → T (is_push c || is_idle (step L (B.decode b) c).answer)
        → let b' = (made L B c b).state in (B.valid b' ≡ true) × (B.decode b' ≡ (step L (B.decode b) c).next)
    made_on c b h v g t = go (takes L B c b) refl
      where
        r : State L
        r = B.decode b

        good : Outcome
        good = left L B (step L r c).answer (step L r c).next (out_of c) (stride_of c) b

        bad : Outcome
        bad = record { answer = refused 1 0 0; state = b; out = out_of c }

        go : (w : Bool) → takes L B c b ≡ w → let b' = (cond w good bad).state in (B.valid b' ≡ true) × (B.decode b' ≡ (step L r c).next)
        go true e = left_on (step L r c).answer (step L r c).next (out_of c) (stride_of c) b (step_means L r c) v (step_ranged L B F r c h g)
        go false e = (v, not_taken c b v e t)

    row_on : (cs : List Call) (b : List ℕ) → AllLent cs → B.valid b ≡ true → InRanges F (B.decode b) → Unbroken L (B.decode b) cs
        → B.decode (final_on L B b cs) ≡ final L (B.decode b) cs
    row_on [] b h v g u = refl
    row_on (c ∷ cs) b h v g u =
        let m = made_on c b h.0 v g u.0 in
        let to = sym m.1 in
        row_on cs (made L B c b).state h.1 m.0 (subst (InRanges F) to (step_ranged L B F (B.decode b) c h.0 g)) (subst (λ (s : State L). Unbroken L s cs) to u.1)
        ∙ ap (λ (s : State L). final L s cs) m.1

    pub level_returns_on : LevelReturnsOn L B
    level_returns_on b bytes v z cs h q =
        ap (λ (s : State L). s.limiter.gain) (row_on cs b h v (F.decoded b bytes v) q.unbroken) ∙ level_returns (B.decode b) z cs q
