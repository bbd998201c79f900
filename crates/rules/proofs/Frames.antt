-- A frame and a flush keep the invariant: a frame gives out whole blocks of 64, a flush what was pending. Assumes nothing beyond `Facts`.
use mathlib.Core.Path.{◌≡◌, refl, sym, ap, ap₂, ◌∙◌, subst}
use mathlib.Core.Logic.{◌⊎◌, inl, inr}
use mathlib.Core.Bool.{Bool, true, false, cond}
use mathlib.Core.List.{[]}
use Prim.Native.Nat.{ℕ, zero, suc, ◌+◌, ◌*◌, ◌≤◌, ◌<◌}
use native.Mathlib.Nat.{le_of_lt, le_of_eq, le_refl, le_trans, not-suc-le-zero}
use native.Mathlib.Omega.{arith}
use lib.Dec.{lit<}
use lib.ListN.{length, take, length-append}
use lib.Seq.{length-take-le, take-nil}
use lib.Ieee.{binary32, of_bits}
use Rattle.ieee.specs.Units.{F32, Unitary}
use Rattle.ieee.specs.Bounds.{All}
use Rattle.words.specs.Words.{Bytes}
use Rattle.limiter.specs.Range.{MetersInRange}
use Rattle.panning.specs.Setup.{Setup, present}
use Rattle.rules.specs.Parts.{floats}
use Rattle.rules.specs.Leaves.{Leaves}
use Rattle.rules.specs.Samples.{Pending, Frame, State, sounding, limited, updated, slotted, moment, After, sampled, framed, opened, pushed, waiting, flushed}
use Rattle.rules.specs.Sounds.{AllMetered}
use Rattle.rules.specs.Promises.{count_on}
use Rattle.rules.specs.Refusals.{Args}
use Rattle.rules.specs.Calls.{frame_of}
use Rattle.rules.specs.BlockCalls.{Layout}
use Rattle.rules.proofs.EachOf.{all_map, all_take, all_append, length_map, all_sounding, count_most, count_sum, none_count, all_or_none}
use Rattle.rules.proofs.Owed.{Facts}
use Rattle.rules.proofs.Judged.{Passed, is_listed, sample_in, samples_in}
use Rattle.rules.proofs.Limited.{limited_tame, limited_metered, meters_kept, gain_kept, length_limited}
use Rattle.rules.proofs.Metered.{one_metered, metered_joined}
use Rattle.rules.proofs.Clock.{untouched, setup_kept}
use Rattle.rules.proofs.Invariant.{Admitted, Good, Rest, Fine, before_good, opened_good, moment_hearable, passed_fine}

module _ (L : Leaves) (B : Layout L) (F : Facts L B) where
  pub rest_kept : (r : State L) → Rest L B F r → F.Kept r.waits
  rest_kept r (inl g) = g.steady.kept
  rest_kept r (inr g) = g.steady.kept

  -- an accepted push's frame
  pub admitted : (r : State L) (a : Args) → Bytes a.pcm → Bytes a.meta → Passed L r a → F.Kept r.waits → Admitted L B F (frame_of L r a)
  admitted r a b m p w =
      let channels = length a.codes + a.objects in
      record {
        rate = is_listed a.rate p.early.listed;
        updates = F.checked r.clock.position a.samples r.waits a.meta w m p.early.laid_out p.early.in_range;
        input = λ i t h l. sample_in a.pcm channels a.samples b p.early.pass i t (omega arith) l;
        own = λ t l. samples_in a.pcm channels a.samples b p.early.pass a.objects (length a.codes) t (le_refl channels) l;
      }

  module _ (f : Frame L.Update) (k : Admitted L B F f) where
    pub sampled_fine : (t : ℕ) → t < f.samples → (r : State L) → Good L B F r → Fine L B F r.setup r.pending.count 1 (sampled L f t r)
    sampled_fine t h r g =
        let s = slotted L (updated L t f.updates r) in
        let i = before_good L B F t f.updates r k.updates g in
        let u = untouched L t f.updates r in
        subst (λ (p : Pending). Fine L B F r.setup p.count 1 (sampled L f t r)) u.pending
        (subst (λ (e : Setup). Fine L B F e s.pending.count 1 (sampled L f t r)) u.setup
        (passed_fine L B F (moment L f t s.setup s.meta) (moment_hearable L B F f k t h s.setup i.steady.hall s.meta i.steady.meta) s i))

    pub framed_fine : (n t : ℕ) → t + n ≤ f.samples → (r : State L) → Good L B F r → Fine L B F r.setup r.pending.count n (framed L f n t r)
    framed_fine zero t h r g = record {
      next = g;
      given = λ c l. tt;
      blocks = 0;
      length = λ c l. sym (none_count r.setup c);
      all = omega arith;
      count = refl;
      meters = tt;
      within = λ c i l h. absurd (not-suc-le-zero h);
    }
    framed_fine (suc n) t h r g =
        let x = sampled L f t r in
        let a = sampled_fine t (omega arith) r g in
        let y = framed L f n (suc t) x.next in
        let d = subst (λ (e : Setup). Fine L B F e x.next.pending.count n y) (setup_kept L f 1 t r) (framed_fine n (suc t) (omega arith) x.next a.next) in
        record {
          next = d.next;
          given = λ c l. all_append Unitary (x.given c) (y.given c) (a.given c l) (d.given c l);
          blocks = a.blocks + d.blocks;
          length = λ c l. length-append (x.given c) (y.given c) ∙ count_sum r.setup (64 * a.blocks) (64 * d.blocks) c (a.length c l) (d.length c l)
              ∙ ap (λ (n : ℕ). count_on r.setup n c) (sums a.blocks d.blocks);
          all = total a.blocks d.blocks x.next.pending.count y.next.pending.count r.pending.count a.all d.all;
          count = length-append x.meters y.meters ∙ ap₂ (λ (i j : ℕ). i + j) a.count d.count;
          meters = all_append MetersInRange x.meters y.meters a.meters d.meters;
          within = metered_joined x.meters y.meters x.given y.given (λ c l. whole_or_none c d.blocks a.count (a.length c l) (d.length c l)) a.within d.within;
        }
      where
        sums : (i j : ℕ) → 64 * i + 64 * j ≡ 64 * (i + j)
        sums i j = omega arith

        whole_or_none : (c j : ℕ) {i m u v : ℕ} → m ≡ i → u ≡ count_on r.setup (64 * i) c → v ≡ count_on r.setup (64 * j) c → (u ≡ 64 * m) ⊎ ((u ≡ 0) × (v ≡ 0))
        whole_or_none c j {i} {m} {u} {v} e p q = elim (all_or_none r.setup (64 * i) c p) [
          | inl w ↦ inl (w ∙ ap (λ (n : ℕ). 64 * n) (sym e))
          | inr w ↦ inr (w.1, q ∙ ap (λ (b : Bool). cond b (64 * j) 0) w.0)
        ]

        total : (i j u v w : ℕ) → 64 * i + u ≡ w + 1 → 64 * j + v ≡ u + n → 64 * (i + j) + v ≡ w + suc n
        total i j u v w p q = omega arith

  pub pushed_fine : (r : State L) (a : Args) → Bytes a.pcm → Bytes a.meta → Passed L r a → Rest L B F r
      → Fine L B F r.setup r.pending.count a.samples (pushed L (frame_of L r a) r)
  unfolding pushed
  pushed_fine r a b m p g =
      let k = admitted r a b m p (rest_kept r g) in
      framed_fine (frame_of L r a) k a.samples 0 (omega arith) (opened L a.rate r) (opened_good L B F a.rate r k.rate g)

  -- ---- flush

  -- how many samples of a channel wait
  pub length_waiting : (r : State L) (c : ℕ) → r.pending.count ≤ 64 → length (r.pending.places c) ≡ 64 → length (waiting L r c) ≡ count_on r.setup r.pending.count c
  length_waiting r c few long = go (present r.setup.layout c)
    where
      e : length (floats r.pending.places c) ≡ 64
      e = length_map (of_bits binary32) (r.pending.places c) ∙ long

      go : (b : Bool) → length (take r.pending.count (cond b (floats r.pending.places c) [])) ≡ cond b r.pending.count 0
      go true = length-take-le r.pending.count (floats r.pending.places c) (omega (arith, e, few))
      go false = ap length (take-nil r.pending.count)

  pub record Drained (r : State L) (a : After L) : Type 0 where
    pub next : Good L B F a.next
    pub given : (c : ℕ) → c < 12 → All Unitary (a.given c)
    pub length : (c : ℕ) → c < 12 → length (a.given c) ≡ count_on r.setup r.pending.count c
    pub meters : All MetersInRange a.meters
    pub within : AllMetered a.meters a.given

  pub flushed_fine : (r : State L) → Good L B F r → Drained r (flushed L r)
  unfolding flushed
  flushed_fine r g =
      let s = g.steady in
      let waits = waiting L r in
      let w : (c : ℕ) → All F32 (waits c) = λ c. all_take F32 r.pending.count (sounding r.setup (floats r.pending.places) c)
      (all_sounding r.setup F32 (floats r.pending.places) c (all_map F32 (of_bits binary32) (r.pending.places c) (s.places c))) in
      let few = le_of_lt s.few in
      let long : (c : ℕ) → c < 12 → length (limited r.limiter.gain waits c) ≡ count_on r.setup r.pending.count c = λ c l.
      length_limited r.limiter.gain waits c ∙ length_waiting r c few (s.long c l) in
      record {
        next = record {
          rate = g.rate;
          calm = g.calm;
          steady = record {
            hall = g.steady.hall;
            meta = s.meta;
            gain = gain_kept waits w r.pending.count r.rate g.rate few r.limiter.gain s.gain;
            places = s.places;
            long = s.long;
            few = lit< tt;
            kept = s.kept;
          };
        };
        given = limited_tame waits w r.pending.count r.rate g.rate few r.limiter.gain s.gain;
        length = long;
        meters = meters_kept waits w r.pending.count r.rate g.rate few r.limiter.gain s.gain;
        within = one_metered r.limiter.gain waits (λ c l. le_trans (le_of_eq (long c l)) (le_trans (count_most r.setup r.pending.count c) few))
            (limited_metered waits w r.pending.count r.rate g.rate few r.limiter.gain s.gain);
      }
