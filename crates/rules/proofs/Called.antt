-- One call keeps the invariant, and the samples that it gives out are read from the output's bytes as finite and from -1 to 1. Assumes nothing beyond `Facts`.
use mathlib.Core.Path.{◌≡◌, refl, sym, ap, ◌∙◌, subst}
use mathlib.Core.Logic.{inl, inr}
use mathlib.Core.Bool.{Bool, true, false}
use mathlib.Core.List.{List, []}
use Prim.Native.Nat.{ℕ, ◌+◌, ◌*◌, ◌%◌, ◌≤◌, ◌<◌, zero-le}
use native.Mathlib.Nat.{le_trans, le_of_eq, le_of_lt, not-suc-le-zero}
use native.Mathlib.Omega.{arith}
use borrow.Author.Tests.{eqb-false}
use lib.Dec.{T, eqb, ltb, lit<}
use lib.ListN.{length, get_or}
use Rattle.words.specs.Words.{Bytes}
use Rattle.ieee.specs.Units.{Unitary}
use Rattle.ieee.specs.Bounds.{All}
use Rattle.limiter.specs.Meters.{idle_meters, call_meters}
use Rattle.limiter.specs.Range.{MetersInRange}
use Rattle.limiter.specs.declared.meters.Meters.{Meters}
use Rattle.limiter.proofs.Theorems.{idle_in_range, call_in_range}
use Rattle.panning.specs.Setup.{Setup, present, hall_with}
use Rattle.panning.proofs.Theorems.{front_present}
use Rattle.rules.specs.Parts.{Channels, none}
use Rattle.rules.specs.Leaves.{Leaves}
use Rattle.rules.specs.Samples.{State, fresh, pushed, flushed}
use Rattle.rules.specs.Refusals.{Args, Found, clear, stop, room}
use Rattle.rules.specs.Making.{hall_of, layout_found, table_found}
use Rattle.rules.specs.Calls.{Call, push, flush, reset, make, make_with, mark, find, refused, rendered, nothing, cleared, marked, given, meters_of, frame_of, found, numbered, alike_marks, with_meta, ahead_after, with_waits, Result, asked, drained, making, marking, step}
use Rattle.rules.specs.Ranges.{HallRanged}
use Rattle.rules.specs.BlockCalls.{Layout, Outcome, left, out_of, stride_of}
use Rattle.rules.specs.Promises.{count_on}
use Rattle.rules.specs.Demand3.{ready, GivenOut, Lent}
use Rattle.rules.proofs.EachOf.{count_most, none_count, here_count}
use Rattle.rules.proofs.Owed.{Facts}
use Rattle.rules.proofs.Judged.{Passed, is_passed, is_roomy, samples_fit}
use Rattle.rules.proofs.Making.{ranged_fits, layout_makes, table_makes}
use Rattle.rules.proofs.Invariant.{Steady, Good, Rest, fresh_rest, marked_rest, settled_good}
use Rattle.rules.proofs.Frames.{rest_kept, pushed_fine, flushed_fine}
use Rattle.rules.proofs.Written.{bits_words, written_reads, written_beside, written_past, written_tame, length_written}

-- whole blocks of what was pending, below a block, and of at most a stride of samples
blocks_fit : (blocks left p n stride : ℕ) → 64 * blocks + left ≡ p + n → p < 64 → n ≤ stride → stride % 64 ≡ 0 → 64 * blocks ≤ stride
blocks_fit blocks left p n stride e l h w = omega arith

module _ (L : Leaves) (B : Layout L) (F : Facts L B) where
  -- samples that are given out, of which each channel of the hall has n
  given_out : (h : Setup) → h.layout ≤ 3 → (g : Channels) (m : Meters) (n stride : ℕ) (s : State L) (out b : List ℕ) → n ≤ stride → 48 * stride ≤ length out
      → ((c : ℕ) → c < 12 → All Unitary (g c)) → ((c : ℕ) → c < 12 → length (g c) ≡ count_on h n c) → MetersInRange m
      → GivenOut h stride out (left L B (rendered g m) s out stride b)
  given_out h four g m n stride s out b fits room tamed long metered =
      let few : (c : ℕ) → count_on h n c ≤ stride = λ c. le_trans (count_most h n c) fits in
      let e = long 0 (lit< tt) ∙ here_count h n 0 (front_present h.layout four) in
      let all : (c : ℕ) → T (present h.layout c) → (i : ℕ) → i < length (g 0) → i < count_on h n c = λ c t i k. le_trans k (le_of_eq (e ∙ sym (here_count h n c t))) in
      record {
        fits = le_trans (le_of_eq e) fits;
        long = length_written g stride out;
        each = λ c l. long c l ∙ ap (λ (k : ℕ). count_on h k c) (sym e);
        placed = λ c i l t k. written_reads g stride (count_on h n) few (λ c l. bits_words (g c) (tamed c l)) long out room c i l (all c t i k);
        beside = λ c i l k u. written_beside g stride (count_on h n) few long out c i l (subst (λ (j : ℕ). 4 * count_on h j c ≤ i) e k) u;
        past = λ i k. written_past g stride (count_on h n) few long out i k;
        tame = λ c i l t k. written_tame g stride (count_on h n) few tamed long out room c i l (all c t i k);
        meters = metered;
      }

  -- an answer without samples
  quiet : (hall : Setup) (stride : ℕ) (out : List ℕ) (o : Outcome) → ready o.answer ≡ 0 → given o.answer ≡ none → meters_of o.answer ≡ idle_meters → o.out ≡ out
      → GivenOut hall stride out o
  quiet hall stride out o e g m h =
      let never : (i : ℕ) → i < ready o.answer → ⊥ = λ i k. not-suc-le-zero (le_trans k (le_of_eq e)) in
      record {
        fits = le_trans (le_of_eq e) zero-le;
        long = ap length h;
        each = λ c l. ap (λ (f : Channels). length (f c)) g ∙ sym (none_count hall c) ∙ ap (λ (k : ℕ). count_on hall k c) (sym e);
        placed = λ c i l t k. absurd (never i k);
        beside = λ c i l k u. ap (λ (s : List ℕ). get_or s (4 * (c * stride) + i) 0) h;
        past = λ i k. ap (λ (s : List ℕ). get_or s i 0) h;
        tame = λ c i l t k. absurd (never i k);
        meters = subst MetersInRange (sym m) idle_in_range;
      }

  pub record Called (h : Setup) (c : Call) (x : Result L) : Type 0 where
    pub rest : Rest L B F x.next
    pub range : (b : List ℕ) → GivenOut h (stride_of c) (out_of c) (left L B x.answer x.next (out_of c) (stride_of c) b)

  pub steady : {r : State L} → Rest L B F r → Steady L B F r
  steady (inl g) = g.steady
  steady (inr g) = g.steady

  module _ (r : State L) (rest : Rest L B F r) where
    -- what waits after it
    kept_on : (a : Args) → Bytes a.meta → Passed L r a → F.Kept (ahead_after L r a)
    kept_on a b p =
        F.kept_settle r.clock.position a.samples r.waits a.meta (rest_kept L B F r rest) b p.early.laid_out p.early.in_range p.fits

    asked_called : (a : Args) → Lent (push a) → (v : Found) → found L r a ≡ v → Called r.setup (push a) (asked L v a r)
    asked_called a h (stop n x y) e = record { rest = rest; range = λ b. quiet r.setup a.stride a.out (left L B (refused n x y) r a.out a.stride b) refl refl refl refl }
    asked_called a h clear e =
        let p = is_passed L r a e in
        let q = is_roomy a.stride (length a.out) p.early.room in
        let d = pushed_fine L B F r a h.0 h.1 p rest in
        let y = pushed L (frame_of L r a) r in
        let fit = blocks_fit d.blocks y.next.pending.count r.pending.count a.samples a.stride d.all (steady rest).few (samples_fit a p.early.sized)
        q.whole in
        record {
          rest = inr (settled_good L B F (ahead_after L r a) y.next (kept_on a h.1 p) d.next);
          range = λ b. given_out r.setup (steady rest).hall.layout y.given (call_meters y.meters) (64 * d.blocks) a.stride (with_waits L (ahead_after L r a) y.next) a.out b fit q.long d.given d.length
              (call_in_range y.meters d.meters);
        }

    -- something waits, so there is a rate
    pub waiting_good : eqb r.pending.count 0 ≡ false → Good L B F r
    waiting_good e = go rest
      where
        go : Rest L B F r → Good L B F r
        go (inl g) = absurd (eqb-false r.pending.count 0 e g.none)
        go (inr g) = g

    drained_called : (out : List ℕ) (stride : ℕ) (t e : Bool) → room stride (length out) ≡ t → eqb r.pending.count 0 ≡ e → Called r.setup (flush out stride) (drained L t e r)
    drained_called out stride false e p q = record { rest = rest; range = λ b. quiet r.setup stride out (left L B (refused 1 0 0) r out stride b) refl refl refl refl }
    drained_called out stride true true p q = record { rest = rest; range = λ b. quiet r.setup stride out (left L B nothing r out stride b) refl refl refl refl }
    drained_called out stride true false p q =
        let g = waiting_good q in
        let d = flushed_fine L B F r g in
        let w = is_roomy stride (length out) p in
        let y = flushed L r in
        record {
          rest = inr d.next;
          range = λ b. given_out r.setup (steady rest).hall.layout y.given (call_meters y.meters) r.pending.count stride y.next out b
              (le_trans (le_of_lt g.steady.few) w.some) w.long d.given d.length (call_in_range y.meters d.meters);
        }

    made_rest : (v : Found) (h : Setup) → (v ≡ clear → HallRanged h) → Rest L B F (making L v h r).next
    made_rest (stop n x y) h e = rest
    made_rest clear h e = fresh_rest L B F h (ranged_fits (e refl))

    made_quiet : (v : Found) (h : Setup) (b : List ℕ) → GivenOut r.setup 0 [] (left L B (making L v h r).answer (making L v h r).next [] 0 b)
    made_quiet (stop n x y) h b = quiet r.setup 0 [] (left L B (refused n x y) r [] 0 b) refl refl refl refl
    made_quiet clear h b = quiet r.setup 0 [] (left L B cleared (fresh L h) [] 0 b) refl refl refl refl

    marking_called : (v known w : Bool) (d : ℕ) → Called r.setup (mark w d) (marking L v known w d r)
    marking_called false known w d = record { rest = rest; range = λ b. quiet r.setup 0 [] (left L B (refused 24 0 0) r [] 0 b) refl refl refl refl }
    marking_called true true w d = record { rest = rest; range = λ b. quiet r.setup 0 [] (left L B (marked false) r [] 0 b) refl refl refl refl }
    marking_called true false w d =
        let s = with_meta L (L.want w d r.meta) r in
        record { rest = marked_rest L B F w d r rest; range = λ b. quiet r.setup 0 [] (left L B (marked true) s [] 0 b) refl refl refl refl }

    pub called : (c : Call) → Lent c → Called r.setup c (step L r c)
    called (push a) h = asked_called a h (found L r a) refl
    called (flush out stride) h = drained_called out stride (room stride (length out)) (eqb r.pending.count 0) refl refl
    called reset h = record { rest = fresh_rest L B F r.setup (steady rest).hall; range = λ b. quiet r.setup 0 [] (left L B cleared (fresh L r.setup) [] 0 b) refl refl refl refl }
    called (make n) h = record { rest = made_rest (layout_found n) (hall_with n) (layout_makes n); range = made_quiet (layout_found n) (hall_with n) }
    called (make_with n t) h = record { rest = made_rest (table_found n t) (hall_of n t) (table_makes n t h); range = made_quiet (table_found n t) (hall_of n t) }
    called (mark w d) h = marking_called (ltb d (numbered L r)) (alike_marks w (L.wants d r.meta)) w d
    called (find m) h = record { rest = rest; range = λ b. quiet r.setup 0 [] (left L B (step L r (find m)).answer r [] 0 b) refl refl refl refl }
