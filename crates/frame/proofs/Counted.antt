-- How many samples a frame gives out: whole blocks of 64, the same number on each channel that the hall has. Assumes nothing.
use Prim.Native.Nat.{ℕ, zero, suc, ◌+◌, ◌*◌, ◌≤◌, ◌<◌}
use native.Mathlib.Omega.{arith}
use mathlib.Core.Path.{◌≡◌, refl, sym, ap, ◌∙◌, subst}
use mathlib.Core.Bool.{Bool, true, false, cond}
use mathlib.Core.List.{List, [], ◌∷◌}
use lib.Dec.{leb, lit<}
use lib.ListN.{length, length-append}
use lib.Ieee.{binary32, of_bits}
use borrow.Author.Tests.{leb-true, leb-false}
use Rattle.lowpass.specs.Lowpass.{next}
use Rattle.panning.specs.Setup.{Setup}
use Rattle.rules.specs.Parts.{Channels, Places, none, floats, laid}
use Rattle.rules.specs.Leaves.{Leaves}
use Rattle.rules.specs.Mix.{Moment, fed}
use Rattle.rules.specs.Samples.{Pending, Frame, State, After, sounding, limited, row, moment, updated, slotted, settled, closing, sampled, framed}
use Rattle.rules.specs.Promises.{count_on}
use Rattle.rules.proofs.Theorems.{length_map, length_laid, length_limited, length_sounding, count_sum, none_count, untouched, setup_kept}

-- 64 places on each channel
abbrev pub Long : Places → Type 0
Long p = (c : ℕ) → c < 12 → length (p c) ≡ 64

below : (n : ℕ) (b : Bool) → leb 64 n ≡ b → cond b 0 n < 64
below n true e = lit< tt
below n false e = leb-false 64 n e

module _ (L : Leaves) where
  -- n samples from p pending in the hall h: in how many blocks they were given out, and what is left
  pub record Counted (h : Setup) (p n : ℕ) (a : After L) : Type 0 where
    pub blocks : ℕ
    pub length : (c : ℕ) → c < 12 → length (a.given c) ≡ count_on h (64 * blocks) c
    pub all : 64 * blocks + a.next.pending.count ≡ p + n

  closing_counted : (p n : ℕ) (r : State L) (ms : List Moment) → r.pending.count ≡ p + n → r.pending.count ≤ 64 → Long r.pending.places
      → Counted r.setup p n (closing L r ms)
  closing_counted p n r ms e few long = go (leb 64 r.pending.count) refl
    where
      k : ℕ
      k = r.pending.count

      block : Channels
      block = sounding r.setup (floats r.pending.places)

      go : (b : Bool) → leb 64 k ≡ b → Counted r.setup p n (closing L r ms)
      go true q =
          let m = leb-true 64 k q in
          record {
            blocks = 1;
            length = λ c l. ap (λ (b : Bool). length (cond b (limited r.limiter.gain block) none c)) q ∙ length_limited r.limiter.gain block c
                ∙ length_sounding r.setup (floats r.pending.places) 64 c (length_map (of_bits binary32) (r.pending.places c) ∙ long c l);
            all = ap (λ (b : Bool). 64 * 1 + cond b 0 k) q ∙ (omega arith);
          }
      go false q =
          record {
            blocks = 0;
            length = λ c l. ap (λ (b : Bool). length (cond b (limited r.limiter.gain block) none c)) q ∙ sym (none_count r.setup c);
            all = ap (λ (b : Bool). 64 * 0 + cond b 0 k) q ∙ (omega arith);
          }

  pub framed_counted : (f : Frame L.Update) (n t : ℕ) (r : State L) → Long r.pending.places → r.pending.count < 64
      → Counted r.setup r.pending.count n (framed L f n t r)
  framed_counted f zero t r long few = record { blocks = 0; length = λ c l. sym (none_count r.setup c); all = omega arith }
  framed_counted f (suc n) t r long few =
      let x = sampled L f t r in
      let y = framed L f n (suc t) x.next in
      let d = subst (λ (h : Setup). Counted h x.next.pending.count n y) (setup_kept L f 1 t r)
      (framed_counted f n (suc t) x.next laid_long (below (s.pending.count + 1) (leb 64 (s.pending.count + 1)) refl)) in
      record {
        blocks = a.blocks + d.blocks;
        length = λ c l. length-append (x.given c) (y.given c) ∙ count_sum r.setup (64 * a.blocks) (64 * d.blocks) c (a.length c l) (d.length c l)
            ∙ ap (λ (n : ℕ). count_on r.setup n c) (sums a.blocks d.blocks);
        all = total a.blocks d.blocks x.next.pending.count y.next.pending.count s.pending.count r.pending.count a.all d.all same;
      }
    where
      s : State L
      s = slotted L (updated L t f.updates r)

      m : Moment
      m = moment L f t s.setup s.meta

      same : s.pending.count ≡ r.pending.count
      same = ap (λ (p : Pending). p.count) (untouched L t f.updates r).pending

      laid_long : Long (λ c. laid s.pending.count (sounding s.setup (row m s.filter) c) (s.pending.places c))
      laid_long c l = length_laid s.pending.count (sounding s.setup (row m s.filter) c) (s.pending.places c)
          ∙ ap (λ (p : Pending). length (p.places c)) (untouched L t f.updates r).pending ∙ long c l

      a : Counted r.setup s.pending.count 1 (sampled L f t r)
      a =
          subst (λ (h : Setup). Counted h s.pending.count 1 (sampled L f t r)) (untouched L t f.updates r).setup
          (closing_counted s.pending.count 1 (settled L 1 (next s.filter (fed m)) (sounding s.setup (row m s.filter)) s) (m ∷ []) refl (omega (arith, same)) laid_long)

      sums : (i j : ℕ) → 64 * i + 64 * j ≡ 64 * (i + j)
      sums i j = omega arith

      total : (i j u v w z : ℕ) → 64 * i + u ≡ w + 1 → 64 * j + v ≡ u + n → w ≡ z → 64 * (i + j) + v ≡ z + suc n
      total i j u v w z p q e = omega arith
