-- A push that completes no block, on any renderer: its samples stand behind those that waited, and every other place keeps its bits. Assumes nothing.
use mathlib.Core.Path.{◌≡◌, refl, sym, ap, ◌∙◌}
use mathlib.Core.Logic.{◌⊎◌, inl, inr}
use mathlib.Core.Bool.{Bool, true, false, cond}
use mathlib.Core.List.{List}
use Prim.Native.Nat.{ℕ, zero, suc, ◌+◌, ◌≤◌, ◌<◌}
use native.Mathlib.Nat.{not-suc-le-zero, le_of_lt, add-zero}
use native.Mathlib.Omega.{arith}
use borrow.Author.Tests.{lt-leb, eqb-true, eqb-false}
use lib.Dec.{T, eqb}
use lib.ListN.{length, get_or, set, length-set}
use lib.Seq.{get_or-set_same, get_or-set_other}
use lib.Ieee.{binary32, to_bits}
use Rattle.panning.specs.Setup.{present}
use Rattle.rules.specs.Leaves.{Leaves}
use Rattle.rules.specs.Samples.{State, opened}
use Rattle.rules.specs.Refusals.{Args}
use Rattle.rules.specs.Calls.{frame_of}
use Rattle.rules.specs.Sounds.{before, sound_at}
use Rattle.rules.proofs.EachOf.{T_true}
use Rattle.rules.proofs.OneMore.{next_is, places_are}
use Rattle.rules.proofs.Unread.{framed_kept}

module _ (L : Leaves) (r : State L) (a : Args) (open_block : r.pending.count + a.samples < 64) (long : (c : ℕ) → c < 12 → length (r.pending.places c) ≡ 64) where
  abbrev p : ℕ
  p = r.pending.count

  abbrev s : ℕ → State L
  s t = before L r a t

  -- after t samples
  pub record Behind (t : ℕ) : Type 0 where
    pub count : (s t).pending.count ≡ p + t
    pub size : (c : ℕ) → c < 12 → length ((s t).pending.places c) ≡ 64
    pub new : (c i : ℕ) → c < 12 → T (present r.setup.layout c) → i < t → get_or ((s t).pending.places c) (p + i) 0 ≡ to_bits binary32 (sound_at L r a c i)
    pub others : (c i : ℕ) → (i < p) ⊎ (p + t ≤ i) → get_or ((s t).pending.places c) i 0 ≡ get_or (r.pending.places c) i 0
    -- of a channel that the hall lacks all stay
    pub absent : (c : ℕ) → present r.setup.layout c ≡ false → (s t).pending.places c ≡ r.pending.places c

  stay : (t c : ℕ) → present r.setup.layout c ≡ false → (s t).pending.places c ≡ r.pending.places c
  stay t = framed_kept L (frame_of L r a) t 0 (opened L a.rate r)

  start : Behind 0
  start = record { count = sym (add-zero p); size = long; new = λ c i l n h. absurd (not-suc-le-zero h); others = λ c i h. refl; absent = stay 0 }

  module _ (t : ℕ) (h : t < a.samples) (b : Behind t) where
    -- the sample is laid behind those before it
    laid_at : (c : ℕ) → present r.setup.layout c ≡ true → (s (suc t)).pending.places c ≡ set ((s t).pending.places c) (p + t) (to_bits binary32 (sound_at L r a c t))
    laid_at c here =
        ap (λ (x : State L). x.pending.places c) (next_is L r a t h)
        ∙ places_are L r a t c here
        ∙ ap (λ (k : ℕ). set ((s t).pending.places c) k (to_bits binary32 (sound_at L r a c t))) b.count

    stays_at : (c : ℕ) → present r.setup.layout c ≡ false → (s (suc t)).pending.places c ≡ (s t).pending.places c
    stays_at c e = stay (suc t) c e ∙ sym (stay t c e)

    -- and the block stays open
    one_more : (s (suc t)).pending.count ≡ p + suc t
    one_more =
        let e = b.count in
        ap (λ (x : State L). x.pending.count) (next_is L r a t h)
        ∙ ap (λ (whole : Bool). cond whole 0 ((s t).pending.count + 1)) (lt-leb 64 ((s t).pending.count + 1) (omega arith))
        ∙ (omega arith)

    elsewhere : (c i : ℕ) → (i ≡ p + t → ⊥) → get_or ((s (suc t)).pending.places c) i 0 ≡ get_or ((s t).pending.places c) i 0
    elsewhere c i n = by (present r.setup.layout c) refl
      where
        by : (b : Bool) → present r.setup.layout c ≡ b → get_or ((s (suc t)).pending.places c) i 0 ≡ get_or ((s t).pending.places c) i 0
        by true e = ap (λ (ws : List ℕ). get_or ws i 0) (laid_at c e) ∙ get_or-set_other ((s t).pending.places c) (p + t) i (to_bits binary32 (sound_at L r a c t)) 0 n
        by false e = ap (λ (ws : List ℕ). get_or ws i 0) (stays_at c e)

    new_at : (c i : ℕ) → c < 12 → T (present r.setup.layout c) → i < suc t → get_or ((s (suc t)).pending.places c) (p + i) 0 ≡ to_bits binary32 (sound_at L r a c i)
    new_at c i l here m = by (eqb i t) refl
      where
        by : (x : Bool) → eqb i t ≡ x → get_or ((s (suc t)).pending.places c) (p + i) 0 ≡ to_bits binary32 (sound_at L r a c i)
        by true e =
            let z = b.size c l in
            rw (eqb-true i t e)
            (ap (λ (ws : List ℕ). get_or ws (p + t) 0) (laid_at c (T_true (present r.setup.layout c) here))
            ∙ get_or-set_same ((s t).pending.places c) (p + t) (to_bits binary32 (sound_at L r a c t)) 0 (omega arith))
        by false e = let d = eqb-false i t e in elsewhere c (p + i) (λ q. d (omega arith)) ∙ b.new c i l here (omega (arith, d))

    others_at : (c i : ℕ) → (i < p) ⊎ (p + suc t ≤ i) → get_or ((s (suc t)).pending.places c) i 0 ≡ get_or (r.pending.places c) i 0
    others_at c i (inl m) = elsewhere c i (λ q. omega arith) ∙ b.others c i (inl m)
    others_at c i (inr m) = elsewhere c i (λ q. omega arith) ∙ b.others c i (inr (omega arith))

    long_at : (c : ℕ) → c < 12 → length ((s (suc t)).pending.places c) ≡ 64
    long_at c l = by (present r.setup.layout c) refl
      where
        by : (d : Bool) → present r.setup.layout c ≡ d → length ((s (suc t)).pending.places c) ≡ 64
        by true e = ap length (laid_at c e) ∙ length-set ((s t).pending.places c) (p + t) (to_bits binary32 (sound_at L r a c t)) ∙ b.size c l
        by false e = ap length (stays_at c e) ∙ b.size c l

    after : Behind (suc t)
    after =
        record {
          count = one_more;
          size = long_at;
          new = new_at;
          others = others_at;
          absent = stay (suc t);
        }

  pub behind : (t : ℕ) → t ≤ a.samples → Behind t
  behind zero h = start
  behind (suc t) h = after t h (behind t (le_of_lt h))
