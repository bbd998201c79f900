-- The ready samples in the output: what was written for a channel is read there, every other byte stays, and the output is as long as before. Assumes nothing.
use mathlib.Core.Path.{◌≡◌, refl, sym, ap, ◌∙◌, subst}
use mathlib.Core.Logic.{◌⊎◌, inl, inr, ⊎_elim}
use mathlib.Core.List.{List, [], ◌∷◌, map}
use Prim.Native.Nat.{ℕ, zero, suc, ◌+◌, ◌*◌, ◌≤◌, ◌<◌, zero-le}
use native.Mathlib.Nat.{not-suc-le-zero, eq-or-lt_of_le, mul-le-mul_right, le_refl}
use native.Mathlib.Omega.{arith}
use lib.ListN.{length, get_or, get_or-map}
use lib.Ieee.{Float, binary32, to_bits, of_bits}
use lib.Ieee.Bits.{of_bits-to_bits, to_bits-lt}
use Rattle.ieee.specs.Units as units
use Rattle.ieee.specs.Bounds.{All}
use Rattle.words.specs.Words.{Words, word, float_at, words_at, with_words}
use Rattle.words.proofs.Back.{words_read_back}
use Rattle.words.proofs.Beside.{words_keep, reads_before}
use Rattle.words.proofs.Runs.{run_length_kept}
use Rattle.ieee.proofs.Grid.{le_or_lt}
use Rattle.rules.specs.Parts.{0·0, Tame, Channels}
use Rattle.rules.specs.BlockCalls.{written_from, written}
use Rattle.rules.proofs.EachOf.{all_at, length_map}
use Rattle.rules.proofs.Limited.{tame}

-- one word of a run
word_at : (s : List ℕ) (at n i : ℕ) (d : ℕ) → i < n → get_or (words_at s at n) i d ≡ word s (at + 4 * i)
word_at s at zero i d h = absurd (not-suc-le-zero h)
word_at s at (suc n) zero d h = ap (word s) (omega arith)
word_at s at (suc n) (suc i) d h = word_at s (at + 4) n i d (omega arith) ∙ ap (word s) (omega arith)

pub bits_words : (xs : List Float) → All units.Unitary xs → Words (map (to_bits binary32) xs)
bits_words [] h = tt
bits_words (x ∷ xs) h = (to_bits-lt binary32 x h.0.f32.fit, bits_words xs h.1)

module _ (given : Channels) (stride : ℕ) (n : ℕ → ℕ) (few : (c : ℕ) → n c ≤ stride) where
  written_length : (k c : ℕ) (out : List ℕ) → length (written_from k c given stride out) ≡ length out
  written_length zero c out = refl
  written_length (suc k) c out =
      let ws = map (to_bits binary32) (given c) in
      written_length k (suc c) (with_words out (4 * (c * stride)) ws) ∙ run_length_kept out (4 * (c * stride)) ws

  -- what lies before the first channel that is written
  before : (k c : ℕ) (out : List ℕ) (at : ℕ) → at + 4 ≤ 4 * (c * stride) → word (written_from k c given stride out) at ≡ word out at
  before zero c out at h = refl
  before (suc k) c out at h =
      let ws = map (to_bits binary32) (given c) in
      let m : c * stride ≤ suc c * stride = mul-le-mul_right stride (let l : c ≤ suc c = omega arith in l) in
      before k (suc c) (with_words out (4 * (c * stride)) ws) at (omega arith) ∙ reads_before (words_keep out (4 * (c * stride)) ws) at 4 h

  module _ (long : (c : ℕ) → c < 12 → length (given c) ≡ n c) where
    -- a byte outside of every channel's samples
    outside : (k c : ℕ) (out : List ℕ) (at : ℕ) → c + k ≤ 12 → ((d : ℕ) → c ≤ d → d < c + k → (at < 4 * (d * stride)) ⊎ (4 * (d * stride) + 4 * n d ≤ at))
        → get_or (written_from k c given stride out) at 0 ≡ get_or out at 0
    outside zero c out at l h = refl
    outside (suc k) c out at l h =
        let ws = map (to_bits binary32) (given c) in
        let e : length ws ≡ n c = length_map (to_bits binary32) (given c) ∙ long c (omega arith) in
        let kept = words_keep out (4 * (c * stride)) ws in
        outside k (suc c) (with_words out (4 * (c * stride)) ws) at (omega arith) (λ d a b. h d (omega arith) (omega arith))
        ∙ ⊎_elim (λ (b : at < 4 * (c * stride)). kept.before at b) (λ (b : 4 * (c * stride) + 4 * n c ≤ at). kept.past at (omega arith)) (h c (le_refl c) (omega arith))

    pub written_beside : (out : List ℕ) (c i : ℕ) → c < 12 → 4 * n c ≤ i → i < 4 * stride
        → get_or (written given stride out) (4 * (c * stride) + i) 0 ≡ get_or out (4 * (c * stride) + i) 0
    unfolding written
    written_beside out c i l h u = outside 12 0 out (4 * (c * stride) + i) (le_refl 12) (λ d a b. apart d (le_or_lt d c))
      where
        apart : (d : ℕ) → (d ≤ c) ⊎ (c < d) → (4 * (c * stride) + i < 4 * (d * stride)) ⊎ (4 * (d * stride) + 4 * n d ≤ 4 * (c * stride) + i)
        apart d (inl a) = elim (eq-or-lt_of_le a) [
          | inl e ↦ subst (λ (k : ℕ). (4 * (c * stride) + i < 4 * (k * stride)) ⊎ (4 * (k * stride) + 4 * n k ≤ 4 * (c * stride) + i)) (sym e) (inr (omega arith))
          | inr e ↦ let m : suc d * stride ≤ c * stride = mul-le-mul_right stride e in let f = few d in inr (omega arith)
        ]
        apart d (inr a) = let m : suc c * stride ≤ d * stride = mul-le-mul_right stride a in inl (omega arith)

    pub written_past : (out : List ℕ) (i : ℕ) → 48 * stride ≤ i → get_or (written given stride out) i 0 ≡ get_or out i 0
    unfolding written
    written_past out i h = outside 12 0 out i (le_refl 12) (λ d a b. let m : suc d * stride ≤ 12 * stride = mul-le-mul_right stride b in let f = few d in inr (omega arith))

  module _ (bits : (c : ℕ) → c < 12 → Words (map (to_bits binary32) (given c))) (long : (c : ℕ) → c < 12 → length (given c) ≡ n c) where
    -- the channel that is written first
    first : (c : ℕ) (out : List ℕ) (i : ℕ) → c < 12 → i < n c → 4 * (suc c * stride) ≤ length out
        → word (with_words out (4 * (c * stride)) (map (to_bits binary32) (given c))) (4 * (c * stride) + 4 * i) ≡ to_bits binary32 (get_or (given c) i 0·0)
    first c out i l h r =
        let ws = map (to_bits binary32) (given c) in
        let e : length ws ≡ n c = length_map (to_bits binary32) (given c) ∙ long c l in
        let f = few c in
        sym (word_at (with_words out (4 * (c * stride)) ws) (4 * (c * stride)) (length ws) i (to_bits binary32 0·0) (omega arith))
        ∙ ap (λ (l : List ℕ). get_or l i (to_bits binary32 0·0)) (words_read_back out (4 * (c * stride)) ws (omega arith) (bits c l))
        ∙ get_or-map (to_bits binary32) (given c) i 0·0

    reads : (k c d : ℕ) (out : List ℕ) (i : ℕ) → c ≤ d → d < c + k → d < 12 → i < n d → 4 * ((c + k) * stride) ≤ length out
        → word (written_from k c given stride out) (4 * (d * stride + i)) ≡ to_bits binary32 (get_or (given d) i 0·0)
    reads zero c d out i l u t h r = absurd (omega arith)
    reads (suc k) c d out i l u t h r = elim (eq-or-lt_of_le l) [
      | inl e ↦ here e
      | inr q ↦ reads k (suc c) d next i q (omega arith) t h room
    ]
      where
        ws : List ℕ
        ws = map (to_bits binary32) (given c)

        next : List ℕ
        next = with_words out (4 * (c * stride)) ws

        here : c ≡ d → word (written_from k (suc c) given stride next) (4 * (d * stride + i)) ≡ to_bits binary32 (get_or (given d) i 0·0)
        here e =
            let m : suc c * stride ≤ (c + suc k) * stride = mul-le-mul_right stride (let l : suc c ≤ c + suc k = omega arith in l) in
            let b : i < n c = subst (λ (d : ℕ). i < n d) (sym e) h in
            let f = few c in
            subst (λ (d : ℕ). word (written_from k (suc c) given stride next) (4 * (d * stride + i)) ≡ to_bits binary32 (get_or (given d) i 0·0)) e
            (before k (suc c) next (4 * (c * stride + i)) (omega arith)
            ∙ ap (word next) (let p : 4 * (c * stride + i) ≡ 4 * (c * stride) + 4 * i = omega arith in p)
            ∙ first c out i (omega arith) b (omega arith))

        room : 4 * ((suc c + k) * stride) ≤ length next
        room =
            let e = run_length_kept out (4 * (c * stride)) ws in
            let m : (suc c + k) * stride ≡ (c + suc k) * stride = ap (λ (z : ℕ). z * stride) (let s : suc c + k ≡ c + suc k = omega arith in s) in
            omega arith

    -- sample i of channel c
    pub written_reads : (out : List ℕ) → 48 * stride ≤ length out → (c i : ℕ) → c < 12 → i < n c
        → word (written given stride out) (4 * (c * stride + i)) ≡ to_bits binary32 (get_or (given c) i 0·0)
    unfolding written
    written_reads out r c i l h = reads 12 0 c out i zero-le l l h (omega arith)

  pub written_tame : ((c : ℕ) → c < 12 → All units.Unitary (given c)) → ((c : ℕ) → c < 12 → length (given c) ≡ n c) → (out : List ℕ) → 48 * stride ≤ length out
      → (c i : ℕ) → c < 12 → i < n c → Tame (float_at (written given stride out) (4 * (c * stride + i)))
  unfolding float_at
  written_tame tamed long out r c i l h =
      let x = get_or (given c) i 0·0 in
      let q = all_at units.Unitary (given c) i 0·0 (let e = long c l in omega arith) (tamed c l) in
      let bits : (c : ℕ) → c < 12 → Words (map (to_bits binary32) (given c)) = λ c l. bits_words (given c) (tamed c l) in
      subst Tame (sym (ap (of_bits binary32) (written_reads bits long out r c i l h) ∙ of_bits-to_bits binary32 x q.f32.fit)) (tame x q)

pub length_written : (given : Channels) (stride : ℕ) (out : List ℕ) → length (written given stride out) ≡ length out
unfolding written
length_written given stride out = written_length given stride (λ c. 0) (λ c. zero-le) 12 0 out
