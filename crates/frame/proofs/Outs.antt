-- What is written behind other samples: block after block is all at once. Assumes nothing.
use Prim.Native.Nat.{ℕ, zero, suc, ◌+◌, ◌*◌, ◌/◌, ◌%◌, ◌^◌, ◌≤◌, ◌<◌}
use native.Mathlib.Nat.{suc-mul}
use native.Mathlib.Omega.{arith}
use mathlib.Core.Path.{◌≡◌, refl, sym, ap, ◌∙◌}
use mathlib.Core.Logic.{◌⊎◌, inl, inr}
use mathlib.Core.List.{List, [], ◌∷◌, ◌++◌, map, map-append, append-nil}
use lib.ListN.{length, set}
use lib.Seq.{set_comm}
use lib.Ieee.{Float, binary32, to_bits}
use Rattle.words.specs.Words.{with_number, with_word, with_words}
use Rattle.words.proofs.Runs.{run_length_kept}
use Rattle.rules.specs.Parts.{Channels, none, joined}
use Rattle.rules.specs.BlockCalls.{written_from, written}
use Rattle.rules.proofs.Theorems.{length_map}
use Rattle.rendering.specs.Out.{behind_from, behind}

-- ---- stores into ranges that do not meet, in either order

set_swap : (s : List ℕ) (at n v j b : ℕ) → at + n ≤ j → set (with_number s at n v) j b ≡ with_number (set s j b) at n v
unfolding with_number
set_swap s at zero v j b h = refl
set_swap s at (suc n) v j b h =
    set_comm (with_number s at n v) (at + n) j (v / 256 ^ n % 256) b (λ e. omega arith)
    ∙ ap (λ (l : List ℕ). set l (at + n) (v / 256 ^ n % 256)) (set_swap s at n v j b (omega arith))

number_swap : (s : List ℕ) (at n v q m w : ℕ) → at + n ≤ q → with_number (with_number s at n v) q m w ≡ with_number (with_number s q m w) at n v
unfolding with_number
number_swap s at n v q zero w h = refl
number_swap s at n v q (suc m) w h =
    ap (λ (l : List ℕ). set l (q + m) (w / 256 ^ m % 256)) (number_swap s at n v q m w h) ∙ set_swap (with_number s q m w) at n v (q + m) (w / 256 ^ m % 256) (omega arith)

word_swap : (s : List ℕ) (at v q : ℕ) (ws : List ℕ) → at + 4 ≤ q → with_words (with_word s at v) q ws ≡ with_word (with_words s q ws) at v
word_swap s at v q [] h = refl
word_swap s at v q (w ∷ ws) h = ap (λ (l : List ℕ). with_words l (q + 4) ws) (number_swap s at 4 v q 4 w h) ∙ word_swap (with_word s q w) at v (q + 4) ws (omega arith)

pub words_swap : (s : List ℕ) (at : ℕ) (vs : List ℕ) (q : ℕ) (ws : List ℕ) → at + 4 * length vs ≤ q → with_words (with_words s at vs) q ws ≡ with_words (with_words s q ws) at vs
words_swap s at [] q ws h = refl
words_swap s at (v ∷ vs) q ws h =
    words_swap (with_word s at v) (at + 4) vs q ws (omega arith) ∙ ap (λ (l : List ℕ). with_words l (at + 4) vs) (word_swap s at v q ws (omega arith))

-- one run behind the other
pub words_joined : (s : List ℕ) (at : ℕ) (vs ws : List ℕ) → with_words (with_words s at vs) (at + 4 * length vs) ws ≡ with_words s at (vs ++ ws)
words_joined s at [] ws = ap (λ (k : ℕ). with_words s k ws) (let e : at + 4 * 0 ≡ at = omega arith in e)
words_joined s at (v ∷ vs) ws =
    ap (λ (k : ℕ). with_words (with_words (with_word s at v) (at + 4) vs) k ws) (let e : at + 4 * suc (length vs) ≡ at + 4 + 4 * length vs = omega arith in e)
    ∙ words_joined (with_word s at v) (at + 4) vs ws

-- ---- the output

-- a run before channel c, and the m channels from c on
before_channels : (m c k : ℕ) (a : Channels) (stride : ℕ) (out : List ℕ) (at : ℕ) (ws : List ℕ) → at + 4 * length ws ≤ 4 * (c * stride + k)
    → with_words (behind_from m c k a stride out) at ws ≡ behind_from m c k a stride (with_words out at ws)
before_channels zero c k a stride out at ws h = refl
before_channels (suc m) c k a stride out at ws h =
    let next : 4 * (c * stride + k) ≤ 4 * (suc c * stride + k) = let e = suc-mul c stride in omega arith in
    let q = 4 * (c * stride + k) in
    let xs = map (to_bits binary32) (a c) in
    before_channels m (suc c) k a stride (with_words out q xs) at ws (omega arith) ∙ ap (behind_from m (suc c) k a stride) (sym (words_swap out at ws q xs h))

-- where a channel has n samples or nothing is behind it
module _ (a d : Channels) (k n stride : ℕ) (long : (c : ℕ) → c < 12 → (length (a c) ≡ n) ⊎ (d c ≡ [])) (room : (c : ℕ) → c < 12 → k + n + length (d c) ≤ stride) where
  behind_from_is : (m c : ℕ) (out : List ℕ) → c + m ≤ 12 → behind_from m c (k + n) d stride (behind_from m c k a stride out) ≡ behind_from m c k (joined a d) stride out
  behind_from_is zero c out h = refl
  behind_from_is (suc m) c out h =
      ap (behind_from m (suc c) (k + n) d stride)
      (before_channels m (suc c) k a stride (with_words out at xs) (4 * (c * stride + (k + n))) ys past ∙ ap (behind_from m (suc c) k a stride) here)
      ∙ behind_from_is m (suc c) (with_words out at (map (to_bits binary32) (a c ++ d c))) (omega arith)
    where
      at : ℕ
      at = 4 * (c * stride + k)

      xs : List ℕ
      xs = map (to_bits binary32) (a c)

      ys : List ℕ
      ys = map (to_bits binary32) (d c)

      past : 4 * (c * stride + (k + n)) + 4 * length ys ≤ 4 * (suc c * stride + k)
      past = let e = suc-mul c stride in let l = length_map (to_bits binary32) (d c) in let r = room c (omega arith) in omega arith

      here : with_words (with_words out at xs) (4 * (c * stride + (k + n))) ys ≡ with_words out at (map (to_bits binary32) (a c ++ d c))
      here = elim (long c (omega arith)) [
        | inl r ↦
            let l = length_map (to_bits binary32) (a c) in
            ap (λ (q : ℕ). with_words (with_words out at xs) q ys) (let e : 4 * (c * stride + (k + n)) ≡ at + 4 * length xs = omega arith in e)
            ∙ words_joined out at xs ys
            ∙ ap (with_words out at) (sym (map-append (to_bits binary32) (a c) (d c)))
        | inr e ↦
            ap (λ (us : List Float). with_words (with_words out at xs) (4 * (c * stride + (k + n))) (map (to_bits binary32) us)) e
            ∙ ap (λ (us : List Float). with_words out at (map (to_bits binary32) us)) (sym (append-nil (a c)) ∙ ap (λ (us : List Float). a c ++ us) (sym e))
      ]

  -- samples behind k others, and more behind these
  pub behind_joined : (out : List ℕ) → behind (k + n) d stride (behind k a stride out) ≡ behind k (joined a d) stride out
  unfolding behind
  behind_joined out = behind_from_is 12 0 out (omega arith)

behind_length : (m c k : ℕ) (a : Channels) (stride : ℕ) (out : List ℕ) → length (behind_from m c k a stride out) ≡ length out
behind_length zero c k a stride out = refl
behind_length (suc m) c k a stride out =
    behind_length m (suc c) k a stride (with_words out (4 * (c * stride + k)) (map (to_bits binary32) (a c)))
    ∙ run_length_kept out (4 * (c * stride + k)) (map (to_bits binary32) (a c))

pub length_behind : (k : ℕ) (a : Channels) (stride : ℕ) (out : List ℕ) → length (behind k a stride out) ≡ length out
unfolding behind
length_behind k a stride out = behind_length 12 0 k a stride out

from_start : (m c : ℕ) (a : Channels) (stride : ℕ) (out : List ℕ) → behind_from m c 0 a stride out ≡ written_from m c a stride out
from_start zero c a stride out = refl
from_start (suc m) c a stride out =
    ap (λ (q : ℕ). behind_from m (suc c) 0 a stride (with_words out (4 * q) (map (to_bits binary32) (a c)))) (let e : c * stride + 0 ≡ c * stride = omega arith in e)
    ∙ from_start m (suc c) a stride (with_words out (4 * (c * stride)) (map (to_bits binary32) (a c)))

pub behind_nothing : (a : Channels) (stride : ℕ) (out : List ℕ) → behind 0 a stride out ≡ written a stride out
unfolding behind written
behind_nothing a stride out = from_start 12 0 a stride out

pub behind_none : (k stride : ℕ) (out : List ℕ) → behind k none stride out ≡ out
unfolding behind
behind_none k stride out = refl
