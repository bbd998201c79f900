-- What a store leaves as it was. `Kept s t lo hi`: t is s but for bytes from `lo` up to `hi`. A number, or a run of words,
-- before `lo` or from `hi` on reads the same in both. Assumes nothing.
use mathlib.Core.Path.{◌≡◌, refl, ap₂, ◌∙◌}
use mathlib.Core.List.{List, [], ◌∷◌}
use Prim.Native.Nat.{ℕ, zero, suc, ◌+◌, ◌*◌, ◌/◌, ◌%◌, ◌^◌, ◌<◌, ◌≤◌}
use native.Mathlib.Omega.{arith}
use lib.ListN.{length, get_or, set}
use lib.Seq.{get_or-set_other}
use Rattle.words.specs.Words.{number, with_number, words_at, with_words, with_word}

pub record Kept (s t : List ℕ) (lo hi : ℕ) : Type 0 where
  pub before : (k : ℕ) → k < lo → get_or t k 0 ≡ get_or s k 0
  pub past : (k : ℕ) → hi ≤ k → get_or t k 0 ≡ get_or s k 0

-- two stores into one range
pub kept_twice : {s t u : List ℕ} {lo hi lo' hi' : ℕ} (from to : ℕ) → Kept s t lo hi → Kept t u lo' hi' → from ≤ lo → from ≤ lo' → hi ≤ to → hi' ≤ to → Kept s u from to
kept_twice from to a b l l' h h' =
    record { before = λ k q. b.before k (omega arith) ∙ a.before k (omega arith); past = λ k q. b.past k (omega arith) ∙ a.past k (omega arith) }

nothing_stored : (s : List ℕ) (lo hi : ℕ) → Kept s s lo hi
nothing_stored s lo hi = record { before = λ k h. refl; past = λ k h. refl }

pub byte_keeps : (s : List ℕ) (at b : ℕ) → Kept s (set s at b) at (at + 1)
byte_keeps s at b = record { before = λ k h. get_or-set_other s at k b 0 (λ e. omega arith); past = λ k h. get_or-set_other s at k b 0 (λ e. omega arith) }

pub number_keeps : (s : List ℕ) (at n v : ℕ) → Kept s (with_number s at n v) at (at + n)
unfolding with_number
number_keeps s at zero v = nothing_stored s at (at + 0)
number_keeps s at (suc n) v =
    kept_twice at (at + suc n) (number_keeps s at n v) (byte_keeps (with_number s at n v) (at + n) (v / 256 ^ n % 256)) (omega arith) (omega arith) (omega arith) (omega arith)

pub words_keep : (s : List ℕ) (at : ℕ) (ws : List ℕ) → Kept s (with_words s at ws) at (at + 4 * length ws)
words_keep s at [] = nothing_stored s at (at + 0)
words_keep s at (w ∷ ws) =
    kept_twice at (at + 4 * suc (length ws)) (number_keeps s at 4 w) (words_keep (with_word s at w) (at + 4) ws) (omega arith) (omega arith) (omega arith) (omega arith)

-- a number is that of its bytes
number_of_bytes : (s t : List ℕ) (at n : ℕ) → ((i : ℕ) → i < n → get_or t (at + i) 0 ≡ get_or s (at + i) 0) → number t at n ≡ number s at n
unfolding number
number_of_bytes s t at zero h = refl
number_of_bytes s t at (suc n) h = ap₂ (λ (x b : ℕ). x + b * 256 ^ n) (number_of_bytes s t at n (λ i q. h i (omega arith))) (h n (omega arith))

module _ {s t : List ℕ} {lo hi : ℕ} (kept : Kept s t lo hi) where
  pub reads_before : (at n : ℕ) → at + n ≤ lo → number t at n ≡ number s at n
  reads_before at n h = number_of_bytes s t at n (λ i q. kept.before (at + i) (omega arith))

  pub reads_past : (at n : ℕ) → hi ≤ at → number t at n ≡ number s at n
  reads_past at n h = number_of_bytes s t at n (λ i q. kept.past (at + i) (omega arith))

  pub words_before : (at n : ℕ) → at + 4 * n ≤ lo → words_at t at n ≡ words_at s at n
  words_before at zero h = refl
  words_before at (suc n) h = ap₂ (λ (x : ℕ) (xs : List ℕ). x ∷ xs) (reads_before at 4 (omega arith)) (words_before (at + 4) n (omega arith))

  pub words_past : (at n : ℕ) → hi ≤ at → words_at t at n ≡ words_at s at n
  words_past at zero h = refl
  words_past at (suc n) h = ap₂ (λ (x : ℕ) (xs : List ℕ). x ∷ xs) (reads_past at 4 h) (words_past (at + 4) n (omega arith))
