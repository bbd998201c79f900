-- What holds of each element of a list, and of the lists of places. Assumes nothing.
use mathlib.Core.Path.{◌≡◌, refl, ap, ap₂, ◌∙◌, subst}
use mathlib.Core.Logic.{◌⊎◌, inl, inr}
use mathlib.Core.Bool.{Bool, true, false, cond, ◌||◌}
use mathlib.Core.List.{List, [], ◌∷◌, ◌++◌, map}
use Prim.Native.Nat.{ℕ, zero, suc, ◌+◌, ◌≤◌, ◌<◌, zero-le}
use native.Mathlib.Nat.{not-suc-le-zero, le_of_suc-le-suc, le_refl}
use borrow.Author.Tests.{lt-ltb, leb-false}
use lib.Dec.{T, leb, lit<}
use lib.ListN.{length, get_or, set, take, replicate, length-set}
use lib.Ieee.{Float, binary32, to_bits}
use Rattle.ieee.specs.Bounds.{All}
use Rattle.panning.specs.Setup.{Setup, present}
use Rattle.rules.specs.Parts.{Channels, laid, zeros}
use Rattle.rules.specs.Samples.{sounding}
use Rattle.rules.specs.Promises.{count_on}

-- P in both branches
pub either {ℓ} : {A : Type ℓ} (P : A → Type 0) (b : Bool) {x y : A} → P x → P y → P (cond b x y)
either P true p q = p
either P false p q = q

-- two that are related, by one test
pub both {ℓ} : {A : Type ℓ} (R : A → A → Type 0) (b : Bool) {x y x' y' : A} → R x x' → R y y' → R (cond b x y) (cond b x' y')
both R true p q = p
both R false p q = q

pub T_true : (b : Bool) → T b → b ≡ true
T_true true t = refl
T_true false t = absurd t

pub neither : (a b : Bool) → (a || b) ≡ false → (a ≡ false) × (b ≡ false)
neither true b e = absurd (subst T e tt)
neither false b e = (refl, e)

module _ {A : Type 0} (P : A → Type 0) where
  pub all_append : (xs ys : List A) → All P xs → All P ys → All P (xs ++ ys)
  all_append [] ys h k = k
  all_append (x ∷ xs) ys h k = (h.0, all_append xs ys h.1 k)

  all_set : (xs : List A) (k : ℕ) (x : A) → All P xs → P x → All P (set xs k x)
  all_set [] k x h p = tt
  all_set (y ∷ xs) zero x h p = (p, h.1)
  all_set (y ∷ xs) (suc k) x h p = (h.0, all_set xs k x h.1 p)

  pub all_same : (n : ℕ) (x : A) → P x → All P (replicate n x)
  all_same zero x p = tt
  all_same (suc n) x p = (p, all_same n x p)

  pub all_take : (n : ℕ) (xs : List A) → All P xs → All P (take n xs)
  all_take zero xs h = tt
  all_take (suc n) [] h = tt
  all_take (suc n) (x ∷ xs) h = (h.0, all_take n xs h.1)

  pub all_at : (xs : List A) (i : ℕ) (d : A) → i < length xs → All P xs → P (get_or xs i d)
  all_at [] i d l h = absurd (not-suc-le-zero l)
  all_at (x ∷ xs) zero d l h = h.0
  all_at (x ∷ xs) (suc i) d l h = all_at xs i d (le_of_suc-le-suc l) h.1

  -- of a default too
  pub all_at_or : (xs : List A) (i : ℕ) (d : A) → P d → All P xs → P (get_or xs i d)
  all_at_or [] i d p h = p
  all_at_or (x ∷ xs) zero d p h = h.0
  all_at_or (x ∷ xs) (suc i) d p h = all_at_or xs i d p h.1

pub all_map : {A B : Type 0} (P : B → Type 0) (f : A → B) (xs : List A) → All (λ (x : A). P (f x)) xs → All P (map f xs)
all_map P f [] h = tt
all_map P f (x ∷ xs) h = (h.0, all_map P f xs h.1)

pub length_map : {A B : Type 0} (f : A → B) (xs : List A) → length (map f xs) ≡ length xs
length_map f [] = refl
length_map f (x ∷ xs) = ap suc (length_map f xs)

-- ---- bits laid into places
pub all_laid : (P : ℕ → Type 0) (k : ℕ) (xs : List Float) (ws : List ℕ) → All (λ (x : Float). P (to_bits binary32 x)) xs → All P ws → All P (laid k xs ws)
all_laid P k [] ws h p = p
all_laid P k (x ∷ xs) ws h p = all_laid P (suc k) xs (set ws k (to_bits binary32 x)) h.1 (all_set P ws k (to_bits binary32 x) p h.0)

pub length_laid : (k : ℕ) (xs : List Float) (ws : List ℕ) → length (laid k xs ws) ≡ length ws
length_laid k [] ws = refl
length_laid k (x ∷ xs) ws = length_laid (suc k) xs (set ws k (to_bits binary32 x)) ∙ length-set ws k (to_bits binary32 x)

-- ---- channels that a hall may lack
module _ (h : Setup) where
  -- how many samples a channel has, by those that the ones that are there have
  pub length_sounding : (f : Channels) (n c : ℕ) → length (f c) ≡ n → length (sounding h f c) ≡ count_on h n c
  length_sounding f n c e = go (present h.layout c)
    where
      go : (b : Bool) → length (cond b (f c) []) ≡ cond b n 0
      go true = e
      go false = refl

  pub all_sounding : (P : Float → Type 0) (f : Channels) (c : ℕ) → All P (f c) → All P (sounding h f c)
  all_sounding P f c a = either (All P) (present h.layout c) a tt

  pub count_most : (n c : ℕ) → count_on h n c ≤ n
  count_most n c = either (λ (k : ℕ). k ≤ n) (present h.layout c) (le_refl n) zero-le

  pub count_sum : (i j c : ℕ) {u v : ℕ} → u ≡ count_on h i c → v ≡ count_on h j c → u + v ≡ count_on h (i + j) c
  count_sum i j c p q = ap₂ (λ (u v : ℕ). u + v) p q ∙ go (present h.layout c)
    where
      go : (b : Bool) → cond b i 0 + cond b j 0 ≡ cond b (i + j) 0
      go true = refl
      go false = refl

  pub none_count : (c : ℕ) → ◌≡◌ {A = ℕ} (count_on h 0 c) 0
  none_count c = go (present h.layout c)
    where
      go : (b : Bool) → ◌≡◌ {A = ℕ} (cond b 0 0) 0
      go true = refl
      go false = refl

  pub here_count : (n c : ℕ) → T (present h.layout c) → count_on h n c ≡ n
  here_count n c t = go (present h.layout c) t
    where
      go : (b : Bool) → T b → cond b n 0 ≡ n
      go true t = refl
      go false t = absurd t

  -- it is there, or it has none
  pub all_or_none : (n c : ℕ) {u : ℕ} → u ≡ count_on h n c → (u ≡ n) ⊎ ((present h.layout c ≡ false) × (u ≡ 0))
  all_or_none n c {u} e = go (present h.layout c) refl e
    where
      go : (b : Bool) → present h.layout c ≡ b → u ≡ cond b n 0 → (u ≡ n) ⊎ ((present h.layout c ≡ false) × (u ≡ 0))
      go true p q = inl q
      go false p q = inr (p, q)

-- ---- places and their count
pub zeros_long : (c : ℕ) → c < 12 → length (zeros c) ≡ 64
zeros_long c h = ap (λ (b : Bool). length {A = ℕ} (cond b (replicate 64 0) [])) (lt-ltb c 12 h)

-- p pending samples and one more, or none where that makes a block
pub few_left : (p : ℕ) (b : Bool) → leb 64 (p + 1) ≡ b → cond b 0 (p + 1) < 64
few_left p true e = lit< tt
few_left p false e = leb-false 64 (p + 1) e
