-- One turn more of the loops that read, store and test an array, and runs of words one after the other. Assumes nothing.
use mathlib.Core.Path.{◌≡◌, refl, sym, ap, ap₂, ◌∙◌}
use mathlib.Core.Bool.{Bool, true, false, ◌&&◌}
use mathlib.Core.List.{List, [], ◌∷◌, ◌++◌, append_assoc, append-nil}
use Prim.Native.Nat.{ℕ, zero, suc, ◌+◌, ◌-◌, ◌*◌, ◌<◌, ◌≤◌}
use native.Mathlib.Nat.{mul-le-mul_left, mul-suc, mul_comm}
use native.Mathlib.Numerals.{add-one}
use native.Mathlib.Omega.{arith}
use lib.Dec.{leb}
use lib.ListN.{length, get_or, set, take}
use lib.Seq.{take-suc-set, take_all}
use Rattle.std.specs.List.{list_all, range_with_len}
use Rattle.words.proofs.Runs.{run_length_kept}
use Rattle.words.specs.Words.{with_word, with_words}
use Rattle.formats.specs.Format.{Format, ◌⊗◌, puts, gets, all_at, array}
use Rattle.formats.specs.Lawful.{Lawful}
use Rattle.formats.proofs.Places.{spelled}
use Rattle.formats.proofs.PairsAndArrays.{lawful_array}

-- k more, where i is below n
pub room : (k : ℕ) {i n : ℕ} → i < n → k * i + k ≤ k * n
room k {i} h = let l = mul-le-mul_left k h in rw (mul-suc k i) at l

-- ---- tests

pub and_true : (a b : Bool) → b ≡ true → (a && b) ≡ a
and_true true b e = e
and_true false b e = refl

pub and_false : (a b : Bool) → b ≡ false → (a && b) ≡ false
and_false true b e = e
and_false false b e = refl

pub and_assoc : (a b c : Bool) → ((a && b) && c) ≡ (a && (b && c))
and_assoc true b c = refl
and_assoc false b c = refl

-- word j of an entry is at most a limit
abbrev pub most : List ℕ → ℕ → ℕ → ℕ → Bool
most w j limit a = leb (get_or w (a + j) 0) limit

module _ (k : ℕ) where
  -- tests that agree at each place
  pub all_same : (p q : ℕ → Bool) → ((a : ℕ) → p a ≡ q a) → (n at : ℕ) → all_at p k n at ≡ all_at q k n at
  unfolding all_at
  all_same p q h zero at = refl
  all_same p q h (suc n) at = ap₂ ◌&&◌ (h at) (all_same p q h n (at + k))

  -- no test
  pub all_any : (n at : ℕ) → all_at (λ a. true) k n at ≡ true
  unfolding all_at
  all_any zero at = refl
  all_any (suc n) at = all_any n (at + k)

  -- two tests at each place are two columns
  pub all_both : (p q : ℕ → Bool) (n at : ℕ) → all_at (λ a. p a && q a) k n at ≡ (all_at p k n at && all_at q k n at)
  unfolding all_at
  all_both p q zero at = refl
  all_both p q (suc n) at = ap (λ (x : Bool). (p at && q at) && x) (all_both p q n (at + k)) ∙ turn (p at) (q at) (all_at p k n (at + k)) (all_at q k n (at + k))
    where
      turn : (a b c d : Bool) → ((a && b) && (c && d)) ≡ ((a && c) && (b && d))
      turn false b c d = refl
      turn true true true d = refl
      turn true true false d = refl
      turn true false true d = refl
      turn true false false d = refl

  -- the entries in order, from entry i on
  pub all_entries : (p : ℕ → Bool) (at i n : ℕ) → list_all (λ j. p (at + k * j)) (range_with_len i n) ≡ all_at p k n (at + k * i)
  unfolding all_at
  all_entries p at i zero = refl
  all_entries p at i (suc n) =
      ap (λ (b : Bool). p (at + k * i) && b) (all_entries p at (i + 1) n ∙ ap (all_at p k n) (let e : at + k * (i + 1) ≡ at + k * i + k = omega arith in e))

  -- from entry i on: entry i passes, it fails, or none is left
  module _ (p : ℕ → Bool) (at : ℕ) where
    all_next : (i n : ℕ) → i < n → all_at p k (n - i) (at + k * i) ≡ (p (at + k * i) && all_at p k (n - (i + 1)) (at + k * (i + 1)))
    unfolding all_at
    all_next i n h =
        let e : n - i ≡ suc (n - (i + 1)) = omega arith in
        let b : at + k * i + k ≡ at + k * (i + 1) = omega arith in
        rw e (ap (λ (q : ℕ). p (at + k * i) && all_at p k (n - (i + 1)) q) b)

    pub all_step : (i n : ℕ) → i < n → p (at + k * i) ≡ true → all_at p k (n - i) (at + k * i) ≡ all_at p k (n - (i + 1)) (at + k * (i + 1))
    all_step i n h e = all_next i n h ∙ rw e

    pub all_stop : (i n : ℕ) → i < n → p (at + k * i) ≡ false → all_at p k (n - i) (at + k * i) ≡ false
    all_stop i n h e = all_next i n h ∙ rw e

    pub all_done : (i n : ℕ) → n ≤ i → all_at p k (n - i) (at + k * i) ≡ true
    unfolding all_at
    all_done i n h = let e : n - i ≡ 0 = omega arith in ap (λ (m : ℕ). all_at p k m (at + k * i)) e

-- ---- an array that is read from the front

module _ {A : Type 0} (g : ℕ → A) (k : ℕ) where
  gets_next : (i at : ℕ) → gets g k (suc i) at ≡ gets g k i at ++ (g (at + k * i) ∷ [])
  unfolding gets
  gets_next zero at = ap (λ (q : ℕ). g q ∷ []) (let e : at ≡ at + k * 0 = omega arith in e)
  gets_next (suc i) at =
      ap (λ (t : List A). g at ∷ t) (gets_next i (at + k) ∙ ap (λ (q : ℕ). gets g k i (at + k) ++ (g q ∷ [])) (let e : at + k + k * i ≡ at + k * suc i = omega arith in e))

  pub gets_filled : (at i : ℕ) (a : List A) (x : A) → i < length a → take i a ≡ gets g k i at → x ≡ g (at + k * i) → take (i + 1) (set a i x) ≡ gets g k (i + 1) at
  gets_filled at i a x h e f =
      rw (add-one, take-suc-set a i x h) (ap₂ (λ (t : List A) (y : A). t ++ (y ∷ [])) e f ∙ sym (gets_next i at))

  pub gets_full : (at n i : ℕ) (a : List A) → length a ≡ n → n ≤ i → i ≤ n → take i a ≡ gets g k i at → a ≡ gets g k n at
  gets_full at n i a l h m e =
      let o : length a ≤ i = omega arith in
      sym (take_all i a o) ∙ e ∙ ap (λ (q : ℕ). gets g k q at) (let p : i ≡ n = omega arith in p)

-- ---- runs of words, one after the other

runs_join : (s : List ℕ) (at : ℕ) (a b : List ℕ) → with_words (with_words s at a) (at + 4 * length a) b ≡ with_words s at (a ++ b)
runs_join s at [] b = ap (λ (q : ℕ). with_words s q b) (let e : at + 4 * zero ≡ at = omega arith in e)
runs_join s at (w ∷ a) b =
    ap (λ (q : ℕ). with_words (with_words (with_word s at w) (at + 4) a) q b) (let e : at + 4 * suc (length a) ≡ at + 4 + 4 * length a = omega arith in e)
    ∙ runs_join (with_word s at w) (at + 4) a b

-- the same, where the first run has n words
pub runs_at : (s : List ℕ) (at n : ℕ) (a b : List ℕ) → length a ≡ n → with_words (with_words s at a) (at + 4 * n) b ≡ with_words s at (a ++ b)
runs_at s at n a b e = ap (λ (q : ℕ). with_words (with_words s at a) (at + 4 * q) b) (sym e) ∙ runs_join s at a b

-- two values stored one after the other are the pair stored
pub pair_stored : {A B : Type 0} (F : Format A) (G : Format B) → Lawful F → (s : List ℕ) (at : ℕ) (x : A) (y : B)
    → with_words (with_words s at (F.put x)) (at + 4 * F.width) (G.put y) ≡ with_words s at ((F ⊗ G).put (x, y))
pair_stored F G f s at x y = runs_at s at F.width (F.put x) (G.put y) (f.long x)

-- ---- an array that is stored from the front

module _ {A : Type 0} (F : Format A) (f : Lawful F) where
  puts_next : (d : A) (i : ℕ) (xs : List A) → i < length xs → puts F.put F.width (suc i) xs ≡ puts F.put F.width i xs ++ F.put (get_or xs i d)
  unfolding puts
  puts_next d i [] h = absurd (omega arith)
  puts_next d zero (x ∷ xs) h = append-nil (F.put x)
  puts_next d (suc i) (x ∷ xs) h =
      ap (λ (t : List ℕ). F.put x ++ t) (puts_next d i xs (omega arith)) ∙ sym (append_assoc (F.put x) (puts F.put F.width i xs) (F.put (get_or xs i d)))

  -- a turn of a loop over an array: s before it, t after it, where the words ws of entry i go to m
  pub store_turn : (d : A) (s₀ s t : List ℕ) (at i m : ℕ) (xs : List A) (ws : List ℕ) → i < length xs → m ≡ at + 4 * (F.width * i)
      → length ws ≡ F.width → F.Spells ws 0 (get_or xs i d) → s ≡ with_words s₀ at ((array i F).put xs) → t ≡ with_words s m ws
      → (length t ≡ length s₀) × (t ≡ with_words s₀ at ((array (i + 1) F).put xs))
  store_turn d s₀ s t at i m xs ws h e l p b n =
      let x = F.put (get_or xs i d) in
      let r = (array i F).put xs in
      let w : ws ≡ x = spelled F f (get_or xs i d) ws l p in
      let k : length r ≡ F.width * i = (lawful_array F f i).long xs ∙ mul_comm i F.width in
      let o : (array (i + 1) F).put xs ≡ r ++ x = rw add-one (puts_next d i xs h) in
      let q : t ≡ with_words s₀ at ((array (i + 1) F).put xs) = n ∙ (λ j. with_words (b j) (e j) (w j)) ∙ runs_at s₀ at (F.width * i) r x k ∙ ap (with_words s₀ at) (sym o) in
      (ap length q ∙ run_length_kept s₀ at ((array (i + 1) F).put xs), q)

  -- nothing stored yet, and all
  pub store_none : (s : List ℕ) (at : ℕ) (xs : List A) → s ≡ with_words s at ((array 0 F).put xs)
  unfolding puts
  store_none s at xs = refl

  pub store_all : (s₀ s : List ℕ) (at n i : ℕ) (xs : List A) → n ≤ i → i ≤ n → s ≡ with_words s₀ at ((array i F).put xs) → s ≡ with_words s₀ at ((array n F).put xs)
  store_all s₀ s at n i xs h l e = e ∙ ap (λ (m : ℕ). with_words s₀ at ((array m F).put xs)) (let p : i ≡ n = omega arith in p)
