-- Blocks of 64 samples, one behind the other: what is known of the first n blocks depends on their samples alone, and a sample that is laid behind those that wait is read there.
-- Assumes nothing.
use mathlib.Core.Path.{◌≡◌, refl, sym, ap, ap₂, ◌∙◌}
use mathlib.Core.Logic.{◌⊎◌, inl, inr}
use mathlib.Core.List.{List, [], ◌∷◌, ◌++◌, map, append-nil}
use Prim.Native.Nat.{ℕ, zero, suc, ◌+◌, ◌*◌, ◌≤◌, ◌<◌}
use native.Mathlib.Nat.{suc-add, suc-ne-zero, not-suc-le-zero, le_of_suc-le-suc, le_trans}
use native.Mathlib.Omega.{arith}
use lib.Dec.{T, lit<}
use lib.ListN.{length, take, drop, set, length-drop}
use lib.Seq.{take-append-le, drop-append-le}
use lib.Ieee.{Float, binary32, fits, of_bits, to_bits}
use lib.Ieee.Bits.{of_bits-to_bits}
use Rattle.limiter.specs.Limiter.{scaled, block_gain, grown}
use Rattle.limiter.specs.Meters.{block_meters}
use Rattle.limiter.specs.declared.meters.Meters.{Meters}
use Rattle.rules.specs.Parts.{Channels, twelve}
use Rattle.rules.specs.Samples.{limited, metered, gain_after}
use Rattle.rules.specs.Sounds.{nth_block, gain_before, limited_blocks, blocks_metered}

-- ---- the limiter looks at the twelve channels
abbrev pub Same : Channels → Channels → Type 0
Same f g = (c : ℕ) → c < 12 → f c ≡ g c

same_twelve : {f g : Channels} → Same f g → twelve f ≡ twelve g
same_twelve h =
    λ i. h 0 (lit< tt) i ∷ h 1 (lit< tt) i ∷ h 2 (lit< tt) i ∷ h 3 (lit< tt) i ∷ h 4 (lit< tt) i ∷ h 5 (lit< tt) i ∷ h 6 (lit< tt) i ∷ h 7 (lit< tt) i ∷ h 8 (lit< tt) i
    ∷ h 9 (lit< tt) i ∷ h 10 (lit< tt) i
    ∷ h 11 (lit< tt) i ∷ []

pub same_limited : {f g : Channels} {x y : Float} → x ≡ y → Same f g → (c : ℕ) → c < 12 → limited x f c ≡ limited y g c
same_limited e h c l = λ i. scaled (block_gain (e i) (same_twelve h i)) (h c l i)

pub same_gain : {f g : Channels} {x y : Float} (n : ℕ) {p q : ℕ} → p ≡ q → x ≡ y → Same f g → gain_after n p x f ≡ gain_after n q y g
same_gain n r e h = λ i. grown n (r i) (block_gain (e i) (same_twelve h i))

pub same_metered : {f g : Channels} {x y : Float} → x ≡ y → Same f g → metered x f ≡ metered y g
same_metered e h = λ i. block_meters (e i) (same_twelve h i) ∷ []

-- ---- samples g behind those of f change none of the n blocks that f has: a channel has as many, or nothing is behind it
empty : (xs : List Float) → length xs ≡ 0 → xs ≡ []
empty [] e = refl
empty (x ∷ xs) e = absurd (suc-ne-zero (length xs) e)

none_behind : (xs ys : List Float) → length ys ≡ 0 → xs ≡ xs ++ ys
none_behind xs ys e = sym (append-nil xs) ∙ ap (λ (l : List Float). xs ++ l) (sym (empty ys e))

pub drop_behind : (xs ys : List Float) (n : ℕ) → (n ≤ length xs) ⊎ (length ys ≡ 0) → drop n (xs ++ ys) ≡ drop n xs ++ ys
drop_behind xs ys n (inl h) = drop-append-le n xs ys h
drop_behind xs ys n (inr h) = ap (drop n) (sym (none_behind xs ys h)) ∙ none_behind (drop n xs) ys h

abbrev pub Enough : Channels → Channels → ℕ → Type 0
Enough f g n = (c : ℕ) → c < 12 → (n ≤ length (f c)) ⊎ (length (g c) ≡ 0)

module _ (f g : Channels) where
  abbrev pub behind : Channels
  behind c = f c ++ g c

  enough_fewer : (n m : ℕ) → m ≤ n → Enough f g n → Enough f g m
  enough_fewer n m h long c l = elim (long c l) [ inl w ↦ inl (le_trans h w) | inr w ↦ inr w ]

  one_fewer : (n : ℕ) → Enough f g (64 * suc n) → Enough f g (64 * n)
  one_fewer n long = enough_fewer (64 * suc n) (64 * n) (let h : 64 * n ≤ 64 * suc n = omega arith in h) long

  block_behind : (k : ℕ) → Enough f g (64 * suc k) → Same (nth_block f k) (nth_block behind k)
  block_behind k long c l = elim (long c l) [
    | inl w ↦
        let d = length-drop (64 * k) (f c) in
        sym (ap (take 64) (drop-append-le (64 * k) (f c) (g c) (omega arith)) ∙ take-append-le 64 (drop (64 * k) (f c)) (g c) (omega arith))
    | inr w ↦ ap (λ (xs : List Float). take 64 (drop (64 * k) xs)) (none_behind (f c) (g c) w)
  ]

  module _ (rate : ℕ) (x : Float) where
    pub gain_behind : (n : ℕ) → Enough f g (64 * n) → gain_before rate x f n ≡ gain_before rate x behind n
    gain_behind zero long = refl
    gain_behind (suc n) long = same_gain 64 refl (gain_behind n (one_fewer n long)) (block_behind n long)

    pub blocks_behind : (n : ℕ) → Enough f g (64 * n) → Same (limited_blocks rate x f n) (limited_blocks rate x behind n)
    blocks_behind zero long c l = refl
    blocks_behind (suc n) long c l =
        let fewer = one_fewer n long in
        ap₂ (λ (u v : List Float). u ++ v) (blocks_behind n fewer c l) (same_limited (gain_behind n fewer) (block_behind n long) c l)

    pub metered_behind : (n : ℕ) → Enough f g (64 * n) → blocks_metered rate x f n ≡ blocks_metered rate x behind n
    metered_behind zero long = refl
    metered_behind (suc n) long =
        let fewer = one_fewer n long in
        ap₂ (λ (u v : List Meters). u ++ v) (metered_behind n fewer) (same_metered (gain_behind n fewer) (block_behind n long))

-- ---- a sample behind the p that wait
pub laid_behind : (p : ℕ) (ws : List ℕ) (x : Float) → p < length ws → T (fits binary32 x)
    → take (p + 1) (map (of_bits binary32) (set ws p (to_bits binary32 x))) ≡ take p (map (of_bits binary32) ws) ++ (x ∷ [])
laid_behind p [] x h t = absurd (not-suc-le-zero h)
laid_behind zero (w ∷ ws) x h t = ap (λ (y : Float). y ∷ []) (of_bits-to_bits binary32 x t)
laid_behind (suc p) (w ∷ ws) x h t =
    ap (λ (k : ℕ). take k (map (of_bits binary32) (set (w ∷ ws) (suc p) (to_bits binary32 x)))) (suc-add p 1)
    ∙ ap (λ (l : List Float). of_bits binary32 w ∷ l) (laid_behind p ws x (le_of_suc-le-suc h) t)
