-- The ends of a list of channels are runs of indexes: where the channels of l stand in order from a up to b, those up to v from a up to s, the nearest up to v are the last run
-- before s, and the nearest beyond v the run at s. Which channels l has counts, not their order in l. Assumes nothing.
use mathlib.Core.Path.{◌≡◌, refl, sym, subst}
use mathlib.Core.Logic.{inl, inr}
use mathlib.Core.Bool.{Bool, not}
use mathlib.Core.List.Memᴰ
use mathlib.Core.List.{List, [], ◌∷◌}
use Prim.Native.Nat.{ℕ, ◌+◌, ◌≤◌, ◌<◌}
use native.Mathlib.Nat.{le_refl, le_trans, le_of_lt, lt_of_lt_of_le}
use native.Mathlib.Omega.{arith}
use lib.Dec.{T, T_not, not_T}
use lib.Ieee.{Float, le}
use Rattle.ieee.specs.Units.{F32}
use Rattle.corners.specs.Choice.{keep, every_of, first, or_list, ge, outermost, below, above}
use Rattle.corners.proofs.Lists.{In, Each, keep→, →keep, every→, →every}
use Rattle.corners.specs.EqualRuns.{Members}
use Rattle.corners.proofs.Rising.{less_or_not, through}

module _ {ch : ℕ → ℕ} {a b : ℕ} {l : List ℕ} (h : Members ch a b l) where
  -- what holds of each channel from a up to b holds of each member
  pub each_member : (P : ℕ → Type 0) → ((i : ℕ) → a ≤ i → i < b → P (ch i)) → Each P l
  each_member P f k m = let o = h.out k m in subst P (sym o.3) (f o.0 o.1 o.2)

  -- a part of l
  pub part : (m : List ℕ) (lo hi : ℕ) → ((k : ℕ) → In k m → In k l) → ((i : ℕ) → a ≤ i → i < b → In (ch i) m → (lo ≤ i) × (i < hi)) →
      ((i : ℕ) → lo ≤ i → i < hi → In (ch i) m) → Members ch lo hi m
  part m lo hi sub f g = record {
    into = g;
    out = λ k n. each_member (λ k. In k m → (i : ℕ) × (lo ≤ i) × (i < hi) × (k ≡ ch i)) (λ i ai ib o. let w = f i ai ib o in (i, w.0, w.1, refl)) k (sub k n) n;
  }

-- a list filled by another
pub or_some : {ch : ℕ → ℕ} {a b : ℕ} (k l : List ℕ) → a < b → Members ch a b k → Members ch a b (or_list k l)
unfolding or_list
or_some {a = a} [] l q h = absurd (Memᴰ.not-nil (h.into a (le_refl a) q))
or_some (s ∷ k) l q h = h

pub or_none : {ch : ℕ → ℕ} {a b : ℕ} (k l : List ℕ) → ((s : ℕ) → In s k → ⊥) → Members ch a b l → Members ch a b (or_list k l)
unfolding or_list
or_none [] l f h = h
or_none (s ∷ k) l f h = absurd (f s (Memᴰ.head refl))

-- a list of one channel
pub only_first : {ch : ℕ → ℕ} {i : ℕ} (l : List ℕ) → Members ch i (i + 1) l → first l ≡ ch i
unfolding first
only_first {i = i} [] h = absurd (Memᴰ.not-nil (h.into i (le_refl i) (omega arith)))
only_first {ch} {i} (s ∷ l) h =
    let o = h.out s (Memᴰ.head refl) in
    let e : o.0 ≡ i = omega arith in
    subst (λ (j : ℕ). s ≡ ch j) e o.3

module _ (ch : ℕ → ℕ) (C : ℕ → Float) (a b : ℕ) (l : List ℕ) (h : Members ch a b l) (v : Float) where
  abbrev c : ℕ → Float
  c i = C (ch i)

  abbrev up_to : ℕ → Bool
  up_to k = le (C k) v

  abbrev past : ℕ → Bool
  past k = not (le (C k) v)

  abbrev nearest_low : ℕ → Bool
  nearest_low k = every_of (λ j. le (C j) (C k)) (keep up_to l)

  abbrev nearest_high : ℕ → Bool
  nearest_high k = every_of (λ j. ge (C j) (C k)) (keep past l)

  module _ (fine : (i : ℕ) → a ≤ i → i < b → F32 (c i)) (rising : (i j : ℕ) → a ≤ i → i ≤ j → j < b → T (le (c i) (c j)))
      (s : ℕ) (from : a ≤ s) (to : s ≤ b) (up : (i : ℕ) → a ≤ i → i < s → T (le (c i) v)) (on : (i : ℕ) → s ≤ i → i < b → T (le (c i) v) → ⊥) where
    -- the members up to v are those before s
    before_s : (i : ℕ) → i < b → T (le (c i) v) → i < s
    before_s i ib t = elim (less_or_not i s) [ inl q ↦ q | inr q ↦ absurd (on i q ib t) ]

    after_s : (i : ℕ) → a ≤ i → T (not (le (c i) v)) → s ≤ i
    after_s i ai t = elim (less_or_not i s) [ inl q ↦ absurd (T_not (le (c i) v) t (up i ai q)) | inr q ↦ q ]

    pub none_below : s ≡ a → (k : ℕ) → In k (below C v l) → ⊥
    unfolding below outermost
    none_below e k m =
        let n = (keep→ nearest_low (keep up_to l) m).0 in
        let w = keep→ up_to l n in
        each_member h (λ k. T (le (C k) v) → ⊥) (λ i ai ib t. on i (subst (λ (x : ℕ). x ≤ i) (sym e) ai) ib t) k w.0 w.1

    pub none_above : s ≡ b → (k : ℕ) → In k (above C v l) → ⊥
    unfolding above outermost
    none_above e k m =
        let n = (keep→ nearest_high (keep past l) m).0 in
        let w = keep→ past l n in
        each_member h (λ k. T (not (le (C k) v)) → ⊥) (λ i ai ib t. T_not (le (c i) v) t (up i ai (subst (λ (x : ℕ). i < x) (sym e) ib))) k w.0 w.1

    -- the last run before s
    pub below_run : (lo : ℕ) → a ≤ lo → lo < s → ((i : ℕ) → lo ≤ i → i < s → T (le (c i) (c lo))) → ((i : ℕ) → a ≤ i → i < lo → T (le (c lo) (c i)) → ⊥) →
        Members ch lo s (below C v l)
    unfolding below outermost
    below_run lo al ls run start =
        part h (below C v l) lo s (λ k m. (keep→ up_to l (keep→ nearest_low (keep up_to l) m).0).0) out into
      where
        out : (i : ℕ) → a ≤ i → i < b → In (ch i) (below C v l) → (lo ≤ i) × (i < s)
        out i ai ib m =
            let n = keep→ nearest_low (keep up_to l) m in
            let far = every→ (λ j. le (C j) (c i)) (keep up_to l) n.1 in
            let lob = lt_of_lt_of_le ls to in
            let at = far (ch lo) (→keep up_to l (h.into lo al lob) (up lo al ls)) in
            (elim (less_or_not i lo) [ inl q ↦ absurd (start i ai q at) | inr q ↦ q ], before_s i ib (keep→ up_to l n.0).1)

        into : (i : ℕ) → lo ≤ i → i < s → In (ch i) (below C v l)
        into i li is =
            let ai = le_trans al li in
            let ib = lt_of_lt_of_le is to in
            let lob = lt_of_lt_of_le ls to in
            →keep nearest_low (keep up_to l) (→keep up_to l (h.into i ai ib) (up i ai is))
            (→every (λ j. le (C j) (c i)) (keep up_to l) (λ k m. let w = keep→ up_to l m in
            each_member h (λ k. T (le (C k) v) → T (le (C k) (c i)))
            (λ j aj jb t. elim (less_or_not i j) [
              | inl q ↦ let js = before_s j jb t in
                  through (c j) (c lo) (c i) (fine j aj jb) (fine lo al lob) (fine i ai ib).fit (run j (le_trans li (le_of_lt q)) js) (rising lo i al li ib)
              | inr q ↦ rising j i aj q ib
            ]) k w.0 w.1))

    -- the run at s
    pub above_run : (hi : ℕ) → s < hi → hi ≤ b → ((i : ℕ) → s ≤ i → i < hi → T (le (c i) (c s))) → ((i : ℕ) → hi ≤ i → i < b → T (le (c i) (c s)) → ⊥) →
        Members ch s hi (above C v l)
    unfolding above outermost
    above_run hi sh hb run next =
        part h (above C v l) s hi (λ k m. (keep→ past l (keep→ nearest_high (keep past l) m).0).0) out into
      where
        sb : s < b
        sb = lt_of_lt_of_le sh hb

        out : (i : ℕ) → a ≤ i → i < b → In (ch i) (above C v l) → (s ≤ i) × (i < hi)
        out i ai ib m =
            let n = keep→ nearest_high (keep past l) m in
            let far = every→ (λ j. ge (C j) (c i)) (keep past l) n.1 in
            let at = far (ch s) (→keep past l (h.into s from sb) (not_T (le (c s) v) (on s (le_refl s) sb))) in
            (after_s i ai (keep→ past l n.0).1, elim (less_or_not i hi) [ inl q ↦ q | inr q ↦ absurd (next i q ib at) ])

        into : (i : ℕ) → s ≤ i → i < hi → In (ch i) (above C v l)
        into i si ih =
            let ai = le_trans from si in
            let ib = lt_of_lt_of_le ih hb in
            →keep nearest_high (keep past l) (→keep past l (h.into i ai ib) (not_T (le (c i) v) (on i si ib)))
            (→every (λ j. ge (C j) (c i)) (keep past l) (λ k m. let w = keep→ past l m in
            each_member h (λ k. T (not (le (C k) v)) → T (le (c i) (C k)))
            (λ j aj jb t. elim (less_or_not j i) [
              | inl q ↦ let sj = after_s j aj t in through (c i) (c s) (c j) (fine i ai ib) (fine s from sb) (fine j aj jb).fit (run i si ih) (rising s j from sj jb)
              | inr q ↦ rising i j ai q jb
            ]) k w.0 w.1))
