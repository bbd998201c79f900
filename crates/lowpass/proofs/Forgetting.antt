-- The past leaves: from any filter that `Calm (2 ^ k * X)` admits, k (N / 64 + 1) + 2 samples of at most X lead to one that `Calm X` admits. The first two take the place of the
-- samples that it remembers; then each halving takes N / 64 + 1. Assumes nothing.
use mathlib.Core.Path.{◌≡◌, sym, ◌∙◌, ap, subst}
use mathlib.Core.Logic.{inl, inr}
use mathlib.Core.List.{List, [], ◌∷◌}
use Prim.Native.Nat.{ℕ, zero, suc, ◌-◌, ◌*◌, ◌^◌, ◌≤◌, ◌<◌}
use native.Mathlib.Nat.{le_trans, le_of_eq, add_comm, zero-mul, one-mul, suc-mul, pow-succ', mul_assoc, mul-le-mul_left, mul-le-mul_right}
use native.Mathlib.Omega.{arith}
use lib.Dec.{lit≤}
use lib.Pow.{pow_pos}
use lib.ListN.{length, take, drop, take-append-drop, length-drop}
use lib.Ieee.{Float}
use Rattle.ieee.specs.Units.{F32}
use Rattle.ieee.proofs.Bound.{bounded_by}
use Rattle.ieee.proofs.Near.{most}
use Rattle.ieee.proofs.Grid.{le_or_lt}
use Rattle.angles.specs.Angle.{Listed}
use Rattle.lowpass.specs.Lowpass.{BiquadLowpassState, new, after_all}
use Rattle.lowpass.specs.Bound.{Bounded, All, Range, largest}
use Rattle.lowpass.specs.Forgets.{halving, halvings, Forgets}
use Rattle.lowpass.proofs.Calm.{Calming, Calm, in_range, last_bounded, calming_next, calming_all}
use Rattle.lowpass.proofs.CalmAtRates.{within, calming_listed, calm_fed, fed_then}
use Rattle.lowpass.proofs.After.{After, now, fed, after_then, after_more, after_list}
use Rattle.lowpass.proofs.Halving.{halves}

not_less : (k X : ℕ) → X ≤ 2 ^ k * X
not_less k X = le_trans (le_of_eq (sym (one-mul X))) (mul-le-mul_right X (pow_pos k))

-- k halvings
halved : {N X : ℕ} (k : ℕ) → 2 ^ 49 ≤ X → 2 ^ k * X ≤ 2 ^ 169 → {f : BiquadLowpassState} → Calming N X (2 ^ k * X) f → After X (Calming N X X) (k * halving N) f
unfolding most
halved {N} {X} zero low high {f} c = rw zero-mul (now (subst (λ (Y : ℕ). Calming N X Y f) (one-mul X) c))
halved {N} {X} (suc k) low high {f} c =
    let Z : ℕ = 2 ^ k * X in
    let twice : 2 ^ suc k * X ≡ 2 * Z = ap (λ (n : ℕ). n * X) (pow-succ' 2 k) ∙ mul_assoc 2 (2 ^ k) X in
    let h : 2 * Z ≤ 2 ^ 169 = le_trans (le_of_eq (sym twice)) high in
    subst (λ (n : ℕ). After X (Calming N X X) n f) (sym (suc-mul k (halving N) ∙ add_comm (k * halving N) (halving N)))
    (after_then (k * halving N) (λ g d. halved k low (le_trans (omega arith) h) d)
    (halves (not_less k X) (le_trans low (not_less k X)) (le_trans (le_of_eq (mul_assoc 64 2 Z)) (le_trans (mul-le-mul_left 64 h) (lit≤ tt)))
    (subst (λ (Y : ℕ). Calming N X Y f) twice c)))

-- the samples that it remembers, replaced
replaced : {N X Y : ℕ} → Range Y → X ≤ Y → {f : BiquadLowpassState} → Calming N Y Y f → After X (Calming N X Y) 2 f
replaced r l c = fed (λ x h. fed (λ x' h'.
    let d = calming_next (in_range r) (calming_next (in_range r) c (bounded_by l h)) (bounded_by l h') in
    now (record { known = d.known; x1_small = h'; x2_small = h; y1_f32 = d.y1_f32; y2_small = d.y2_small; inside = d.inside })))

module _ (k X : ℕ) (low : 2 ^ 49 ≤ X) (high : 2 ^ k * X ≤ 2 ^ 169) where
  quiet_range : Range X
  quiet_range = record { low = low; high = le_trans (not_less k X) high }

  loud_range : Range (2 ^ k * X)
  loud_range = record { low = le_trans low (not_less k X); high = high }

  leaves : {N : ℕ} {f : BiquadLowpassState} → Calming N (2 ^ k * X) (2 ^ k * X) f → After X (Calming N X X) (halvings N k) f
  leaves {N} {f} c =
      subst (λ (n : ℕ). After X (Calming N X X) n f) (add_comm 2 (k * halving N))
      (after_then (k * halving N) (λ g d. halved k low high d) (replaced loud_range (not_less k X) c))

  pub calming_forgets : {N : ℕ} {f : BiquadLowpassState} → Calming N (2 ^ k * X) (2 ^ k * X) f → (xs : List Float) → All (Bounded X) xs → halvings N k ≤ length xs
      → Calming N X X (after_all f xs)
  calming_forgets c xs h l = after_list xs (after_more (λ g x b d. calming_next (in_range quiet_range) d b) l (leaves c)) h

  pub calm_forgets : {f : BiquadLowpassState} (c : Calm (2 ^ k * X) f) (xs : List Float) → All (Bounded X) xs → halvings c.rate k ≤ length xs → Calm X (after_all f xs)
  calm_forgets c xs h l = record { rate = c.rate; held = calming_forgets c.held xs h l }

-- ---- from a new filter
each : (P : Float → Type 0) (n : ℕ) (xs : List Float) → All P xs → All P (take n xs) × All P (drop n xs)
each P zero xs h = (tt, h)
each P (suc n) [] h = (tt, tt)
each P (suc n) (x ∷ xs) h = let t = each P n xs h.1 in ((h.0, t.0), t.1)

pub lowpass_forgets : {rate : ℕ} → Listed rate → Forgets rate
lowpass_forgets {rate} l k X xs finite s = elim (le_or_lt n (length xs)) [ inl long ↦ long_ago long | inr short ↦ since_new short ]
  where
    n : ℕ
    n = halvings rate k

    m : ℕ
    m = length xs - n

    -- a past, and a presence of n samples or more
    long_ago : n ≤ length xs → Bounded (2 * X) (after_all (new rate) xs).y1
    long_ago long =
        let Y : ℕ = 2 ^ k * X in
        let past : Calming rate Y Y (after_all (new rate) (take m xs)) =
        calming_all (in_range (loud_range k X s.low s.high)) (calming_listed l Y) (take m xs) (each (Bounded Y) m xs (within xs finite s.past)).0 in
        let present : All (Bounded X) (drop m xs) = within (drop m xs) (each F32 m xs finite).1 s.present in
        subst (λ (f : BiquadLowpassState). Bounded (2 * X) f.y1) (sym (fed_then (new rate) (take m xs) (drop m xs)) ∙ ap (after_all (new rate)) (take-append-drop m xs))
        (last_bounded (calming_forgets k X s.low s.high past (drop m xs) present (le_trans (omega arith) (le_of_eq (sym (length-drop m xs))))))

    -- all of them are the presence
    since_new : length xs < n → Bounded (2 * X) (after_all (new rate) xs).y1
    since_new short =
        let none : m ≡ 0 = omega arith in
        let all : drop m xs ≡ xs = ap (λ (i : ℕ). drop i xs) none in
        last_bounded (calm_fed l (quiet_range k X s.low s.high) xs finite (le_trans (le_of_eq (ap largest (sym all))) s.present))
