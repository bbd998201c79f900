-- What holds once a filter has been fed n samples more, whatever they are. Assumes nothing.
use mathlib.Core.Path.{sym, subst}
use mathlib.Core.List.{List, [], ◌∷◌}
use Prim.Native.Nat.{ℕ, zero, suc, ◌+◌, ◌-◌, ◌≤◌}
use native.Mathlib.Nat.{zero-add, suc-add, add-sub_of_le}
use lib.ListN.{length}
use lib.Ieee.{Float}
use Rattle.lowpass.specs.Lowpass.{BiquadLowpassState, next, after_all}
use Rattle.lowpass.specs.Bound.{Bounded, All}

-- Q, after n samples of size at most X
pub data After (X : ℕ) (Q : BiquadLowpassState → Type 0) : ℕ → BiquadLowpassState → Type 0 where
  now : {f : BiquadLowpassState} → Q f → After X Q zero f
  fed : {n : ℕ} {f : BiquadLowpassState} → ((x : Float) → Bounded X x → After X Q n (next f x)) → After X Q (suc n) f

module _ {X : ℕ} {Q : BiquadLowpassState → Type 0} where
  pub after_then : (n : ℕ) {R : BiquadLowpassState → Type 0} {m : ℕ} {f : BiquadLowpassState} →
      ((g : BiquadLowpassState) → Q g → After X R n g) → After X Q m f → After X R (m + n) f
  after_then n {R} {f = f} more (now q) = subst (λ (k : ℕ). After X R k f) (sym (zero-add n)) (more f q)
  after_then n {R} {f = f} more (fed {n = m} a) = subst (λ (k : ℕ). After X R k f) (sym (suc-add m n)) (fed (λ x h. after_then n more (a x h)))

  -- what each sample keeps
  module _ (keeps : (g : BiquadLowpassState) (x : Float) → Bounded X x → Q g → Q (next g x)) where
    stays : (n : ℕ) {f : BiquadLowpassState} → Q f → After X Q n f
    stays zero q = now q
    stays (suc n) {f} q = fed (λ x h. stays n (keeps f x h q))

    pub after_more : {m n : ℕ} → m ≤ n → {f : BiquadLowpassState} → After X Q m f → After X Q n f
    after_more {m} {n} l {f} a = subst (λ (k : ℕ). After X Q k f) (add-sub_of_le l) (after_then (n - m) (λ g q. stays (n - m) q) a)

  pub after_list : (xs : List Float) {f : BiquadLowpassState} → After X Q (length xs) f → All (Bounded X) xs → Q (after_all f xs)
  after_list [] (now q) h = q
  after_list (x ∷ xs) (fed a) h = after_list xs (a x h.0) h.1
