-- A frame by its samples: what one sample more leaves and gives out, an invariant along the samples, and the moment of each. Assumes nothing.
use mathlib.Core.Path.{◌≡◌, refl, sym, ap, ◌∙◌, subst}
use mathlib.Core.List.{List, [], ◌++◌, append-nil, append_assoc}
use Prim.Native.Nat.{ℕ, zero, suc, ◌+◌, ◌≤◌, ◌<◌}
use native.Mathlib.Nat.{not-suc-le-zero, zero-add, le_of_lt}
use native.Mathlib.Omega.{arith}
use lib.ListN.{length, get_or}
use Rattle.rules.specs.Leaves.{Leaves}
use Rattle.rules.specs.Mix.{Moment}
use Rattle.rules.specs.Samples.{Frame, State, After, updated, slotted, moment, sampled, framed}

module _ (L : Leaves) (f : Frame L.Update) where
  -- what sample t is heard with
  abbrev pub moment_of : ℕ → State L → Moment
  moment_of t r = let s = slotted L (updated L t f.updates r) in moment L f t s.setup s.meta

  pub moments_count : (n t : ℕ) (r : State L) → length (framed L f n t r).moments ≡ n
  moments_count zero t r = refl
  moments_count (suc n) t r = ap suc (moments_count n (suc t) (sampled L f t r).next)

  -- ---- the samples from t on, and one more
  more_next : (k t : ℕ) (r : State L) → (framed L f (suc k) t r).next ≡ (sampled L f (t + k) (framed L f k t r).next).next
  more_next zero t r = ap (λ (u : ℕ). (sampled L f u r).next) (let e : t ≡ t + 0 = omega arith in e)
  more_next (suc k) t r =
      let s = (sampled L f t r).next in
      more_next k (suc t) s ∙ ap (λ (u : ℕ). (sampled L f u (framed L f k (suc t) s).next).next) (let e : suc t + k ≡ t + suc k = omega arith in e)

  -- of what a frame lists sample by sample
  module _ {A : Type 0} (listed : After L → List A) (none_yet : (t : ℕ) (r : State L) → listed (framed L f zero t r) ≡ [])
      (joins : (n t : ℕ) (r : State L) → listed (framed L f (suc n) t r) ≡ listed (sampled L f t r) ++ listed (framed L f n (suc t) (sampled L f t r).next)) where
    more_listed : (k t : ℕ) (r : State L) → listed (framed L f (suc k) t r) ≡ listed (framed L f k t r) ++ listed (sampled L f (t + k) (framed L f k t r).next)
    more_listed zero t r =
        joins 0 t r
        ∙ ap (λ (xs : List A). listed (sampled L f t r) ++ xs) (none_yet (suc t) (sampled L f t r).next)
        ∙ append-nil (listed (sampled L f t r))
        ∙ ap (λ (u : ℕ). listed (sampled L f u r)) (let e : t ≡ t + 0 = omega arith in e)
        ∙ sym (ap (λ (xs : List A). xs ++ listed (sampled L f (t + 0) r)) (none_yet t r))
    more_listed (suc k) t r =
        let a = sampled L f t r in
        let d = framed L f k (suc t) a.next in
        joins (suc k) t r
        ∙ ap (λ (xs : List A). listed a ++ xs)
        (more_listed k (suc t) a.next ∙ ap (λ (u : ℕ). listed d ++ listed (sampled L f u d.next)) (let e : suc t + k ≡ t + suc k = omega arith in e))
        ∙ sym (append_assoc (listed a) (listed d) (listed (sampled L f (t + suc k) d.next)))
        ∙ sym (ap (λ (xs : List A). xs ++ listed (sampled L f (t + suc k) d.next)) (joins k t r))

  moment_from : (n t k : ℕ) (r : State L) (d : Moment) → k < n → get_or (framed L f n t r).moments k d ≡ moment_of (t + k) (framed L f k t r).next
  moment_from zero t k r d h = absurd (not-suc-le-zero h)
  moment_from (suc n) t zero r d h = ap (λ (u : ℕ). moment_of u r) (let e : t ≡ t + 0 = omega arith in e)
  moment_from (suc n) t (suc k) r d h =
      let s = (sampled L f t r).next in
      moment_from n (suc t) k s d (omega arith) ∙ ap (λ (u : ℕ). moment_of u (framed L f k (suc t) s).next) (let e : suc t + k ≡ t + suc k = omega arith in e)

  -- ---- from the frame's start
  module _ (r : State L) where
    abbrev at : ℕ → State L
    at t = (framed L f t 0 r).next

    pub next_at : (t : ℕ) → at (suc t) ≡ (sampled L f t (at t)).next
    next_at t = more_next t 0 r ∙ ap (λ (u : ℕ). (sampled L f u (at t)).next) (zero-add t)

    pub given_at : (t c : ℕ) → (framed L f (suc t) 0 r).given c ≡ (framed L f t 0 r).given c ++ (sampled L f t (at t)).given c
    given_at t c =
        more_listed (λ (x : After L). x.given c) (λ t r. refl) (λ n t r. refl) t 0 r
        ∙ ap (λ (u : ℕ). (framed L f t 0 r).given c ++ (sampled L f u (at t)).given c) (zero-add t)

    pub meters_at : (t : ℕ) → (framed L f (suc t) 0 r).meters ≡ (framed L f t 0 r).meters ++ (sampled L f t (at t)).meters
    meters_at t =
        more_listed (λ (x : After L). x.meters) (λ t r. refl) (λ n t r. refl) t 0 r
        ∙ ap (λ (u : ℕ). (framed L f t 0 r).meters ++ (sampled L f u (at t)).meters) (zero-add t)

    pub moment_at_is : (n t : ℕ) (d : Moment) → t < n → get_or (framed L f n 0 r).moments t d ≡ moment_of t (at t)
    moment_at_is n t d h = moment_from n 0 t r d h ∙ ap (λ (u : ℕ). moment_of u (at t)) (zero-add t)

    -- what each sample keeps
    pub along : (n : ℕ) (Inv : ℕ → State L → Type 0) → ((t : ℕ) (s : State L) → t < n → Inv t s → Inv (suc t) (sampled L f t s).next) → Inv 0 r → (t : ℕ) → t ≤ n → Inv t (at t)
    along n Inv keep i zero h = i
    along n Inv keep i (suc t) h = subst (Inv (suc t)) (sym (next_at t)) (keep t (at t) h (along n Inv keep i t (le_of_lt h)))
