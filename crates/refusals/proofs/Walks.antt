-- The walk over time: between two offsets with updates nothing new can stop. Assumes nothing.
use Prim.Native.Nat.{ℕ, zero, suc, ◌+◌, ◌-◌, ◌<◌, ◌≤◌}
use mathlib.Core.Path.{◌≡◌, refl, ap, ◌∙◌}
use mathlib.Core.Bool.{false}
use mathlib.Core.List.{List, [], ◌∷◌, ◌++◌}
use lib.Dec.{eqb}
use native.Mathlib.Omega.{arith}
use borrow.Author.Tests.{ne_eqb}
use Rattle.ieee.specs.Bounds.{All}
use Rattle.records.specs.LayoutAnswers.{offset_at}
use Rattle.records.specs.UpdateWalk.{next_offset}
use Rattle.records.specs.declared.metadata.Metadata.{Metadata}
use Rattle.records.proofs.Theorems.{next_within, next_above, next_least}
use Rattle.rules.specs.Leaves.{Shape}
use Rattle.rules.specs.Refusals.{Found, clear, ◌then◌, Announced, counts_at, shape_at, mixes, walk}
use Rattle.theorem.proofs.Checked.{each_all}
use Rattle.refusals.specs.PresentShape.{told_by}
use Rattle.refusals.proofs.Sent.{told, told_each}

-- no update is at t
abbrev NoneAt : ℕ → List Announced → Type 0
NoneAt t us = All (λ (u : Announced). eqb u.offset t ≡ false) us

module _ (us : List Announced) (objects : ℕ) (codes : List ℕ) where
  none_counted : (t : ℕ) (vs : List Announced) → NoneAt t vs → counts_at us objects codes t vs ≡ clear
  none_counted t [] h = refl
  none_counted t (u ∷ vs) h = rw h.0 (none_counted t vs h.1)

  none_shaped : (t : ℕ) (vs : List Announced) (s : Shape) → NoneAt t vs → shape_at us objects codes t vs s ≡ s
  none_shaped t [] s h = refl
  none_shaped t (u ∷ vs) s h = rw h.0 (none_shaped t vs s h.1)

  -- what one sample finds, with the shape s once its updates are in, and what those after it find
  abbrev mixed_from : ℕ → ℕ → Shape → Found
  mixed_from n t s = mixes us objects codes s then walk us objects codes n (suc t) s

  -- a sample without an update, once the beds were found for this shape
  still : (n t : ℕ) (s : Shape) → NoneAt t us → mixes us objects codes s ≡ clear → walk us objects codes (suc n) t s ≡ walk us objects codes n (suc t) s
  still n t s q e =
      ap (λ (f : Found). f then mixed_from n t (shape_at us objects codes t us s)) (none_counted t us q)
      ∙ ap (mixed_from n t) (none_shaped t us s q)
      ∙ ap (λ (f : Found). f then walk us objects codes n (suc t) s) e

  -- the samples from a up to t
  skip : (d a t end : ℕ) (s : Shape) → t ≡ a + d → t ≤ end → ((k : ℕ) → a ≤ k → k < t → NoneAt k us) → mixes us objects codes s ≡ clear →
      walk us objects codes (end - a) a s ≡ walk us objects codes (end - t) t s
  skip zero a t end s q l h e = let same : t ≡ a = omega arith in rw same
  skip (suc d) a t end s q l h e =
      let k : end - a ≡ suc (end - suc a) = omega arith in
      ap (λ (n : ℕ). walk us objects codes n a s) k ∙ still (end - suc a) a s (h a (omega arith) (omega arith)) e
      ∙ skip d (suc a) t end s (omega arith) l (λ j b c. h j (omega arith) c) e

-- ---- the updates that wait and a frame's own, for a push's objects and codes, up to sample `end`

pub record Walking : Type 0 where
  pub kept : Metadata
  pub own : Metadata
  pub objects : ℕ
  pub codes : List ℕ
  pub end : ℕ

module _ (w : Walking) where
  abbrev pub told_here : List Announced
  told_here = told_by w.kept ++ told_by w.own

  -- 11 for the updates at t, and the shape after them
  abbrev pub counted_at : ℕ → Found
  counted_at t = counts_at told_here w.objects w.codes t told_here

  abbrev pub after : ℕ → Shape → Shape
  after t s = shape_at told_here w.objects w.codes t told_here s

  -- 13 and 14
  abbrev pub mixed : Shape → Found
  mixed s = mixes told_here w.objects w.codes s

  -- what is found from t on, with the shape s before it
  abbrev pub from : ℕ → Shape → Found
  from t s = walk told_here w.objects w.codes (w.end - t) t s

  -- the next offset with updates
  abbrev next_of : Metadata → ℕ → ℕ → ℕ
  next_of m t end = next_offset (offset_at m.layout) m.layout.count t end

  abbrev pub next_at : ℕ → ℕ
  next_at t = next_of w.own t (next_of w.kept t w.end)

  pub next_inside : (t : ℕ) → next_at t ≤ w.end
  next_inside t =
      let a = next_within (offset_at w.own.layout) t (next_of w.kept t w.end) w.own.layout.count in
      let b = next_within (offset_at w.kept.layout) t w.end w.kept.layout.count in
      omega (arith, a, b)

  pub next_later : (t : ℕ) → t < w.end → t < next_at t
  next_later t h = next_above (offset_at w.own.layout) t _ w.own.layout.count (next_above (offset_at w.kept.layout) t w.end w.kept.layout.count h)

  -- no update of m is at k, which lies before the next one
  none_told : (m : Metadata) (t end k : ℕ) → t < k → k < next_of m t end → NoneAt k (told_by m)
  none_told m t end k a b =
      rw (told_each m)
      (each_all (λ (u : Announced). eqb u.offset k ≡ false) (told m) m.layout.count
      (λ i c. ne_eqb (offset_at m.layout i) k (λ e. let z = next_least (offset_at m.layout) t end m.layout.count i c (omega arith) in omega arith)))

  all_both : (k : ℕ) (xs ys : List Announced) → NoneAt k xs → NoneAt k ys → NoneAt k (xs ++ ys)
  all_both k [] ys a b = b
  all_both k (x ∷ xs) ys a b = (a.0, all_both k xs ys a.1 b)

  pub walk_step : (t : ℕ) (s : Shape) → t < w.end → (counted_at t then (mixed (after t s) then from (suc t) (after t s))) ≡ from t s
  walk_step t s h = let k : suc (w.end - suc t) ≡ w.end - t = omega arith in ap (λ (n : ℕ). walk told_here w.objects w.codes n t s) k

  pub walk_skips : (t : ℕ) (s : Shape) → t < w.end → mixed s ≡ clear → from (suc t) s ≡ from (next_at t) s
  walk_skips t s h e =
      let above = next_later t h in
      let kept_in = next_within (offset_at w.own.layout) t (next_of w.kept t w.end) w.own.layout.count in
      skip told_here w.objects w.codes (next_at t - suc t) (suc t) (next_at t) w.end s (omega arith) (next_inside t)
      (λ k a b. all_both k (told_by w.kept) (told_by w.own) (none_told w.kept t w.end k (omega arith) (omega (arith, kept_in)))
      (none_told w.own t (next_of w.kept t w.end) k (omega arith) b)) e

  pub walk_ends : (t : ℕ) (s : Shape) → w.end ≤ t → from t s ≡ clear
  walk_ends t s h = let z : w.end - t ≡ 0 = omega arith in rw z
