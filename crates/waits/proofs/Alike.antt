-- Records that stand elsewhere with the same bytes are the same records: each test of a record reads its forty bytes alone. Assumes nothing.
use mathlib.Core.Path.{◌≡◌, refl, ap, ◌∙◌}
use mathlib.Core.List.{List}
use Prim.Native.Nat.{ℕ, zero, suc, ◌+◌, ◌*◌, ◌≤◌, ◌<◌}
use native.Mathlib.Omega.{arith}
use lib.Dec.{eqb}
use lib.ListN.{get_or}
use Rattle.words.specs.Words.{number, float_at}
use Rattle.fields.specs.RecordBytes.{byte, kind, zero_bytes}
use Rattle.fields.specs.Update.{is_far, offset, objects, beds, elements, codes_fit, rest_clear, is_update}
use Rattle.fields.specs.Block.{blocks, is_element, is_block, block_of}
use Rattle.fields.specs.Object.{values_fit, is_object, maybe_of, depth_fits}
use Rattle.fields.proofs.All.{all_same}
use Rattle.records.specs.ValuesInRange.{record_in_range, record_fits}

-- record a of m and record b of y
abbrev pub Like : List ℕ → ℕ → List ℕ → ℕ → Type 0
Like m a y b = (j : ℕ) → j < 40 → get_or y (40 * b + j) 0 ≡ get_or m (40 * a + j) 0

module _ (m y : List ℕ) (a b : ℕ) (l : Like m a y b) where
  pub kind_like : kind y b ≡ kind m a
  kind_like = ap (λ (i : ℕ). get_or y i 0) (let e : 40 * b ≡ 40 * b + 0 = omega arith in e) ∙ l 0 (omega arith)
      ∙ ap (λ (i : ℕ). get_or m i 0) (let e : 40 * a + 0 ≡ 40 * a = omega arith in e)

  -- byte k of n from `at` on
  at_like : (at k : ℕ) → at + k < 40 → get_or y (40 * b + at + k) 0 ≡ get_or m (40 * a + at + k) 0
  at_like at k h =
      ap (λ (i : ℕ). get_or y i 0) (let e : 40 * b + at + k ≡ 40 * b + (at + k) = omega arith in e) ∙ l (at + k) h
      ∙ ap (λ (i : ℕ). get_or m i 0) (let e : 40 * a + (at + k) ≡ 40 * a + at + k = omega arith in e)

  number_like : (at n : ℕ) → at + n ≤ 40 → number y (40 * b + at) n ≡ number m (40 * a + at) n
  unfolding number
  number_like at zero h = refl
  number_like at (suc n) h = let p = number_like at n (omega (arith, h)) in let q = at_like at n (omega (arith, h)) in cc

  zero_like : (at n : ℕ) → at + n ≤ 40 → zero_bytes y (40 * b + at) n ≡ zero_bytes m (40 * a + at) n
  zero_like at n h = all_same _ _ n (λ k i. ap (λ (v : ℕ). eqb v 0) (at_like at k (omega (arith, h, i))))

  float_like : (at : ℕ) → at + 4 ≤ 40 → float_at y (40 * b + at) ≡ float_at m (40 * a + at)
  unfolding float_at
  float_like at h = let e = number_like at 4 h in cc

  codes_like : codes_fit y (40 * b + 8) (beds y b) ≡ codes_fit m (40 * a + 8) (beds m a)
  unfolding codes_fit
  codes_like = all_same _ _ 18 (λ k i. let p = at_like 8 k (omega (arith, i)) in let q = l 6 (omega arith) in cc)

  pub far_like : is_far y b ≡ is_far m a
  far_like = ap (λ (k : ℕ). eqb k 9) kind_like

  clear_like : rest_clear y b ≡ rest_clear m a
  clear_like =
      let f = far_like in
      let p = zero_like 2 2 (omega arith) in
      let q = zero_like 26 2 (omega arith) in
      let r = zero_like 32 8 (omega arith) in
      let s = zero_like 26 14 (omega arith) in
      cc

  pub offset_like : offset y b ≡ offset m a
  offset_like =
      let f = far_like in
      let p = number_like 28 4 (omega arith) in
      let q = number_like 2 2 (omega arith) in
      cc

  pub objects_like : objects y b ≡ objects m a
  objects_like = l 4 (omega arith)

  pub elements_like : elements y b ≡ elements m a
  elements_like = l 7 (omega arith)

  pub blocks_like : blocks y b ≡ blocks m a
  blocks_like = l 1 (omega arith)

  pub update_like : is_update y b ≡ is_update m a
  unfolding is_update
  update_like =
      let k = kind_like in
      let f = far_like in
      let p = l 1 (omega arith) in
      let o = l 4 (omega arith) in
      let i = l 5 (omega arith) in
      let d = l 6 (omega arith) in
      let e = l 7 (omega arith) in
      let c = codes_like in
      let r = clear_like in
      cc

  pub element_like : is_element y b ≡ is_element m a
  unfolding is_element
  element_like = let k = kind_like in let p = l 1 (omega arith) in let z = zero_like 2 38 (omega arith) in cc

  pub block_like : is_block y b ≡ is_block m a
  unfolding is_block
  block_like = let k = kind_like in let z = zero_like 1 7 (omega arith) in let w = zero_like 24 16 (omega arith) in cc

  values_like : values_fit y (40 * b) (byte y b 2) ≡ values_fit m (40 * a) (byte m a 2)
  unfolding values_fit
  values_like =
      let f = l 2 (omega arith) in
      let p = zero_like 4 4 (omega arith) in
      let q = zero_like 8 12 (omega arith) in
      let r = zero_like 20 4 (omega arith) in
      let s = zero_like 24 4 (omega arith) in
      cc

  pub object_like : is_object y b ≡ is_object m a
  unfolding is_object
  object_like = let k = kind_like in let p = l 1 (omega arith) in let q = l 2 (omega arith) in let r = l 3 (omega arith) in let v = values_like in cc

  block_of_like : block_of y b ≡ block_of m a
  block_of_like = let p = number_like 8 8 (omega arith) in let q = number_like 16 8 (omega arith) in cc

  maybe_like : (bit at : ℕ) → at + 4 ≤ 40 → maybe_of y (byte y b 2) bit (40 * b + at) ≡ maybe_of m (byte m a 2) bit (40 * a + at)
  unfolding maybe_of
  maybe_like bit at h = let f = l 2 (omega arith) in let p = float_like at h in cc

  depth_like : depth_fits y b ≡ depth_fits m a
  depth_like = let p = float_like 32 (omega arith) in cc

  pub in_range_like : record_in_range y b ≡ record_in_range m a
  unfolding record_in_range
  in_range_like =
      let k = kind_like in
      let c = block_of_like in
      let g = maybe_like 4 4 (omega arith) in
      let s = maybe_like 32 24 (omega arith) in
      let d = float_like 32 (omega arith) in
      let f = float_like 36 (omega arith) in
      cc

  pub fits_like : record_fits y b ≡ record_fits m a
  unfolding record_fits
  fits_like = let k = kind_like in let c = block_of_like in let d = depth_like in cc
