-- What is asked of records that wait is less than refusal 6 asks. Assumes nothing.
use Prim.Native.Nat.{ℕ, ◌+◌, ◌*◌, ◌/◌, ◌<◌}
use mathlib.Core.Path.{◌≡◌, refl, sym, ◌∙◌}
use mathlib.Core.Bool.{Bool, true, false, cond}
use mathlib.Core.List.{List}
use lib.Dec.{eqb}
use lib.ListN.{length}
use native.Mathlib.Omega.{arith}
use borrow.Author.Tests.{eq-eqb, ne_eqb}
use Rattle.fields.specs.RecordBytes.{kind}
use Rattle.fields.specs.Update.{objects, elements}
use Rattle.fields.specs.Block.{blocks, block_of, block_in_range}
use Rattle.fields.specs.Object.{object_of, depth_fits, object_in_range}
use Rattle.fields.proofs.All.{and_left, and_right, all_at, all_true}
use Rattle.records.specs.Laid.{block_at, object_at, element_at, update_at, laid_out, count}
use Rattle.records.specs.ValuesInRange.{record_in_range, in_range, record_fits, all_fit}
use Rattle.records.proofs.RecordKinds.{block_kind, object_kind, there_block, there_object}
use Rattle.records.proofs.Reached.{whole_records}
use Rattle.records.proofs.RefusalSix.{the_block, the_object}

module _ (m : List ℕ) (r : ℕ) where
  of_block : kind m r ≡ 3 → record_fits m r ≡ block_in_range (block_of m r)
  unfolding record_fits
  of_block k = simp (eq-eqb (kind m r) 3 k)

  of_object : kind m r ≡ 4 → record_fits m r ≡ depth_fits m r
  unfolding record_fits
  of_object k = simp (ne_eqb (kind m r) 3 (λ t. omega arith), eq-eqb (kind m r) 4 k)

  object_fits : object_in_range (object_of m r) ≡ true → depth_fits m r ≡ true
  object_fits e = and_right _ (depth_fits m r) (and_left _ _ e)

  record_in_range_fits : record_in_range m r ≡ true → record_fits m r ≡ true
  unfolding record_in_range record_fits
  record_in_range_fits = by (eqb (kind m r) 3) (eqb (kind m r) 4)
    where
      by : (a b : Bool) → cond a (block_in_range (block_of m r)) (cond b (object_in_range (object_of m r)) true) ≡ true
          → cond a (block_in_range (block_of m r)) (cond b (depth_fits m r) true) ≡ true
      by true b e = e
      by false true e = object_fits e
      by false false e = refl

module _ (m : List ℕ) where
  pub in_range_fits : in_range m ≡ true → all_fit m ≡ true
  unfolding in_range all_fit
  in_range_fits e = all_true (record_fits m) (length m / 40) (λ r h. record_in_range_fits m r (all_at (record_in_range m) (length m / 40) r h e))

  -- each block of each element of each update is within its ranges
  pub blocks_fit : laid_out m ≡ true → all_fit m ≡ true → (i e b : ℕ) → i < count m → e < elements m (update_at m i) → b < blocks m (element_at m (update_at m i) e)
      → block_in_range (block_of m (block_at (element_at m (update_at m i) e) b)) ≡ true
  unfolding all_fit
  blocks_fit laid fit i e b h k l =
      let whole = whole_records m laid in
      let t = the_block m laid i e b h k l in
      sym (of_block m _ (block_kind m whole _ t)) ∙ all_at (record_fits m) (length m / 40) _ (there_block m whole _ t) fit

  -- and each object's depth factor is one of the four
  pub objects_fit : laid_out m ≡ true → all_fit m ≡ true → (i e o b : ℕ) → i < count m → e < elements m (update_at m i) → o < objects m (update_at m i)
      → b < blocks m (element_at m (update_at m i) e) → depth_fits m (object_at m (element_at m (update_at m i) e) (o * blocks m (element_at m (update_at m i) e) + b)) ≡ true
  unfolding all_fit
  objects_fit laid fit i e o b h k j l =
      let whole = whole_records m laid in
      let t = the_object m laid i e o b h k j l in
      sym (of_object m _ (object_kind m whole _ t)) ∙ all_at (record_fits m) (length m / 40) _ (there_object m whole _ t) fit
