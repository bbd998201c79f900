-- Refusal 6 over the meaning: the values of all records are within their ranges exactly where those of each block and each object of each element of each
-- update are. Assumes nothing.
use Prim.Native.Nat.{ℕ, ◌+◌, ◌*◌, ◌/◌, ◌<◌}
use mathlib.Core.Path.{◌≡◌, sym, ◌∙◌}
use mathlib.Core.Bool.{true}
use mathlib.Core.List.{List}
use mathlib.Core.Logic.{◌⊎◌, ⊎_elim}
use native.Mathlib.Omega.{arith}
use lib.ListN.{length}
use borrow.Author.Tests.{eq-eqb, ne_eqb}
use Rattle.fields.specs.RecordBytes.{kind}
use Rattle.fields.specs.Update.{objects, elements}
use Rattle.fields.specs.Block.{blocks, is_block, block_of, block_in_range}
use Rattle.fields.specs.Object.{is_object, object_of, object_in_range}
use Rattle.fields.proofs.All.{all_at, all_true}
use Rattle.records.specs.Laid.{block_at, object_at, element_at, update_at, laid_out, count, is_whole_element}
use Rattle.records.specs.ValuesInRange.{record_in_range, in_range}
use Rattle.records.proofs.RecordKinds.{update_kind, element_kind, block_kind, object_kind, there_block, there_object}
use Rattle.records.proofs.Reached.{whole_records, update_whole, update_is, element_whole, element_is, block_is, object_is}
use Rattle.records.proofs.Placed.{every_record_placed}

-- each block and each object of the meaning is within its ranges
pub record Within (m : List ℕ) : Type 0 where
  pub block : (i e b : ℕ) → i < count m → e < elements m (update_at m i) → b < blocks m (element_at m (update_at m i) e)
      → block_in_range (block_of m (block_at (element_at m (update_at m i) e) b)) ≡ true
  pub object : (i e o b : ℕ) → i < count m → e < elements m (update_at m i) → o < objects m (update_at m i) → b < blocks m (element_at m (update_at m i) e)
      → object_in_range (object_of m (object_at m (element_at m (update_at m i) e) (o * blocks m (element_at m (update_at m i) e) + b))) ≡ true

-- a record's test, by its kind
module _ (m : List ℕ) (r : ℕ) where
  of_block : kind m r ≡ 3 → record_in_range m r ≡ block_in_range (block_of m r)
  unfolding record_in_range
  of_block k = simp (eq-eqb (kind m r) 3 k)

  of_object : kind m r ≡ 4 → record_in_range m r ≡ object_in_range (object_of m r)
  unfolding record_in_range
  of_object k = simp (ne_eqb (kind m r) 3 (λ t. omega arith), eq-eqb (kind m r) 4 k)

  of_other : (kind m r ≡ 3 → ⊥) → (kind m r ≡ 4 → ⊥) → record_in_range m r ≡ true
  unfolding record_in_range
  of_other f g = simp (ne_eqb (kind m r) 3 f, ne_eqb (kind m r) 4 g)

  of_update : (kind m r ≡ 1) ⊎ (kind m r ≡ 9) → record_in_range m r ≡ true
  of_update = ⊎_elim (λ q. of_other (λ t. omega arith) (λ t. omega arith)) (λ q. of_other (λ t. omega arith) (λ t. omega arith))

module _ (m : List ℕ) (laid : laid_out m ≡ true) where
  -- element e of update i
  the_element : (i e : ℕ) → i < count m → e < elements m (update_at m i) → is_whole_element m (objects m (update_at m i)) (element_at m (update_at m i) e) ≡ true
  the_element i e h k = element_whole m (whole_records m laid) (update_at m i) e (update_whole m laid i h) k

  pub the_block : (i e b : ℕ) → i < count m → e < elements m (update_at m i) → b < blocks m (element_at m (update_at m i) e) → is_block m (block_at (element_at m (update_at m i) e) b) ≡ true
  the_block i e b h k l = block_is m (whole_records m laid) (objects m (update_at m i)) (element_at m (update_at m i) e) (the_element i e h k) b l

  pub the_object : (i e o b : ℕ) → i < count m → e < elements m (update_at m i) → o < objects m (update_at m i) → b < blocks m (element_at m (update_at m i) e)
      → is_object m (object_at m (element_at m (update_at m i) e) (o * blocks m (element_at m (update_at m i) e) + b)) ≡ true
  the_object i e o b h k j l = object_is m (whole_records m laid) (objects m (update_at m i)) (element_at m (update_at m i) e) (the_element i e h k) o b j l

  -- no refusal 6: each value that is meant is within its range
  pub all_within : in_range m ≡ true → Within m
  unfolding in_range
  all_within e =
      let whole = whole_records m laid in
      record {
        block = λ i el b h k l.
            let t = the_block i el b h k l in
            sym (of_block m _ (block_kind m whole _ t)) ∙ all_at (record_in_range m) (length m / 40) _ (there_block m whole _ t) e;
        object = λ i el o b h k j l.
            let t = the_object i el o b h k j l in
            sym (of_object m _ (object_kind m whole _ t)) ∙ all_at (record_in_range m) (length m / 40) _ (there_object m whole _ t) e;
      }

  -- and the other way: where each is, there is no refusal 6
  pub none_outside : Within m → in_range m ≡ true
  unfolding in_range
  none_outside w =
      let whole = whole_records m laid in
      all_true (record_in_range m) (length m / 40)
      (every_record_placed (λ r. record_in_range m r ≡ true) m laid
      (record {
        update = λ i h. of_update m _ (update_kind m whole (update_at m i) (update_is m laid i h));
        element = λ i e h k.
            let q = element_kind m whole _ (element_is m whole (objects m (update_at m i)) (element_at m (update_at m i) e) (the_element i e h k)) in
            of_other m _ (λ t. omega arith) (λ t. omega arith);
        block = λ i e b h k l. of_block m _ (block_kind m whole _ (the_block i e b h k l)) ∙ w.block i e b h k l;
        object = λ i e o b h k j l. of_object m _ (object_kind m whole _ (the_object i e o b h k j l)) ∙ w.object i e o b h k j l;
      }))
