-- What a caller may rely on where a list is laid out: each update, element, block and object is there, with counts within their limits. Assumes nothing.
use Prim.Native.Nat.{ℕ, suc, ◌+◌, ◌-◌, ◌*◌, ◌%◌, ◌<◌, ◌≤◌}
use mathlib.Core.Path.{◌≡◌, ap}
use mathlib.Core.Bool.{true, ◌||◌, ◌&&◌}
use mathlib.Core.List.{List}
use native.Mathlib.Nat.{mul-le-mul_right, suc-mul}
use native.Mathlib.Omega.{arith}
use lib.Dec.{eqb, leb}
use lib.ListN.{length, get_or}
use borrow.Author.Tests.{leb-true, lt-ltb}
use Rattle.fields.specs.RecordBytes.{all, byte, kind}
use Rattle.fields.specs.Update.{objects, bed_or_isf_of, beds, elements, counts_fit, most_at, codes_fit, is_update}
use Rattle.fields.specs.Block.{blocks, is_element, is_block}
use Rattle.fields.specs.Object.{is_object}
use Rattle.records.specs.Laid.{block_at, object_at, element_at, update_at, is_whole_element, is_whole_update, is_updates, laid_out, count}
use Rattle.fields.proofs.All.{and_left, and_right, all_at}
use Rattle.records.proofs.SomeAndLast.{some_last}
use Rattle.records.proofs.RecordKinds.{there_update, there_element, there_block, there_object, few_blocks}
use Rattle.records.proofs.Updates.{each_whole, whole_list}

-- the counts of an update's record
pub record Counts (m : List ℕ) (u : ℕ) : Type 0 where
  pub few_objects : objects m u ≤ 32
  pub few_dynamic : objects m u - bed_or_isf_of m u ≤ 16
  pub few_beds : beds m u ≤ 18
  pub beds_are_objects : beds m u ≤ objects m u
  pub few_elements : elements m u ≤ 2
  pub codes_listed : (k : ℕ) → k < beds m u → byte m u (8 + k) ≤ 17

listed : (m : List ℕ) (u k : ℕ) → k < beds m u → beds m u ≤ 18 → codes_fit m (40 * u + 8) (beds m u) ≡ true → byte m u (8 + k) ≤ 17
unfolding codes_fit
listed m u k h few e =
    let c : get_or m (40 * u + 8 + k) 0 ≤ most_at k (beds m u) = leb-true _ _ (all_at (λ j. leb (get_or m (40 * u + 8 + j) 0) (most_at j (beds m u))) 18 k (omega arith) e) in
    let q : get_or m (40 * u + 8 + k) 0 ≡ byte m u (8 + k) = ap (λ (i : ℕ). get_or m i 0) (let a : 40 * u + 8 + k ≡ 40 * u + (8 + k) = omega arith in a) in
    let d : get_or m (40 * u + 8 + k) 0 ≤ 17 = rw (lt-ltb k (beds m u) h) at c in
    omega arith

-- ---- each part of a list of whole records
module _ (m : List ℕ) (whole : length m % 40 ≡ 0) where
  pub update_counts : (u : ℕ) → is_update m u ≡ true → Counts m u
  unfolding is_update codes_fit
  update_counts u e =
      let head = (eqb (kind m u) 1 || eqb (kind m u) 9) && eqb (byte m u 1) 0 in
      let four = leb (objects m u) 32 && leb (objects m u - bed_or_isf_of m u) 16 && leb (beds m u) 18 && leb (beds m u) (objects m u) in
      let fit : counts_fit (objects m u) (bed_or_isf_of m u) (beds m u) (elements m u) ≡ true = and_right head _ (and_left _ _ (and_left _ _ e)) in
      let some = and_left four _ fit in
      let three = and_left (leb (objects m u) 32 && leb (objects m u - bed_or_isf_of m u) 16 && leb (beds m u) 18) _ some in
      let two = and_left (leb (objects m u) 32 && leb (objects m u - bed_or_isf_of m u) 16) _ three in
      let codes : codes_fit m (40 * u + 8) (beds m u) ≡ true = and_right (head && counts_fit (objects m u) (bed_or_isf_of m u) (beds m u) (elements m u)) _ (and_left _ _ e) in
      let few = leb-true _ _ (and_right (leb (objects m u) 32 && leb (objects m u - bed_or_isf_of m u) 16) _ three) in
      record {
        few_objects = leb-true _ _ (and_left (leb (objects m u) 32) _ two);
        few_dynamic = leb-true _ _ (and_right (leb (objects m u) 32) _ two);
        few_beds = few;
        beds_are_objects = leb-true _ _ (and_right (leb (objects m u) 32 && leb (objects m u - bed_or_isf_of m u) 16 && leb (beds m u) 18) _ some);
        few_elements = leb-true _ _ (and_right four _ fit);
        codes_listed = λ k h. listed m u k h few codes;
      }

  -- the update at u, its element e
  module _ (u e : ℕ) (update : is_whole_update m u ≡ true) (one : e < elements m u) where
    pub element_whole : is_whole_element m (objects m u) (element_at m u e) ≡ true
    unfolding is_whole_update
    element_whole = all_at (λ k. is_whole_element m (objects m u) (element_at m u k)) (elements m u) e one (and_right (is_update m u) _ update)

  -- the element at e of n objects
  module _ (n e : ℕ) (element : is_whole_element m n e ≡ true) where
    first : (is_element m e && all (λ b. is_block m (block_at e b)) (blocks m e)) ≡ true
    unfolding is_whole_element
    first = and_left (is_element m e && all (λ b. is_block m (block_at e b)) (blocks m e)) _ element

    pub element_is : is_element m e ≡ true
    element_is = and_left (is_element m e) _ first

    pub element_place : 40 * e + 40 ≤ length m
    element_place = let l = there_element m whole e element_is in omega arith

    pub blocks_few : blocks m e ≤ 8
    blocks_few = few_blocks m whole e element_is

    pub block_is : (b : ℕ) → b < blocks m e → is_block m (block_at e b) ≡ true
    block_is b h = all_at (λ k. is_block m (block_at e k)) (blocks m e) b h (and_right (is_element m e) _ first)

    pub block_place : (b : ℕ) → b < blocks m e → 40 * block_at e b + 40 ≤ length m
    block_place b h = let l = there_block m whole (block_at e b) (block_is b h) in omega arith

    cell : (o b : ℕ) → o < n → b < blocks m e → o * blocks m e + b < n * blocks m e
    cell o b h k =
        let l : suc o * blocks m e ≤ n * blocks m e = mul-le-mul_right (blocks m e) h in
        omega (arith, suc-mul o (blocks m e))

    pub object_is : (o b : ℕ) → o < n → b < blocks m e → is_object m (object_at m e (o * blocks m e + b)) ≡ true
    unfolding is_whole_element
    object_is o b h k =
        all_at (λ j. is_object m (object_at m e j)) (n * blocks m e) (o * blocks m e + b) (cell o b h k)
        (and_right (is_element m e && all (λ b. is_block m (block_at e b)) (blocks m e)) _ element)

    pub object_place : (o b : ℕ) → o < n → b < blocks m e → 40 * object_at m e (o * blocks m e + b) + 40 ≤ length m
    object_place o b h k = let l = there_object m whole (object_at m e (o * blocks m e + b)) (object_is o b h k) in omega arith

-- ---- a list that is laid out
module _ (m : List ℕ) (laid : laid_out m ≡ true) where
  pub found : is_updates m (count m) ≡ true
  unfolding laid_out count
  found = some_last (is_updates m) 17 laid

  pub whole_records : length m % 40 ≡ 0
  whole_records = let e = whole_list m (count m) found in omega arith

  pub update_whole : (i : ℕ) → i < count m → is_whole_update m (update_at m i) ≡ true
  update_whole i h = each_whole m (count m) i h found

  pub update_is : (i : ℕ) → i < count m → is_update m (update_at m i) ≡ true
  unfolding is_whole_update
  update_is i h = and_left (is_update m (update_at m i)) _ (update_whole i h)

  pub update_place : (i : ℕ) → i < count m → 40 * update_at m i + 40 ≤ length m
  update_place i h = let l = there_update m whole_records (update_at m i) (update_is i h) in omega arith
