-- Which lists of bytes are "records as laid out": document 01, "What a call receives", "Order: update; per element its record, its blocks, then for each
-- object all blocks." A record's kind is above 0 and nothing stands past the list's end, so each test of a kind also says that the record is there.
-- Assumes nothing.
use Rattle.std.specs.Prelude.{ℕ, zero, suc, ◌+◌, ◌*◌, Bool, ◌&&◌, List, eqb, length}
use Rattle.fields.specs.RecordBytes.{all}
use Rattle.fields.specs.Update.{objects, elements, is_update}
use Rattle.fields.specs.Block.{blocks, is_element, is_block}
use Rattle.fields.specs.Object.{is_object}
use Rattle.records.specs.Runs.{some, last}

-- ---- an element

-- the record of block b of the element at e
abbrev pub block_at : ℕ → ℕ → ℕ
block_at e b = e + 1 + b

-- the k-th record after the blocks of the element at e: object o in block b is the one at o * blocks + b
abbrev pub object_at : List ℕ → ℕ → ℕ → ℕ
object_at m e k = e + 1 + blocks m e + k

-- the record after the element at e, of an update of n objects
abbrev pub element_end : List ℕ → ℕ → ℕ → ℕ
element_end m n e = e + 1 + blocks m e + n * blocks m e

-- "per element its record, its blocks, then for each object all blocks": the element at e, of an update of n objects
unfoldable pub is_whole_element : List ℕ → ℕ → ℕ → Bool
is_whole_element m n e = is_element m e && all (λ b. is_block m (block_at e b)) (blocks m e) && all (λ k. is_object m (object_at m e k)) (n * blocks m e)

-- ---- an update

-- the record of element e of the update at u
unfoldable pub element_at : List ℕ → ℕ → ℕ → ℕ
element_at m u zero = u + 1
element_at m u (suc e) = element_end m (objects m u) (element_at m u e)

-- the record after the update at u
abbrev pub update_end : List ℕ → ℕ → ℕ
update_end m u = element_at m u (elements m u)

-- "update; per element ..": the update at u with its elements
unfoldable pub is_whole_update : List ℕ → ℕ → Bool
is_whole_update m u = is_update m u && all (λ e. is_whole_element m (objects m u) (element_at m u e)) (elements m u)

-- ---- the list

-- the record of update i
unfoldable pub update_at : List ℕ → ℕ → ℕ
update_at m zero = 0
update_at m (suc i) = update_end m (update_at m i)

-- m is n updates, one after the other, and nothing more
unfoldable pub is_updates : List ℕ → ℕ → Bool
is_updates m n = all (λ i. is_whole_update m (update_at m i)) n && eqb (40 * update_at m n) (length m)

-- "a frame has up to 16 updates": no refusal 5
unfoldable pub laid_out : List ℕ → Bool
laid_out m = some (is_updates m) 17

-- how many updates a list has that is laid out
unfoldable pub count : List ℕ → ℕ
count m = last (is_updates m) 17
