-- Document 01, "Who can cause a refusal", over the whole metadata. "5: records not as laid out .. or a count over its limit" is `laid_out` of specs/Laid; 6 is a value outside
-- its range, which `fields/specs/Block` and `fields/specs/Object` quote; "Lowest number first among 1 to 8". Assumes nothing.
use Rattle.std.specs.Prelude.{ℕ, ◌/◌, Bool, true, cond, List, eqb, length}
use Rattle.fields.specs.RecordBytes.{all, kind}
use Rattle.fields.specs.Block.{block_of, block_in_range}
use Rattle.fields.specs.Object.{object_of, depth_fits, object_in_range}
use Rattle.records.specs.Laid.{laid_out}

-- the values of record r, by its kind
unfoldable pub record_in_range : List ℕ → ℕ → Bool
record_in_range m r = cond (eqb (kind m r) 3) (block_in_range (block_of m r)) (cond (eqb (kind m r) 4) (object_in_range (object_of m r)) true)

-- each record of a list that is laid out
unfoldable pub in_range : List ℕ → Bool
in_range m = all (record_in_range m) (length m / 40)

-- R-12: what is asked of records that wait in a state block, "its floats of any bits": blocks and depth factors as above, gains, sizes and sends as they come
unfoldable pub record_fits : List ℕ → ℕ → Bool
record_fits m r = cond (eqb (kind m r) 3) (block_in_range (block_of m r)) (cond (eqb (kind m r) 4) (depth_fits m r) true)

unfoldable pub all_fit : List ℕ → Bool
all_fit m = all (record_fits m) (length m / 40)

-- 5, 6, or 0 for neither
unfoldable pub refusal : List ℕ → ℕ
refusal m = cond (laid_out m) (cond (in_range m) 0 6) 5
