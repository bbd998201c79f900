-- The definitions run: small lists that are laid out, and some that are not. Assumes nothing.
use Prim.Native.Nat.{ℕ, ◌-◌}
use mathlib.Core.Path.{◌≡◌, refl}
use mathlib.Core.Bool.{true, false}
use mathlib.Core.List.{List, [], ◌∷◌, ◌++◌}
use lib.ListN.{length, replicate}
use Rattle.fields.specs.RecordBytes.{all}
use Rattle.records.specs.Runs.{some, last}
use Rattle.fields.specs.Update.{codes_fit, is_update}
use Rattle.fields.specs.Block.{is_element, is_block}
use Rattle.fields.specs.Object.{values_fit, is_object}
use Rattle.records.specs.Laid.{is_whole_element, element_at, is_whole_update, update_at, is_updates, laid_out, count}

-- a record that starts with these bytes
abbrev start : List ℕ → List ℕ
start l = l ++ replicate (40 - length l) 0

-- an update at sample 64 with one object that is a bed on code 2, and one element
update : List ℕ
update = start (1 ∷ 0 ∷ 64 ∷ 0 ∷ 1 ∷ 1 ∷ 1 ∷ 1 ∷ 2 ∷ [])

element : List ℕ
element = start (2 ∷ 1 ∷ [])

block : List ℕ
block = start (3 ∷ [])

-- an object with gain 1.0
object : List ℕ
object = start (4 ∷ 0 ∷ 4 ∷ 0 ∷ 0 ∷ 0 ∷ 128 ∷ 63 ∷ [])

nothing : laid_out [] ≡ true
unfolding laid_out is_updates is_whole_update is_update update_at all some
nothing = refl

one_update : laid_out (update ++ (element ++ (block ++ object))) ≡ true
unfolding update element block object laid_out is_updates is_whole_update is_update codes_fit is_whole_element is_element is_block is_object values_fit element_at update_at all some
one_update = refl

one_counted : count (update ++ (element ++ (block ++ object))) ≡ 1
unfolding update element block object count is_updates is_whole_update is_update codes_fit is_whole_element is_element is_block is_object values_fit element_at update_at all last
one_counted = refl

-- the object's record is missing
cut_short : laid_out (update ++ (element ++ block)) ≡ false
unfolding update element block laid_out is_updates is_whole_update is_update codes_fit is_whole_element is_element is_block is_object values_fit element_at update_at all some
cut_short = refl

-- the object stands before the block
wrong_order : laid_out (update ++ (element ++ (object ++ block))) ≡ false
unfolding update element block object laid_out is_updates is_whole_update is_update codes_fit is_whole_element is_element is_block is_object values_fit element_at update_at all some
wrong_order = refl
