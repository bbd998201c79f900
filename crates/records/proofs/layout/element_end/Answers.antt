-- `records::layout::element_end`: the tests of an element in turn. Assumes nothing.
use Prim.Native.Nat.{◌≤◌}
use mathlib.Core.Path.{◌≡◌, sym, ◌∙◌}
use mathlib.Core.Bool.{true}
use Rattle.fields.specs.Block.{blocks, is_element, is_block}
use Rattle.fields.specs.Object.{is_object}
use Rattle.records.proofs.RecordKinds.{few_blocks, told}
use Rattle.records.proofs.Ends.{broken_if, at_if}
use Rattle.records.proofs.Within.{end_is, no_blocks, no_objects, whole_element}
use Rattle.records.proofs.layout.element_end.Goals as goal
use Rattle.records.proofs.layout.element_end.Goals.{Else-not-is_element}

-- an element's record stands at e
held : (c : Else-not-is_element) → is_element c.args.meta.now c.args.e ≡ true
held c = sym c.is_element.ensures ∙ c.if-not-is_element.false

few : (c : Else-not-is_element) → blocks c.args.meta.now c.args.e ≤ 8
few c = few_blocks _ c.requires.0 _ (held c)

pub returns-then-not-all_pass : goal.returns-then-not-all_pass
returns-then-not-all_pass c =
    let m = c.args.meta.now in
    let no = sym (c.all_pass.ensures (is_block m) (told is_block m)) ∙ c.if-not-all_pass.true in
    broken_if _ _ (no_blocks _ _ _ (held (goal.at.returns-then-not-all_pass c).Else-not-is_element) _ c.blocks-blocks.ensures.0 no)

pub returns-then-not-all_pass-2 : goal.returns-then-not-all_pass-2
returns-then-not-all_pass-2 c =
    let m = c.args.meta.now in
    let are = sym (c.all_pass.ensures (is_block m) (told is_block m)) ∙ c.if-not-all_pass.false in
    let no = sym (c.all_pass-2.ensures (is_object m) (told is_object m)) ∙ c.if-not-all_pass-2.true in
    broken_if _ _ (no_objects _ _ _ (held (goal.at.returns-then-not-all_pass-2 c).Else-not-is_element) _ c.blocks-blocks.ensures.0 are _ c.cells-n.ensures.0 no)

pub returns : goal.returns
returns c =
    let m = c.args.meta.now in
    let are = sym (c.all_pass.ensures (is_block m) (told is_block m)) ∙ c.if-not-all_pass.false in
    let whole = sym (c.all_pass-2.ensures (is_object m) (told is_object m)) ∙ c.if-not-all_pass-2.false in
    let h = held (goal.at.returns c).Else-not-is_element in
    let q = c.blocks-blocks.ensures.0 in
    let l = c.cells-n.ensures.0 in
    at_if _ _ _ (whole_element _ _ _ h _ q are _ l whole) (end_is _ _ _ h _ q _ l)
