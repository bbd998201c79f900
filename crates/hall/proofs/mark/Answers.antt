-- `mark`: each way out by its law.
use Prim.Native.Nat.{ℕ, ◌≤◌}
use mathlib.Core.Path.{◌≡◌, refl, sym, ap, ap₂, ◌∙◌}
use mathlib.Core.Bool.{Bool, true, not, beq}
use mathlib.Core.List.{List, ◌++◌}
use native.Mathlib.Omega.{arith}
use Rattle.words.specs.Words.{words_at}
use Rattle.store.specs.Fields.{small_of}
use Rattle.store.specs.Layout.{small_width, size, encode}
use Rattle.store.specs.Steps.{with_state}
use Rattle.store.specs.declared.renderer.Renderer714.{Renderer714}
use Rattle.rendering.specs.Held.{held}
use Rattle.theorem.specs.Instance.{block_valid, front, area_of}
use Rattle.rules.specs.Calls.{mark}
use Rattle.store.proofs.Decoded.{bytes_take}
use Rattle.hall.proofs.WaysOut.{made_as, wrong}
use Rattle.hall.proofs.Known.{valid_whole, valid_front, loaded_ranged, whole_again}
use Rattle.hall.proofs.Marking.{most, most_within, unnumbered, known, noted}
use Rattle.hall.proofs.mark.Goals as goal
use Rattle.hall.proofs.mark.Goals.{After-load-s}

-- the block is valid, and s is loaded from it
module _ (c : After-load-s) where
  is_valid : block_valid c.args.state.now ≡ true
  is_valid = sym c.is_valid.ensures ∙ c.if-not-is_valid.false

  is_loaded : c.load-s.result ≡ small_of (words_at (front c.args.state.now) 0 small_width)
  is_loaded = rw (rw c.unwrap-block.ensures at c.first_chunk_mut.ensures.cases).same at c.load-s.ensures

  at_most : most c.load-s.result.state ≤ 16
  at_most = most_within c.load-s.result.state (loaded_ranged (front c.args.state.now) c.load-s.result is_loaded (bytes_take size c.args.state.now (λ i. omega (arith, c.slice_known-1.given i))) (valid_front c.args.state.now is_valid)).meta.state.within

pub unwrap-block-requires : goal.unwrap-block-requires
unwrap-block-requires c =
    let l = valid_whole c.args.state.now (sym c.is_valid.ensures ∙ c.if-not-is_valid.false) in
    c.first_chunk_mut.ensures.variant.1 (omega (arith, l))

pub returns-then-not-is_valid-clause-left : goal.returns-then-not-is_valid-clause-left
returns-then-not-is_valid-clause-left c =
    let a = c.args in
    made_as (wrong (mark a.wanted a.object) a.state.now (sym c.is_valid.ensures ∙ c.if-not-is_valid.true)) (record { answer = refl; block = refl })

pub returns-then-d-held_most-clause-left : goal.returns-then-d-held_most-clause-left
returns-then-d-held_most-clause-left c =
    let a = c.args in
    let p = (goal.at.returns-then-d-held_most-clause-left c).After-load-s in
    let whole = (rw c.unwrap-block.ensures at c.first_chunk_mut.ensures.cases).same in
    unnumbered a.wanted a.object a.state.now (is_valid p) c.load-s.result (is_loaded p) (rw c.held_most.ensures at c.if-d-held_most.true) (whole_again a.state.now whole)

pub wants-requires : goal.wants-requires
wants-requires c =
    let l = rw c.held_most.ensures at c.if-d-held_most.false in
    omega (arith, l, at_most (goal.at.wants-requires c).After-load-s)

pub want-requires : goal.want-requires
want-requires c =
    let l = rw c.held_most.ensures at c.if-d-held_most.false in
    omega (arith, l, at_most (goal.at.want-requires c).After-load-s)

pub returns-then-wants-wanted-clause-left : goal.returns-then-wants-wanted-clause-left
returns-then-wants-wanted-clause-left c =
    let a = c.args in
    let p = (goal.at.returns-then-wants-wanted-clause-left c).After-load-s in
    let whole = (rw c.unwrap-block.ensures at c.first_chunk_mut.ensures.cases).same in
    noted a.wanted a.object a.state.now (is_valid p) c.load-s.result (is_loaded p) (rw c.held_most.ensures at c.if-d-held_most.false)
    (ap (λ (b : Bool). not (beq b a.wanted)) (sym c.wants.ensures) ∙ c.if-wants-wanted.true)
    (ap (λ (t : List ℕ). t ++ area_of a.state.now) (c.save.ensures.1
    ∙ ap₂ (λ (x : Renderer714) (b : List ℕ). encode (held x b)) (c.with_state.ensures ∙ ap (with_state c.load-s.result) c.want.ensures) whole))

pub returns-else-wants-wanted-clause-left : goal.returns-else-wants-wanted-clause-left
returns-else-wants-wanted-clause-left c =
    let a = c.args in
    let p = (goal.at.returns-else-wants-wanted-clause-left c).After-load-s in
    let whole = (rw c.unwrap-block.ensures at c.first_chunk_mut.ensures.cases).same in
    known a.wanted a.object a.state.now (is_valid p) c.load-s.result (is_loaded p) (rw c.held_most.ensures at c.if-d-held_most.false)
    (ap (λ (b : Bool). not (beq b a.wanted)) (sym c.wants.ensures) ∙ c.if-wants-wanted.false) (whole_again a.state.now whole)
