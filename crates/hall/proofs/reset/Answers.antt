-- `reset`: a block of another length, or with a hall out of its range, is left; any other is filled.
use Prim.Native.Nat.{ℕ}
use mathlib.Core.Path.{refl, sym, ap, ap₂, ◌∙◌}
use mathlib.Core.List.{List}
use borrow.Author.Tests.{eq-eqb, ne_eqb}
use Rattle.rules.specs.Samples.{fresh}
use Rattle.rules.specs.Calls.{reset}
use Rattle.store.specs.Layout.{layout_of, table_in}
use Rattle.store.specs.ValidBlocks.{hall_valid}
use Rattle.theorem.specs.Instance.{hall, block_encode}
use Rattle.hall.proofs.WaysOut.{made_as, wrong, too_short, no_hall, resets}
use Rattle.hall.proofs.reset.Goals as goal

pub returns-then-state-ne-STATE_BYTES-clause-left : goal.returns-then-state-ne-STATE_BYTES-clause-left
returns-then-state-ne-STATE_BYTES-clause-left c =
    let b = c.args.state.now in
    made_as (wrong reset b (too_short b (ne_eqb _ _ c.if-state-ne-STATE_BYTES.true))) (record { answer = refl; block = refl })

pub returns-then-not-hall_valid-clause-left : goal.returns-then-not-hall_valid-clause-left
returns-then-not-hall_valid-clause-left c =
    let e = (rw c.unwrap-block.ensures at c.first_chunk.ensures.cases).same in
    made_as (no_hall c.args.state.now (eq-eqb _ _ c.if-state-ne-STATE_BYTES.false) (ap hall_valid (sym e) ∙ sym c.hall_valid.ensures ∙ c.if-not-hall_valid.true))
    (record { answer = refl; block = refl })

pub returns-clause-left : goal.returns-clause-left
returns-clause-left c =
    let e = (rw c.unwrap-block.ensures at c.first_chunk.ensures.cases).same in
    made_as (resets c.args.state.now (eq-eqb _ _ c.if-state-ne-STATE_BYTES.false) (ap hall_valid (sym e) ∙ sym c.hall_valid.ensures ∙ c.if-not-hall_valid.false))
    (record {
      answer = refl;
      block =
          c.make.ensures
          ∙ ap₂ (λ (n : ℕ) (w : List ℕ). block_encode (fresh hall (record { layout = n; table = w }))) (c.layout-layout.ensures ∙ ap layout_of e)
          (c.table-table.ensures ∙ ap table_in e);
    })
