-- `waits::load::waiting`: one own update after the other. Assumes nothing.
use Rattle.std.proofs.Common.{ℕ, ◌+◌, ◌&&◌, List, leb, length, sym, ap, ap₂, subst, ◌∙◌, arith}
use Rattle.fields.specs.Update.{is_far, offset}
use Rattle.waits.specs.declared.load.Load.{Load}
use Rattle.waits.proofs.Loads.{Loaded, loaded_none, loaded_more, loaded_less, loaded_all}
use Rattle.waits.proofs.load.waiting.Goals as goal
use Rattle.waits.proofs.load.waiting.Goals.{then-comes, else-comes}

pub loop-i-init : goal.loop-i-init
loop-i-init c = loaded_none _ _ _ _ _ c.staying-load.ensures.0 c.staying-load.ensures.1 c.staying-load.ensures.2

pub loop-i-preserved : goal.loop-i-preserved
loop-i-preserved c =
    let start = c.args.start.0 in
    let n = c.args.end.0 in
    let ws = c.args.area.now in
    let m = c.args.own.records.now in
    let i = c.loop-i.i in
    let u = c.update.ensures in
    let at = sym (ap₂ (λ (x : List ℕ) (k : ℕ). is_far x k && leb n (offset x k)) u.0 u.1) ∙ sym c.comes.ensures in
    elim c.if-comes.branch [
      | then-comes w ↦
          let bytes = w.with-load.ensures.1 ∙ ap (λ (xs : List ℕ). c.loop-i.load.bytes + length xs) w.records_of.ensures in
          subst (λ (l : Load). Loaded start n ws m l (i + 1)) (sym w.load-is)
          (loaded_more start n ws m c.loop-i.load w.with-load.result i c.loop-i.invariant (at ∙ w.if-comes.true) w.with-load.ensures.0 bytes)
      | else-comes w ↦
          subst (λ (l : Load). Loaded start n ws m l (i + 1)) (sym w.load-is) (loaded_less start n ws m c.loop-i.load i c.loop-i.invariant (at ∙ w.if-comes.false))
    ]

pub returns : goal.returns
returns c =
    let a = c.loop-i-test.false in
    let b = c.loop-i.auto.i-end in
    let n = c.args.own.laid.counted in
    loaded_all c.args.start.0 c.args.end.0 c.args.area.now c.args.own.records.now c.loop-i.load c.loop-i.i c.loop-i.invariant (omega (arith, a, b, n))
