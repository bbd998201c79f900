-- `waits::load::staying`: one after the other. Assumes nothing.
use Rattle.std.proofs.Common.{ℕ, ◌+◌, ◌<◌, List, leb, length, refl, sym, ap, subst, ◌∙◌, arith}
use Rattle.waits.specs.Area.{waiting_count, records_of}
use Rattle.waits.specs.declared.load.Load.{Load}
use Rattle.waits.proofs.ValidArea.{few, not_before, below_end}
use Rattle.waits.proofs.Loads.{Staying, staying_none, staying_more, staying_less, staying_all}
use Rattle.waits.proofs.load.staying.Goals as goal
use Rattle.waits.proofs.load.staying.Goals.{then-stays, else-stays}

pub loop-i-init : goal.loop-i-init
loop-i-init c = staying_none _ _ _ _ refl refl

pub position_ahead-requires : goal.position_ahead-requires
position_ahead-requires c =
    let f = few c.args.start.0 c.args.area.now c.requires.0 in
    let t = c.loop-i-test.true in
    let n = c.requires.1.count in
    omega (arith, f, t, n)

pub stays-requires : goal.stays-requires
stays-requires c =
    let one : c.loop-i.i < waiting_count c.args.area.now = let t = c.loop-i-test.true in let n = c.requires.1.count in omega (arith, t, n) in
    let a = not_before c.args.start.0 c.args.area.now c.requires.0 c.loop-i.i one in
    let b = below_end c.args.start.0 c.args.area.now c.requires.0 c.loop-i.i one in
    omega (arith, a, b)

pub loop-i-preserved : goal.loop-i-preserved
loop-i-preserved c =
    let start = c.args.start.0 in
    let n = c.args.end.0 in
    let ws = c.args.area.now in
    let i = c.loop-i.i in
    let at = ap (leb (start + n)) (sym c.position_ahead.ensures) ∙ sym c.stays.ensures in
    elim c.if-stays.branch [
      | then-stays w ↦
          let records = w.records_of.ensures ∙ ap (λ (m : List ℕ). records_of m i) c.requires.1.records in
          let bytes = w.with-load.ensures.1 ∙ ap (λ (xs : List ℕ). c.loop-i.load.bytes + length xs) records in
          subst (λ (l : Load). Staying start n ws l (i + 1)) (sym w.load-is)
          (staying_more start n ws c.loop-i.load w.with-load.result i c.loop-i.invariant (at ∙ w.if-stays.true) w.with-load.ensures.0 bytes)
      | else-stays w ↦
          subst (λ (l : Load). Staying start n ws l (i + 1)) (sym w.load-is) (staying_less start n ws c.loop-i.load i c.loop-i.invariant (at ∙ w.if-stays.false))
    ]

pub returns : goal.returns
returns c =
    let a = c.loop-i-test.false in
    let b = c.loop-i.auto.i-end in
    let n = c.requires.1.count in
    staying_all c.args.start.0 c.args.end.0 c.args.area.now c.loop-i.load c.loop-i.i c.requires.0 c.told-area c.loop-i.invariant (omega (arith, a, b, n))
