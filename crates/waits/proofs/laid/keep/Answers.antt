-- `waits::laid::keep`: one after the other, by proofs/Keeping. Assumes nothing.
use Rattle.std.proofs.Common.{◌≡◌, ℕ, ◌+◌, ◌-◌, ◌*◌, ◌≤◌, cond, leb, ltb, refl, sym, ap, subst, ◌∙◌, arith}
use Rattle.records.specs.Runs.{each}
use Rattle.records.specs.LayoutAnswers.{sent_place}
use Rattle.waits.specs.Area.{waiting_count, wait_at, waits_of}
use Rattle.waits.specs.Settled.{staying, laid_from}
use Rattle.waits.specs.declared.load.Load.{Load}
use Rattle.waits.proofs.LaidFrom.{laid_none}
use Rattle.waits.proofs.Loads.{Staying, staying_none, staying_all}
use Rattle.waits.proofs.Keeping.{below_eight, near, starts, end_found, rises, ends, position_is, kept_more, kept_less}
use Rattle.waits.proofs.laid.keep.Goals as goal
use Rattle.waits.proofs.laid.keep.Goals.{then-stays, else-stays}

pub loop-i-init : goal.loop-i-init
unfolding each
loop-i-init c = (sym (laid_none c.args.area.now 0 72), staying_none c.args.start.0 c.args.end.0 c.args.area.now _ refl refl)

pub stays-requires : goal.stays-requires
stays-requires c =
    let a = c.args in
    let r = c.requires in
    let v = c.loop-i.invariant in
    near a.area.now c.loop-i.area a.layout c.loop-i.load a.start.0 a.end.0 c.loop-i.i r.0 r.1 r.2 c.loop-i-test.true v.0 v.1

pub overflow_sub-n : goal.overflow_sub-n
overflow_sub-n c =
    let a = c.args in
    let r = c.requires in
    let v = c.loop-i.invariant in
    let s = starts a.area.now c.loop-i.area a.layout c.loop-i.load a.start.0 a.end.0 c.loop-i.i r.0 r.1 r.2 c.loop-i-test.true v.0 v.1 in
    let e = c.end_of.ensures ∙ ap (λ (k : ℕ). cond (ltb (c.loop-i.i + 1) a.layout.count) (sent_place a.layout (c.loop-i.i + 1)) k) r.3 ∙ end_found a.area.now c.loop-i.area a.layout c.loop-i.load a.start.0 a.end.0 c.loop-i.i r.0 r.1 r.2 c.loop-i-test.true v.0 v.1 in
    let u = rises a.area.now c.loop-i.area a.layout c.loop-i.load a.start.0 a.end.0 c.loop-i.i r.0 r.1 r.2 c.loop-i-test.true v.0 v.1 in
    let f = ends a.area.now c.loop-i.area a.layout c.loop-i.load a.start.0 a.end.0 c.loop-i.i r.0 r.1 r.2 c.loop-i-test.true v.0 v.1 in
    omega (arith, s, e, u)

pub overflow_mul-n : goal.overflow_mul-n
overflow_mul-n c =
    let a = c.args in
    let r = c.requires in
    let v = c.loop-i.invariant in
    let s = starts a.area.now c.loop-i.area a.layout c.loop-i.load a.start.0 a.end.0 c.loop-i.i r.0 r.1 r.2 c.loop-i-test.true v.0 v.1 in
    let e = c.end_of.ensures ∙ ap (λ (k : ℕ). cond (ltb (c.loop-i.i + 1) a.layout.count) (sent_place a.layout (c.loop-i.i + 1)) k) r.3 ∙ end_found a.area.now c.loop-i.area a.layout c.loop-i.load a.start.0 a.end.0 c.loop-i.i r.0 r.1 r.2 c.loop-i-test.true v.0 v.1 in
    let u = rises a.area.now c.loop-i.area a.layout c.loop-i.load a.start.0 a.end.0 c.loop-i.i r.0 r.1 r.2 c.loop-i-test.true v.0 v.1 in
    let f = ends a.area.now c.loop-i.area a.layout c.loop-i.load a.start.0 a.end.0 c.loop-i.i r.0 r.1 r.2 c.loop-i-test.true v.0 v.1 in
    let small : 40 * (c.end_of.result - sent_place a.layout c.loop-i.i) ≤ 48000 = omega (arith, e, f) in
    omega (arith, small)

pub overflow_mul-from : goal.overflow_mul-from
overflow_mul-from c =
    let a = c.args in
    let r = c.requires in
    let v = c.loop-i.invariant in
    let s = starts a.area.now c.loop-i.area a.layout c.loop-i.load a.start.0 a.end.0 c.loop-i.i r.0 r.1 r.2 c.loop-i-test.true v.0 v.1 in
    let e = c.end_of.ensures ∙ ap (λ (k : ℕ). cond (ltb (c.loop-i.i + 1) a.layout.count) (sent_place a.layout (c.loop-i.i + 1)) k) r.3 ∙ end_found a.area.now c.loop-i.area a.layout c.loop-i.load a.start.0 a.end.0 c.loop-i.i r.0 r.1 r.2 c.loop-i-test.true v.0 v.1 in
    let u = rises a.area.now c.loop-i.area a.layout c.loop-i.load a.start.0 a.end.0 c.loop-i.i r.0 r.1 r.2 c.loop-i-test.true v.0 v.1 in
    let f = ends a.area.now c.loop-i.area a.layout c.loop-i.load a.start.0 a.end.0 c.loop-i.i r.0 r.1 r.2 c.loop-i-test.true v.0 v.1 in
    let small : 40 * sent_place a.layout c.loop-i.i ≤ 48000 = omega (arith, s, u, f) in
    omega (arith, small)

pub overflow_add-from : goal.overflow_add-from
overflow_add-from c =
    let a = c.args in
    let r = c.requires in
    let v = c.loop-i.invariant in
    let s = starts a.area.now c.loop-i.area a.layout c.loop-i.load a.start.0 a.end.0 c.loop-i.i r.0 r.1 r.2 c.loop-i-test.true v.0 v.1 in
    let e = c.end_of.ensures ∙ ap (λ (k : ℕ). cond (ltb (c.loop-i.i + 1) a.layout.count) (sent_place a.layout (c.loop-i.i + 1)) k) r.3 ∙ end_found a.area.now c.loop-i.area a.layout c.loop-i.load a.start.0 a.end.0 c.loop-i.i r.0 r.1 r.2 c.loop-i-test.true v.0 v.1 in
    let u = rises a.area.now c.loop-i.area a.layout c.loop-i.load a.start.0 a.end.0 c.loop-i.i r.0 r.1 r.2 c.loop-i-test.true v.0 v.1 in
    let f = ends a.area.now c.loop-i.area a.layout c.loop-i.load a.start.0 a.end.0 c.loop-i.i r.0 r.1 r.2 c.loop-i-test.true v.0 v.1 in
    let small : 40 * sent_place a.layout c.loop-i.i ≤ 48000 = omega (arith, s, u, f) in
    omega (arith, small)

pub shift-load-requires : goal.shift-load-requires
shift-load-requires c =
    let a = c.args in
    let r = c.requires in
    let v = c.loop-i.invariant in
    let s = starts a.area.now c.loop-i.area a.layout c.loop-i.load a.start.0 a.end.0 c.loop-i.i r.0 r.1 r.2 c.loop-i-test.true v.0 v.1 in
    let e = c.end_of.ensures ∙ ap (λ (k : ℕ). cond (ltb (c.loop-i.i + 1) a.layout.count) (sent_place a.layout (c.loop-i.i + 1)) k) r.3 ∙ end_found a.area.now c.loop-i.area a.layout c.loop-i.load a.start.0 a.end.0 c.loop-i.i r.0 r.1 r.2 c.loop-i-test.true v.0 v.1 in
    let u = rises a.area.now c.loop-i.area a.layout c.loop-i.load a.start.0 a.end.0 c.loop-i.i r.0 r.1 r.2 c.loop-i-test.true v.0 v.1 in
    let f = ends a.area.now c.loop-i.area a.layout c.loop-i.load a.start.0 a.end.0 c.loop-i.i r.0 r.1 r.2 c.loop-i-test.true v.0 v.1 in
    let b = below_eight a.area.now c.loop-i.area a.layout c.loop-i.load a.start.0 a.end.0 c.loop-i.i r.0 r.1 r.2 c.loop-i-test.true v.0 v.1 in
    let k = v.1.few in
    let m = v.1.small in
    let z = c.loop-i.auto.area in
    (omega (arith, b, k), omega (arith, m, s), omega (arith, s, e, u, f, z, r.0), omega (arith, z, r.0))

pub loop-i-preserved : goal.loop-i-preserved
loop-i-preserved c =
    let a = c.args in
    let r = c.requires in
    let v = c.loop-i.invariant in
    let i = c.loop-i.i in
    let s = starts a.area.now c.loop-i.area a.layout c.loop-i.load a.start.0 a.end.0 c.loop-i.i r.0 r.1 r.2 c.loop-i-test.true v.0 v.1 in
    let pos = position_is a.area.now c.loop-i.area a.layout c.loop-i.load a.start.0 a.end.0 c.loop-i.i r.0 r.1 r.2 c.loop-i-test.true v.0 v.1 in
    let at = ap (leb (a.start.0 + a.end.0)) (sym (c.u64_at.ensures ∙ pos)) ∙ sym c.stays.ensures in
    elim c.if-stays.branch [
      | then-stays w ↦
          let e = w.end_of.ensures ∙ ap (λ (k : ℕ). cond (ltb (i + 1) a.layout.count) (sent_place a.layout (i + 1)) k) r.3 ∙ end_found a.area.now c.loop-i.area a.layout c.loop-i.load a.start.0 a.end.0 c.loop-i.i r.0 r.1 r.2 c.loop-i-test.true v.0 v.1 in
          let more = kept_more a.area.now c.loop-i.area a.layout c.loop-i.load a.start.0 a.end.0 c.loop-i.i r.0 r.1 r.2 c.loop-i-test.true v.0 v.1 w.shift-load.new.area w.shift-load.result (sent_place a.layout i) w.end_of.result c.u64_at.result s e (c.u64_at.ensures ∙ pos)
          (at ∙ w.if-stays.true) w.shift-load.ensures.laid w.shift-load.ensures.load.0 w.shift-load.ensures.load.1 in
          (w.area-is ∙ more.0, subst (λ (l : Load). Staying a.start.0 a.end.0 a.area.now l (i + 1)) (sym w.load-is) more.1)
      | else-stays w ↦
          let less = kept_less a.area.now c.loop-i.area a.layout c.loop-i.load a.start.0 a.end.0 c.loop-i.i r.0 r.1 r.2 c.loop-i-test.true v.0 v.1 (at ∙ w.if-stays.false) in
          (w.area-is ∙ less.0, subst (λ (l : Load). Staying a.start.0 a.end.0 a.area.now l (i + 1)) (sym w.load-is) less.1)
    ]

pub returns-clause-laid : goal.returns-clause-laid
unfolding waits_of
returns-clause-laid c =
    let a = c.args in
    let q : c.loop-i.i ≡ waiting_count a.area.now = let x = c.loop-i-test.false in let y = c.loop-i.auto.i-end in let z = c.requires.2.count in omega (arith, x, y, z) in
    c.loop-i.invariant.0 ∙ ap (λ (k : ℕ). laid_from a.area.now 0 72 (staying a.start.0 a.end.0 (each (wait_at a.area.now) k))) q

pub returns-clause-load : goal.returns-clause-load
returns-clause-load c =
    let a = c.args in
    let r = c.requires in
    let q : c.loop-i.i ≡ waiting_count a.area.now = let x = c.loop-i-test.false in let y = c.loop-i.auto.i-end in let z = c.requires.2.count in omega (arith, x, y, z) in
    (staying_all a.start.0 a.end.0 a.area.now c.loop-i.load c.loop-i.i r.1 r.0 c.loop-i.invariant.1 q).0
