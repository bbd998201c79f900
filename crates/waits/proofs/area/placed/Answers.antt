-- `waits::area::placed`: one offset after the other. Assumes nothing.
use Rattle.std.proofs.Common.{rules, ◌≡◌, ℕ, ◌+◌, ◌-◌, cond, ltb, refl, ap, ◌∙◌, arith}
use Rattle.records.specs.Falls.{no_sample}
use Rattle.waits.specs.Settled.{falls_at}
use Rattle.waits.proofs.Placing.{placed_more}
use Rattle.waits.proofs.area.placed.Goals as goal

pub loop-i-init : goal.loop-i-init
loop-i-init c = record { room = search rules; places = λ k. refl; passed = λ k h. absurd (omega arith); ahead = λ k h. refl }

pub loop-i-preserved : goal.loop-i-preserved
unfolding falls_at
loop-i-preserved c =
    let start = c.args.start.0 in
    let is = c.offset_of-offset.ensures ∙ ap (λ (p : ℕ). cond (ltb p (start + c.args.end.0)) (p - start) no_sample) c.position_ahead.ensures in
    placed_more c.args.layout (falls_at start c.args.end.0 c.args.area.now) c.loop-i.sent c.loop-i.i c.offset_of-offset.result (let a = c.requires.few in let b = c.loop-i-test.true in omega (arith, a, b)) c.loop-i.invariant is

pub returns : goal.returns
returns c =
    let q : c.loop-i.i ≡ c.args.layout.count = let a = c.loop-i-test.false in let b = c.loop-i.auto.i-end in omega (arith, a, b) in
    let p = c.loop-i.invariant in
    record {
      count = refl;
      places = p.places;
      offsets = λ i h. p.passed i (omega (arith, h, q));
      past = λ i h. p.ahead i (omega (arith, h, q));
    }
