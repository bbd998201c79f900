-- `later::check_walk`: nothing was found before t. Assumes nothing.
use Prim.Native.Nat.{ℕ, suc, ◌<◌}
use mathlib.Core.Path.{◌≡◌, sym, ap, ◌∙◌}
use native.Mathlib.Omega.{arith}
use native.Mathlib.Numerals.{unary_clauses}
use Rattle.clock.proofs.Before.{more_left}
use Rattle.records.specs.declared.metadata.Metadata.{Metadata}
use Rattle.rules.specs.Leaves.{Shape}
use Rattle.rules.specs.Refusals.{Found, clear, ◌then◌}
use Rattle.refusals.specs.FirstFound.{IsAfter}
use Rattle.refusals.specs.PresentShape.{present_shape}
use Rattle.refusals.specs.declared.Frame.{Frame}
use Rattle.refusals.specs.declared.present.Present.{Present}
use Rattle.refusals.proofs.First.{handed_on, chain_stops, chain_passes}
use Rattle.refusals.proofs.Sent.{after_both}
use Rattle.refusals.proofs.Walks.{Walking, told_here, counted_at, after, mixed, from, next_inside, next_later, walk_step, walk_skips}
use Rattle.refusals.proofs.later.check_walk.Goals as goal

pub loop-metadata-init : goal.loop-metadata-init
loop-metadata-init c = (omega arith, simp unary_clauses)

abbrev walking : Metadata → Frame → Walking
walking k f = record { kept = k; own = f.metadata; objects = f.n.objects; codes = f.codes.list.now; end = f.n.samples }

-- ---- one turn: the shape p before the updates at t, and what is found from there on

module _ (w : Walking) (t : ℕ) (p : Present) (whole : Found) (below : t < w.end) (rest : from w t (present_shape p) ≡ whole) where
  turn : (counted_at w t then (mixed w (after w t (present_shape p)) then from w (suc t) (after w t (present_shape p)))) ≡ whole
  turn = walk_step w t (present_shape p) below ∙ rest

  -- 11 found nothing, and q is the shape after the updates
  no_counts : clear ≡ counted_at w t → (q : Present) → present_shape q ≡ after w t (present_shape p)
      → (mixed w (present_shape q) then from w (suc t) (present_shape q)) ≡ whole
  no_counts none q now = ap (λ (s : Shape). mixed w s then from w (suc t) s) now ∙ chain_passes (counted_at w t) _ whole turn none

-- the shape after both lists' updates
both : (w : Walking) (t : ℕ) (p q r : Present) → IsAfter w.kept t p q → IsAfter w.own t q r → present_shape r ≡ after w t (present_shape p)
both w t p q r a b = after_both w.kept w.own t p q r a b (told_here w) w.objects w.codes

-- ---- the answers

pub returns-in_err-check_both : goal.returns-in_err-check_both
returns-in_err-check_both c =
    let a = c.args in
    let l = c.loop-metadata in
    let w = walking a.kept.now a.frame in
    let below = more_left _ _ _ c.lt.ensures c.loop-metadata-test.true in
    handed_on _ _ c.from_residual.ensures.1 (chain_stops (counted_at w l.t.0) _ _ (turn w l.t.0 l.present _ below l.invariant.1) c.in_err-check_both.field-0.0 (c.in_err-check_both.ensures (told_here w) w.codes))

pub returns-in_err-check_beds : goal.returns-in_err-check_beds
returns-in_err-check_beds c =
    let a = c.args in
    let l = c.loop-metadata in
    let w = walking a.kept.now a.frame in
    let q = c.present_after-present in
    let below = more_left _ _ _ c.lt.ensures c.loop-metadata-test.true in
    let now = no_counts w l.t.0 l.present _ below l.invariant.1 (c.in_ok-check_both.ensures (told_here w) w.codes) q.result (both w l.t.0 l.present c.present_after.result q.result c.present_after.ensures q.ensures) in
    handed_on _ _ c.from_residual-in_err-check_beds.ensures.1 (chain_stops (mixed w (present_shape q.result)) _ _ now c.in_err-check_beds.field-0.0 c.in_err-check_beds.ensures)

pub loop-metadata-smaller : goal.loop-metadata-smaller
loop-metadata-smaller c =
    let w = walking c.args.kept.now c.args.frame in
    let t = c.loop-metadata.t.0 in
    let b = more_left _ _ _ c.lt.ensures c.loop-metadata-test.true in
    let n : t < c.next_offset-t.result.0 = rw (c.next_offset-t.ensures, c.next_offset.ensures) (next_later w t b) in
    omega arith

pub loop-metadata-preserved : goal.loop-metadata-preserved
loop-metadata-preserved c =
    let l = c.loop-metadata in
    let t = l.t.0 in
    let w = walking c.args.kept.now c.args.frame in
    let q = c.present_after-present in
    let s = present_shape q.result in
    let below = more_left _ _ _ c.lt.ensures c.loop-metadata-test.true in
    let now = no_counts w t l.present _ below l.invariant.1 (c.in_ok-check_both.ensures (told_here w) w.codes) q.result
    (both w t l.present c.present_after.result q.result c.present_after.ensures q.ensures) in
    let clear = c.in_ok-check_beds.ensures in (
      rw (c.next_offset-t.ensures, c.next_offset.ensures) (next_inside w t),
      rw (c.next_offset-t.ensures, c.next_offset.ensures) (sym (walk_skips w t s below (sym clear)) ∙ chain_passes (mixed w s) (from w (suc t) s) _ now clear),
    )
