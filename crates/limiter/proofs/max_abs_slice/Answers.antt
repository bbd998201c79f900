-- `limiter::max_abs_slice` meets its contract: the sixteen maxima and what is left have the bounds of the whole. Assumes nothing.
use mathlib.Core.Path.{◌≡◌, ap, ◌∙◌, sym, subst}
use mathlib.Core.List.{List, [], map}
use Prim.Native.Nat.{ℕ, ◌*◌, ◌/◌}
use native.Mathlib.Omega.{arith}
use lib.ListN.{length, get_or, take, drop}
use lib.Ieee.{Float, of_bits}
use lib.Lanes.{zip2}
use Rattle.ieee.specs.Small.{absolute, larger}
use Rattle.limiter.specs.Limiter.{peak_from}
use Rattle.limiter.proofs.Peaks.{zero_level}
use Rattle.limiter.proofs.Lanes.{Lanes, lanes_start, lanes_next, lanes_rest, chunk_is}
use Rattle.limiter.proofs.max_abs_slice.Goals as goal

pub loop-x-init : goal.loop-x-init
unfolding of_bits
loop-x-init c = lanes_start c.args.samples.now c.type_inv.samples

pub loop-x-preserved : goal.loop-x-preserved
loop-x-preserved c =
    let xs = c.args.samples.now in
    let l = c.loop-x in
    let r = c.raise_lanes-lanes in
    let e : get_or c.as_chunks.result.0.now l.x-index [] ≡ take 16 (drop (16 * l.x-index) xs) =
    ap (λ (zs : List (List Float)). get_or zs l.x-index []) c.as_chunks.ensures.front ∙ chunk_is 16 (length xs / 16) l.x-index xs (omega arith) in
    lanes_next l.lanes r.result xs l.x-index (omega arith) (omega arith) l.invariant (r.ensures.0 ∙ ap (λ (ys : List Float). zip2 larger l.lanes (map absolute ys)) e) r.ensures.1

pub max_abs_from-requires : goal.max_abs_from-requires
unfolding of_bits
max_abs_from-requires c = zero_level

pub returns : goal.returns
unfolding of_bits
returns c =
    let xs = c.args.samples.now in
    let ms = c.loop-x.lanes in
    let rest = c.as_chunks.result.1.now in
    let e : 16 * c.loop-x.x-index ≡ length xs / 16 * 16 = omega arith in
    let l : Lanes ms rest xs = subst (λ (ys : List Float). Lanes ms ys xs) (ap (λ (j : ℕ). drop j xs) e ∙ sym c.as_chunks.ensures.back) c.loop-x.invariant in
    let r = c.max_abs_from-2.ensures in
    (r.0 ∙ ap (λ (m : Float). peak_from m rest) c.max_abs_from.ensures.0 ∙ lanes_rest ms rest xs c.type_inv.samples l, r.1)
