-- `waits::laid::lay`: one record more. Assumes nothing.
use Rattle.std.proofs.Common.{◌≡◌, ℕ, ◌+◌, ◌-◌, ◌*◌, ◌≤◌, List, ◌++◌, length, take, drop, sym, ap, ap₂, ◌∙◌, arith}
use lib.ListN.{length-drop}
use lib.Seq.{length-take-le, drop-drop}
use borrow.Rule.Slice.PartAt.{part_to_end}
use Rattle.waits.specs.Settled.{with_run}
use Rattle.waits.proofs.Runs.{run_more}
use Rattle.waits.proofs.laid.lay.Goals as goal

-- forty bytes of a list that has them
forty : (s : List ℕ) (at : ℕ) → at + 40 ≤ length s → length (take 40 (drop at s)) ≡ 40
forty s at h = length-take-le 40 (drop at s) (omega (arith, h, length-drop at s))

pub slice_bounds-copy_from_slice-end-in-loop-k : goal.slice_bounds-copy_from_slice-end-in-loop-k
slice_bounds-copy_from_slice-end-in-loop-k c =
    let m = c.args.records.now in
    let k = c.loop-k.k in
    let t = c.loop-k-test.true in
    let e = (rw c.unwrap.ensures at c.first_chunk.ensures.cases).same ∙ ap (take 40) (part_to_end m (40 * k)) in
    sym (ap length e ∙ forty m (40 * k) (omega (arith, t)))

pub copy_from_slice-requires : goal.copy_from_slice-requires
copy_from_slice-requires c =
    let m = c.args.records.now in
    let k = c.loop-k.k in
    let t = c.loop-k-test.true in
    let r = c.requires in
    let size = c.loop-k.auto.area in
    let at = c.args.to + 40 * k in
    let e = (rw c.unwrap.ensures at c.first_chunk.ensures.cases).same ∙ ap (take 40) (part_to_end m (40 * k)) in
    ap (λ (i : ℕ). length (take i (drop at c.loop-k.area))) (let i : at + 40 - at ≡ 40 = omega arith in i)
    ∙ forty c.loop-k.area at (omega (arith, t, r.0, size))
    ∙ sym (ap length e ∙ forty m (40 * k) (omega (arith, t)))

pub loop-k-preserved : goal.loop-k-preserved
loop-k-preserved c =
    let s = c.args.area.now in
    let A = c.loop-k.area in
    let m = c.args.records.now in
    let to = c.args.to in
    let k = c.loop-k.k in
    let t = c.loop-k-test.true in
    let r = c.requires in
    let at = to + 40 * k in
    let e = (rw c.unwrap.ensures at c.first_chunk.ensures.cases).same ∙ ap (take 40) (part_to_end m (40 * k)) in
    let l = forty m (40 * k) (omega (arith, t)) in
    let rest : drop (at + 40 - at) (drop at A) ≡ drop (at + length (take 40 (drop (40 * k) m))) A =
    drop-drop (at + 40 - at) at A ∙ ap (λ (i : ℕ). drop i A) (let i : at + (at + 40 - at) ≡ at + length (take 40 (drop (40 * k) m)) = omega (arith, l) in i) in
    ap₂ (λ (xs ys : List ℕ). take at A ++ (xs ++ ys)) (c.copy_from_slice.ensures.after ∙ e) rest
    ∙ ap (λ (S : List ℕ). with_run S at (take 40 (drop (40 * k) m))) c.loop-k.invariant
    ∙ run_more s m to (40 * k) 40 (omega (arith, r.0)) (omega (arith, t))
    ∙ ap (λ (i : ℕ). with_run s to (take i m)) (let i : 40 * k + 40 ≡ 40 * (k + 1) = omega arith in i)
