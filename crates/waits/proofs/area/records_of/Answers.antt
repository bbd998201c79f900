-- `waits::area::records_of`: an update ends within its list, behind where it begins. Assumes nothing.
use Rattle.std.proofs.Common.{rules, ◌≡◌, ℕ, suc, ◌+◌, ◌-◌, ◌*◌, ◌≤◌, length, get_or, take, drop, ap, ap₂, ◌∙◌, arith}
use Rattle.records.specs.Laid.{update_at}
use Rattle.records.specs.LayoutAnswers.{no_sent, sent_place}
use Rattle.waits.proofs.ValidArea.{update_ends, update_begins}
use Rattle.waits.proofs.area.records_of.Goals as goal

pub overflow_mul-to : goal.overflow_mul-to
overflow_mul-to c =
    let m = c.args.metadata in
    let e = update_ends m.records.now m.layout m.laid c.args.i c.requires in
    let b = update_begins m.records.now m.layout m.laid c.args.i c.requires in
    let p : sent_place m.layout c.args.i ≡ update_at m.records.now c.args.i = m.laid.places c.args.i (omega (arith, c.requires, m.laid.counted)) in
    let q = c.end_of-to.ensures in
    let r = c.ranges.metadata.0 in
    let ends : 40 * c.end_of-to.result ≤ length m.records.now = omega (arith, e, q) in
    let rises : 40 * (get_or m.layout.sent c.args.i no_sent).place ≤ 40 * c.end_of-to.result = omega (arith, b, p, q) in
    search rules

pub slice_bounds-result-count : goal.slice_bounds-result-count
slice_bounds-result-count c =
    let m = c.args.metadata in
    let e = update_ends m.records.now m.layout m.laid c.args.i c.requires in
    let b = update_begins m.records.now m.layout m.laid c.args.i c.requires in
    let p : sent_place m.layout c.args.i ≡ update_at m.records.now c.args.i = m.laid.places c.args.i (omega (arith, c.requires, m.laid.counted)) in
    let q = c.end_of-to.ensures in
    let r = c.ranges.metadata.0 in
    let ends : 40 * c.end_of-to.result ≤ length m.records.now = omega (arith, e, q) in
    let rises : 40 * (get_or m.layout.sent c.args.i no_sent).place ≤ 40 * c.end_of-to.result = omega (arith, b, p, q) in
    rises

pub slice_bounds-result-start : goal.slice_bounds-result-start
slice_bounds-result-start c =
    let m = c.args.metadata in
    let e = update_ends m.records.now m.layout m.laid c.args.i c.requires in
    let b = update_begins m.records.now m.layout m.laid c.args.i c.requires in
    let p : sent_place m.layout c.args.i ≡ update_at m.records.now c.args.i = m.laid.places c.args.i (omega (arith, c.requires, m.laid.counted)) in
    let q = c.end_of-to.ensures in
    let r = c.ranges.metadata.0 in
    let ends : 40 * c.end_of-to.result ≤ length m.records.now = omega (arith, e, q) in
    let rises : 40 * (get_or m.layout.sent c.args.i no_sent).place ≤ 40 * c.end_of-to.result = omega (arith, b, p, q) in
    search rules

pub slice_bounds-result-end : goal.slice_bounds-result-end
slice_bounds-result-end c =
    let m = c.args.metadata in
    let e = update_ends m.records.now m.layout m.laid c.args.i c.requires in
    let b = update_begins m.records.now m.layout m.laid c.args.i c.requires in
    let p : sent_place m.layout c.args.i ≡ update_at m.records.now c.args.i = m.laid.places c.args.i (omega (arith, c.requires, m.laid.counted)) in
    let q = c.end_of-to.ensures in
    let r = c.ranges.metadata.0 in
    let ends : 40 * c.end_of-to.result ≤ length m.records.now = omega (arith, e, q) in
    let rises : 40 * (get_or m.layout.sent c.args.i no_sent).place ≤ 40 * c.end_of-to.result = omega (arith, b, p, q) in
    search rules

pub returns : goal.returns
returns c =
    let m = c.args.metadata in
    let i = c.args.i in
    let p : (get_or m.layout.sent i no_sent).place ≡ update_at m.records.now i = m.laid.places i (omega (arith, c.requires, m.laid.counted)) in
    let q : c.end_of-to.result ≡ update_at m.records.now (suc i) = c.end_of-to.ensures ∙ ap (update_at m.records.now) (let e : i + 1 ≡ suc i = omega arith in e) in
    let n : 40 * c.end_of-to.result - 40 * (get_or m.layout.sent i no_sent).place ≡ 40 * (update_at m.records.now (suc i) - update_at m.records.now i) = omega (arith, p, q) in
    ap₂ (λ (k a : ℕ). take k (drop (40 * a) m.records.now)) n p
