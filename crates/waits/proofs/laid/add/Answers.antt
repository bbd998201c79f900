-- `waits::laid::add`: one own update after the other. Assumes nothing.
use Rattle.std.proofs.Common.{◌≡◌, ℕ, suc, ◌+◌, ◌-◌, ◌*◌, ◌/◌, ◌<◌, ◌≤◌, ◌&&◌, true, List, [], ◌∷◌, leb, length, drop, sym, ap, ap₂, ◌∙◌, append-nil, length-append, arith}
use lib.ListN.{length-drop}
use lib.Seq.{length-take-le}
use Rattle.fields.specs.Update.{is_far, offset}
use Rattle.words.specs.Words.{with_long}
use Rattle.records.specs.Laid.{update_at, count}
use Rattle.records.specs.LayoutAnswers.{IsLayout}
use Rattle.records.specs.declared.sent.Layout.{Layout}
use Rattle.waits.specs.Area.{Wait, records_of}
use Rattle.waits.specs.Settled.{comes, come_at, coming, all_records, with_run, laid_from}
use Rattle.waits.specs.declared.load.Load.{Load}
use Rattle.waits.proofs.ValidArea.{update_ends, update_begins}
use Rattle.waits.proofs.LaidFrom.{laid_none, laid_more, length_records}
use Rattle.waits.proofs.Prefixes.{one_comes, none_comes, coming_fewer, coming_smaller}
use Rattle.waits.proofs.laid.add.Goals as goal
use Rattle.waits.proofs.laid.add.Goals.{then-comes, else-comes}

pub loop-i-init : goal.loop-i-init
unfolding coming
loop-i-init c = (sym (laid_none c.args.area.now c.args.at.count (72 + c.args.at.bytes)), omega arith, omega arith)

-- with one more there are no more than all
room : (start n : ℕ) (m : List ℕ) (i k b c s : ℕ) → i < count m → comes n m i ≡ true → k ≡ c + length (coming start n m i 0) → b ≡ s + length (all_records (coming start n m i 0))
    → c + length (coming start n m (count m) 0) ≤ 8 → s + length (all_records (coming start n m (count m) 0)) ≤ 48000
    → (k < 8) × (b + length (records_of m i) ≤ 48000)
room start n m i k b c s one e pk pb few small =
    let us = coming start n m i 0 in
    let v = come_at start m i in
    let more = one_comes start n m i e in
    let l = ap length more ∙ length-append us (v ∷ []) in
    let r = ap (λ (x : List Wait). length (all_records x)) more ∙ length_records us (v ∷ []) in
    let a = ap length (append-nil v.records) in
    let f = coming_fewer start n m (i + 1) (count m) (omega (arith, one)) in
    let g = coming_smaller start n m (i + 1) (count m) (omega (arith, one)) in
    (omega (arith, l, f, pk, few), omega (arith, r, a, g, pb, small))

-- an update has whole records
whole : (m : List ℕ) (l : Layout) (is : IsLayout m l) (i : ℕ) → i < l.count → 40 * (length (records_of m i) / 40) ≡ length (records_of m i)
whole m l is i one =
    let e = update_ends m l is i one in
    let b = update_begins m l is i one in
    let next : update_at m (i + 1) ≡ update_at m (suc i) = ap (update_at m) (let k : i + 1 ≡ suc i = omega arith in k) in
    let n : length (records_of m i) ≡ 40 * (update_at m (suc i) - update_at m i) =
    length-take-le (40 * (update_at m (suc i) - update_at m i)) (drop (40 * update_at m i) m) (omega (arith, e, b, next, length-drop (40 * update_at m i) m)) in
    omega (arith, n)

pub join-load-requires : goal.join-load-requires
join-load-requires c =
    let m = c.args.own.records.now in
    let n = c.args.end.0 in
    let i = c.loop-i.i in
    let u = c.update.ensures in
    let r = c.requires in
    let come = sym (ap₂ (λ (x : List ℕ) (k : ℕ). is_far x k && leb n (offset x k)) u.0 u.1) ∙ sym c.comes.ensures ∙ c.if-comes.true in
    let one : i < count m = let t = c.loop-i-test.true in let q = c.args.own.laid.counted in omega (arith, t, q) in
    let f = room c.args.start.0 n m i c.loop-i.load.count c.loop-i.load.bytes c.args.at.count c.args.at.bytes one come c.loop-i.invariant.1 c.loop-i.invariant.2 r.2 r.3 in
    let size = c.loop-i.auto.area in
    let q = ap length c.records_of.ensures in (
      f.0,
      omega (arith, f.1, size, r.0, q),
      omega (arith, size, r.0),
      ap (λ (xs : List ℕ). 40 * (length xs / 40)) c.records_of.ensures ∙ whole m c.args.own.layout c.args.own.laid i c.loop-i-test.true ∙ sym q,
    )

pub loop-i-preserved : goal.loop-i-preserved
loop-i-preserved c =
    let a = c.args in
    let start = a.start.0 in
    let n = a.end.0 in
    let m = a.own.records.now in
    let i = c.loop-i.i in
    let load = c.loop-i.load in
    let v = c.loop-i.invariant in
    let u = c.update.ensures in
    let r = c.requires in
    let us = coming start n m i 0 in
    let at = sym (ap₂ (λ (x : List ℕ) (k : ℕ). is_far x k && leb n (offset x k)) u.0 u.1) ∙ sym c.comes.ensures in
    elim c.if-comes.branch [
      | then-comes w ↦
          let e = at ∙ w.if-comes.true in
          let new = come_at start m i in
          let more = one_comes start n m i e in
          let one : i < count m = let t = c.loop-i-test.true in let q = a.own.laid.counted in omega (arith, t, q) in
          let f = room start n m i load.count load.bytes a.at.count a.at.bytes one e v.1 v.2 r.2 r.3 in
          let position : w.at.result.0 ≡ new.position = w.at.ensures ∙ ap (λ (k : ℕ). start + k) (w.offset.ensures ∙ ap₂ (λ (x : List ℕ) (k : ℕ). offset x k) u.0 u.1) in
          let added = ap length more ∙ length-append us (new ∷ []) in
          let longer = ap (λ (x : List Wait). length (all_records x)) more ∙ length_records us (new ∷ []) in
          let records = ap length (append-nil new.records) in
          let size = ap length w.records_of.ensures in
          let count_is = ap (λ (l : Load). l.count) w.load-is ∙ w.join-load.ensures.load.0 in
          let bytes_is = ap (λ (l : Load). l.bytes) w.load-is ∙ w.join-load.ensures.load.1 in (
            w.area-is
                ∙ w.join-load.ensures.laid
                ∙ ap₂ (λ (x : ℕ) (xs : List ℕ). with_run (with_long c.loop-i.area (8 + 8 * load.count) x) (72 + load.bytes) xs) position w.records_of.ensures
                ∙ laid_more a.area.now c.loop-i.area a.at.count (72 + a.at.bytes) load.count (72 + load.bytes) us new v.0 v.1 (omega (arith, v.2)) (omega (arith, f.0)) (omega (arith, r.3, r.0))
                ∙ ap (laid_from a.area.now a.at.count (72 + a.at.bytes)) (sym more),
            omega (arith, count_is, v.1, added),
            omega (arith, bytes_is, v.2, longer, records, size),
          )
      | else-comes w ↦
          let same = none_comes start n m i (at ∙ w.if-comes.false) in (
            w.area-is ∙ v.0 ∙ ap (laid_from a.area.now a.at.count (72 + a.at.bytes)) (sym same),
            ap (λ (l : Load). l.count) w.load-is ∙ v.1 ∙ ap (λ (x : List Wait). a.at.count + length x) (sym same),
            ap (λ (l : Load). l.bytes) w.load-is ∙ v.2 ∙ ap (λ (x : List Wait). a.at.bytes + length (all_records x)) (sym same),
          )
    ]
