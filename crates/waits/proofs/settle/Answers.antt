-- `waits::settle`: those that stay, the own ones behind them, and the two words. Assumes nothing.
use Rattle.std.proofs.Common.{ℕ, ◌/◌, List, ap, ◌∙◌, arith}
use Rattle.words.specs.Words.{with_word}
use Rattle.records.specs.Laid.{count}
use Rattle.waits.specs.Area.{waits_of}
use Rattle.waits.specs.Settled.{staying, coming, waits_next, area_settled}
use Rattle.waits.proofs.Loads.{no_more, no_larger, settled_is}
use Rattle.waits.proofs.settle.Goals as goal

pub add-load-requires : goal.add-load-requires
add-load-requires c =
    let r = c.requires in
    let m = c.args.own.records.now in
    let g = c.keep-stayed.ensures.load in
    let a = no_more c.args.start.0 c.args.end.0 c.args.area.now m r.2 in
    let b = no_larger c.args.start.0 c.args.end.0 c.args.area.now m r.2 in
    (c.keep-stayed.auto.area ∙ c.told-area, r.0, omega (arith, a, g.count), omega (arith, b, g.bytes))

pub overflow_cast-load : goal.overflow_cast-load
overflow_cast-load c =
    let a = no_more c.args.start.0 c.args.end.0 c.args.area.now c.args.own.records.now c.requires.2 in
    let g = c.keep-stayed.ensures.load.count in
    let e = c.add-load.ensures.count in
    omega (arith, a, g, e)

pub returns : goal.returns
unfolding area_settled waits_next
returns c =
    let start = c.args.start.0 in
    let n = c.args.end.0 in
    let ws = c.args.area.now in
    let m = c.args.own.records.now in
    let load = c.add-load.result in
    let stayed = c.keep-stayed in
    c.put_u32-2.ensures
    ∙ ap (λ (s : List ℕ). with_word s 4 (load.bytes / 40)) c.put_u32.ensures
    ∙ settled_is ws stayed.new.area c.add-load.new.area (staying start n (waits_of ws)) (coming start n m (count m) 0) load.count load.bytes stayed.result.count stayed.result.bytes
    stayed.ensures.laid stayed.ensures.load.count stayed.ensures.load.bytes c.add-load.ensures.laid c.add-load.ensures.count c.add-load.ensures.bytes c.told-area
    (no_more start n ws m c.requires.2)
