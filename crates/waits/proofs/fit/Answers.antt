-- `waits::fit`: by the load. Assumes nothing.
use Rattle.std.proofs.Common.{Bool, ◌&&◌, leb, sym, ap, ◌∙◌, le-leb}
use borrow.Author.Tests.{lt-leb}
use Rattle.waits.proofs.Loads.{fits_is}
use Rattle.waits.proofs.fit.Goals as goal

pub returns-then-load-le8 : goal.returns-then-load-le8
returns-then-load-le8 c =
    let l = c.waiting-load.result in
    sym (ap (λ (b : Bool). b && leb l.bytes 48000) (le-leb l.count 8 c.if-load-le8.true)) ∙ fits_is c.args.start.0 c.args.end.0 c.args.area.now c.args.own.records.now l c.waiting-load.ensures

pub returns-else-load-le8 : goal.returns-else-load-le8
returns-else-load-le8 c =
    let l = c.waiting-load.result in
    let no = lt-leb l.count 8 c.if-load-le8.false in
    no ∙ sym (ap (λ (b : Bool). b && leb l.bytes 48000) no) ∙ fits_is c.args.start.0 c.args.end.0 c.args.area.now c.args.own.records.now l c.waiting-load.ensures
