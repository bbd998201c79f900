-- `records::metadata::Metadata::end_of`: the last update ends where the list does. Assumes nothing.
use Rattle.std.proofs.Common.{◌≡◌, ◌+◌, arith}
use Rattle.records.specs.Laid.{count}
use Rattle.records.proofs.Reached.{found}
use Rattle.records.proofs.Updates.{whole_list}
use Rattle.records.proofs.metadata.Metadata.end_of.Goals as goal

pub returns-else-i-self : goal.returns-else-i-self
returns-else-i-self c =
    let m = c.args.self.records.now in
    let laid = c.args.self.laid in
    let e = whole_list m (count m) (found m laid.laid) in
    let q : c.args.i + 1 ≡ count m = let n = c.requires in let l = c.if-i-self.false in omega (arith, laid.counted) in
    rw q (omega arith)
