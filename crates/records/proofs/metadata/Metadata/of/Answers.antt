-- `records::metadata::Metadata::of`: the records pass both. Assumes nothing.
use mathlib.Core.Path.{sym, ◌∙◌}
use native.Mathlib.Omega.{arith}
use Rattle.words.specs.Words.{Bytes}
use Rattle.records.proofs.Fits.{in_range_fits}
use Rattle.records.proofs.Passed.{passes_all}
use Rattle.records.proofs.metadata.Metadata.of.Goals as goal

pub invariant_of-result : goal.invariant_of-result
invariant_of-result c =
    let laid = c.in-Some.ensures.0 in
    let fits = in_range_fits c.args.records.now (sym c.in_range.ensures ∙ c.if-not-in_range.false) in
    let bytes : Bytes c.args.records.now = λ i. omega (arith, c.type_inv.records i) in
    record {
      bytes = bytes;
      laid = laid;
      whole = passes_all c.args.records.now laid.laid fits bytes c.in-Some.layout laid;
      fits = fits;
    }
