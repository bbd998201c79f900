-- `waits::metadata`: the records of an area within its ranges are laid out, and their values fit. Assumes nothing.
use Rattle.std.proofs.Common.{◌≡◌, ℕ, ◌<◌, true, false, sym, ap, subst, ◌∙◌, arith}
use Rattle.words.specs.Words.{Bytes}
use Rattle.records.specs.Laid.{laid_out, count}
use Rattle.records.specs.LayoutAnswers.{IsLayout}
use Rattle.records.specs.ValuesInRange.{all_fit}
use Rattle.records.proofs.Theorems.{passes_all}
use Rattle.waits.specs.Area.{waiting_count}
use Rattle.waits.proofs.Written.{kept_bytes}
use Rattle.waits.proofs.ValidArea.{few, few_records, fitting, kept_laid, kept_count, not_before, below_end}
use Rattle.waits.proofs.metadata.Goals as goal

pub kept_records-records-requires : goal.kept_records-records-requires
kept_records-records-requires c = few_records c.args.start.0 c.args.area.now c.requires

pub unreachable-requires : goal.unreachable-requires
unreachable-requires c =
    let yes = ap laid_out c.kept_records-records.ensures ∙ kept_laid c.args.start.0 c.args.area.now c.requires in
    let no = c.in_default.ensures in
    let q : true ≡ false = sym yes ∙ no in
    let z : ◌≡◌ {A = ℕ} 0 1 = cc in
    omega arith

pub placed-layout-requires : goal.placed-layout-requires
placed-layout-requires c =
    let start = c.args.start.0 in
    let ws = c.args.area.now in
    let counted : c.in-Some.laid.count ≡ waiting_count ws = c.in-Some.ensures.0.counted ∙ ap count c.kept_records-records.ensures ∙ kept_count start ws c.requires in
    let f = few start ws c.requires in
    record {
      few = omega (arith, counted, f);
      ahead = λ i h.
          let one : i < waiting_count ws = omega (arith, counted, h) in
          let b = below_end start ws c.requires i one in
          (not_before start ws c.requires i one, omega (arith, b));
    }

pub invariant_of-result : goal.invariant_of-result
invariant_of-result c =
    let m = c.kept_records-records.result.now in
    let k = c.in-Some.ensures.0 in
    let p = c.placed-layout.ensures in
    let fits = ap all_fit c.kept_records-records.ensures ∙ fitting c.args.start.0 c.args.area.now c.requires in
    let bytes : Bytes m = subst Bytes (sym c.kept_records-records.ensures) (kept_bytes c.args.area.now c.fits-area) in
    let laid : IsLayout m c.placed-layout.result =
    record {
      laid = k.laid;
      counted = p.count ∙ k.counted;
      few = k.few;
      places = λ i h. p.places i ∙ k.places i h;
      past = λ i h. (p.places i ∙ (k.past i h).0, p.past i (let n = k.counted in omega (arith, n, h)) ∙ (k.past i h).1);
    } in
    record { bytes = bytes; laid = laid; whole = passes_all m k.laid fits bytes c.placed-layout.result laid; fits = fits }

pub returns : goal.returns
returns c =
    let start = c.args.start.0 in
    let ws = c.args.area.now in
    let p = c.placed-layout.ensures in
    let counted : c.in-Some.laid.count ≡ waiting_count ws = c.in-Some.ensures.0.counted ∙ ap count c.kept_records-records.ensures ∙ kept_count start ws c.requires in
    record { records = c.kept_records-records.ensures; count = p.count ∙ counted; offsets = λ i h. p.offsets i (omega (arith, counted, h)) }
