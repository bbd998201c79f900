-- Each call reads an entry. Assumes nothing.
use Rattle.std.proofs.Common.{rules, ℕ}
use mathlib.Core.Path.{ap, ◌∙◌}
use Rattle.formats.specs.NumberWords.{in_words}
use Rattle.formats.specs.Format.{gets}
use Rattle.store.proofs.Tables.{made_gets}
use Rattle.store.proofs.entry.table.Goals as goal

pub returns : goal.returns
returns g c =
    let t = g.T.Entry in
    let r = t.format.get (in_words c.args.s.now) in
    made_gets _ r t.WORDS c.args.at _ (λ i y q k. (search rules, search rules)) c.from_fn.result g.row.N c.from_fn.ensures.items
    ∙ ap (λ (k : ℕ). gets r k g.row.N c.args.at) g.met.T.Entry.width
