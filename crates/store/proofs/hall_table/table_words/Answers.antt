-- `store::hall_table::table_words`: each call reads a word. Assumes nothing.
use Rattle.std.proofs.Common.{rules}
use mathlib.Core.Path.{◌∙◌}
use Rattle.words.specs.Words.{word}
use Rattle.store.specs.FieldPlaces.{table_count}
use Rattle.store.proofs.Tables.{made_gets}
use Rattle.store.proofs.HallTables.{words_gets}
use Rattle.store.proofs.hall_table.table_words.Goals as goal

pub returns : goal.returns
returns c =
    let s = c.args.s.now in
    made_gets _ (word s) 4 c.args.at _ (λ i y q k. (search rules, search rules)) c.from_fn.result table_count c.from_fn.ensures.items ∙ words_gets s table_count c.args.at
