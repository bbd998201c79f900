-- `put_word`: a word has eight digits. Assumes nothing.
use Rattle.std.proofs.Common.{◌≡◌, take, arith}
use Rattle.std.proofs.lemmas.Grind.{common_steps}
use Rattle.listing.specs.Line.{hex8}
use Rattle.listing.proofs.Spelling.{spelt}
use Rattle.listing.proofs.text.Text.put_word.Goals as goal

pub returns-clause-text : goal.returns-clause-text
returns-clause-text c =
    let h = c.hex in
    let d : take 8 h.new.out ≡ hex8 c.args.word = rw c.from.ensures at (spelt _ h.result h.new.out (omega arith) h.ensures.len h.ensures.digits) in
    grind (arith, common_steps, d)
