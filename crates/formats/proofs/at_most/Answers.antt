-- Each entry is tested. Assumes nothing.
use Rattle.std.proofs.Common.{◌≡◌, ◌∙◌, ◌+◌, ◌*◌, refl, ap, rules, arith, ℕ, Bool, leb, get_or}
use Rattle.std.proofs.lemmas.Iterator.{YieldsList-from_range}
use Rattle.std.proofs.lemmas.Iterator.Search.{all_from_yields_List}
use Rattle.std.specs.List.{list_all, range_with_len}
use Rattle.formats.specs.NumberWords.{in_words}
use Rattle.formats.specs.Format.{all_at}
use Rattle.formats.proofs.Loops.{all_entries, most}
use Rattle.formats.proofs.at_most.Goals as goal

pub returns : goal.returns
returns c =
    let a = c.args in
    let w = in_words a.s.now in
    let test : ℕ → Bool = λ i. leb (get_or w (a.at + a.k * i + a.j) 0) a.limit in
    let h : c.all.result ≡ list_all test (range_with_len 0 a.n) =
    all_from_yields_List test _ _ c.all.result c.all.ensures.ran (YieldsList-from_range 0 a.n a.n refl (omega arith)) (λ x b q e. search rules) in
    let e : a.at + a.k * 0 ≡ a.at = omega arith in
    h ∙ all_entries a.k (most w a.j a.limit) a.at 0 a.n ∙ ap (all_at (most w a.j a.limit) a.k a.n) e
