-- Every case of specs/TableCases is judged as it says, by computation. Assumes nothing.
use mathlib.Core.Path.{◌≡◌, refl}
use mathlib.Core.List.{List, [], ◌∷◌, map}
use lib.Ieee.{of_bits, to_bits, fits, lt, le, eq}
use Rattle.ieee.specs.Bounds.{All}
use Rattle.words.specs.Words.{number, with_number}
use Rattle.panning.specs.Table.{between}
use Rattle.panning.specs.Speakers.{positions714}
use Rattle.panning.specs.Setup.{table_place, all_inside, all_apart, table_of}
use Rattle.rules.specs.Making.{table_found}
use Rattle.rules.specs.TableCases.{TableCase, table_cases}

abbrev pub Judged : TableCase → Type 0
Judged c = table_found c.layout c.bytes ≡ c.finds

all_judged : (cs : List TableCase) → map (λ (c : TableCase). table_found c.layout c.bytes) cs ≡ map (λ (c : TableCase). c.finds) cs → All Judged cs
all_judged [] e = tt
all_judged (c ∷ cs) e =
    let here : table_found c.layout c.bytes ≡ c.finds = cc in
    let rest : map (λ (c : TableCase). table_found c.layout c.bytes) cs ≡ map (λ (c : TableCase). c.finds) cs = cc in
    (here, all_judged cs rest)

pub tables_judged : All Judged table_cases
unfolding number with_number of_bits to_bits fits lt le eq between table_place all_inside all_apart table_of positions714
tables_judged = all_judged table_cases refl
