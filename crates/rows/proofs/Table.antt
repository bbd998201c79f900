-- Every row holds, by computation. Assumes nothing.
use mathlib.Core.Path.{◌≡◌, refl, sym, ◌∙◌}
use mathlib.Core.List.{List, [], ◌∷◌, map}
use Rattle.ieee.specs.Bounds.{All}
use Rattle.rules.proofs.Theorems.{all_append}
use Rattle.finding.specs.Grid as grid
use Rattle.finding.specs.Search as search
use Rattle.rows.specs.Rows.{Said, Row, Holds, says, seen}
use Rattle.rows.specs.Notation.{concat}
use Rattle.rows.specs.Lists.{refusals, outputs, block_rows, bed_rows, object_rows, updates, slots, halls, tables, hold_rows, searches, ahead_rows, groups, rows}
use Rattle.theorem.proofs.Opened.{everything, judging}
use Rattle.rows.proofs.Quick.{plainly, quickly}
use Rattle.rows.proofs.QuickIsRules.{plainly_is, quickly_is}

-- rows for which a way to compute them gives what they say
held : (way : Row → List Said) → ((r : Row) → way r ≡ seen r) → (rs : List Row) → map way rs ≡ map says rs → All Holds rs
held way is [] e = tt
held way is (r ∷ rs) e =
    let here : way r ≡ says r = cc in
    let rest : map way rs ≡ map says rs = cc in
    (sym (is r) ∙ here, held way is rs rest)

-- group after group: where one does not hold, those behind it are not worked out
after : {A B : Type 0} → A → B → B
after a b = b

-- ---- by the rules as they stand

refusals_hold : All Holds refusals
unfolding everything
refusals_hold = held seen (λ r. refl) refusals refl

outputs_hold : All Holds outputs
unfolding everything
outputs_hold = after refusals_hold (held seen (λ r. refl) outputs refl)

-- ---- with the places worked out once a sample

blocks_hold : All Holds block_rows
unfolding plainly
blocks_hold = after outputs_hold (held plainly plainly_is block_rows refl)

-- ---- with the coefficients worked out once a slot too

beds_hold : All Holds bed_rows
unfolding quickly
beds_hold = after blocks_hold (held quickly quickly_is bed_rows refl)

objects_hold : All Holds object_rows
unfolding quickly
objects_hold = after beds_hold (held quickly quickly_is object_rows refl)

updates_hold : All Holds updates
unfolding quickly
updates_hold = after objects_hold (held quickly quickly_is updates refl)

slots_hold : All Holds slots
unfolding quickly
slots_hold = after updates_hold (held quickly quickly_is slots refl)

halls_hold : All Holds halls
unfolding quickly
halls_hold = after slots_hold (held quickly quickly_is halls refl)

tables_hold : All Holds tables
unfolding quickly judging
tables_hold = after halls_hold (held quickly quickly_is tables refl)

hold_rows_hold : All Holds hold_rows
unfolding quickly
hold_rows_hold = after tables_hold (held quickly quickly_is hold_rows refl)

searches_hold : All Holds searches
unfolding everything grid.across_at grid.up_at search.search
searches_hold = after hold_rows_hold (held seen (λ r. refl) searches refl)

ahead_rows_hold : All Holds ahead_rows
unfolding quickly
ahead_rows_hold = after searches_hold (held quickly quickly_is ahead_rows refl)

-- ---- all rows

all_joined : (gs : List (List Row)) → All (All Holds) gs → All Holds (concat gs)
all_joined [] h = tt
all_joined (g ∷ gs) h = all_append Holds g (concat gs) h.0 (all_joined gs h.1)

pub table : All Holds rows
table = all_joined groups (refusals_hold, (outputs_hold, (blocks_hold, (beds_hold, (objects_hold, (updates_hold, (slots_hold, (halls_hold, (tables_hold, (hold_rows_hold, (searches_hold, (ahead_rows_hold, tt))))))))))))
