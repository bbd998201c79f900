-- What a making call finds of its layout and its table, as the code asks for it. Assumes nothing.
use Prim.Native.Nat.{ℕ, ◌≤◌, ◌<◌}
use mathlib.Core.Path.{◌≡◌, refl, ap, ◌∙◌}
use mathlib.Core.Bool.{Bool, true, false, cond}
use mathlib.Core.List.{List}
use lib.ListN.{length}
use borrow.Author.Tests.{eq-eqb, ne_eqb, lt-leb, le-leb}
use Rattle.std.specs.Prelude.{Option, Some, None}
use Rattle.panning.specs.Setup.{table_place, all_inside, all_apart}
use Rattle.panning.specs.Fault.{fault_of}
use Rattle.panning.specs.declared.table.TableFault.{TableFault}
use Rattle.panning.specs.declared.table.TableFault.TheVariants.{Coordinate, SamePlaces}
use Rattle.rules.specs.Refusals.{Found, clear, stop, ◌then◌, unless}
use Rattle.rules.specs.Making.{table_words, layout_found, table_found}
use Rattle.refusals.specs.RefusalNumbers.{stop_of, table_refusal}

pub layout_stops : (n : ℕ) → 3 < n → stop 15 0 0 ≡ layout_found n
layout_stops n l = rw (lt-leb n 3 l) refl

pub layout_passes : (n : ℕ) → n ≤ 3 → clear ≡ layout_found n
layout_passes n l = rw (le-leb n 3 l) refl

abbrev fault_stop : Option TableFault → Found
fault_stop None = clear
fault_stop (Some f) = stop_of (table_refusal f)

-- 17, then 18
by_tests : (inside apart : Bool) → fault_stop (cond inside (cond apart None (Some SamePlaces)) (Some Coordinate)) ≡ (unless inside 17 0 0 then unless apart 18 0 0)
by_tests true true = refl
by_tests true false = refl
by_tests false apart = refl

module _ (n : ℕ) (t : List ℕ) where
  pub layout_first : 3 < n → stop 15 0 0 ≡ table_found n t
  layout_first l = rw (lt-leb n 3 l) refl

  module _ (l : n ≤ 3) where
    pub length_next : (length t ≡ 144 → ⊥) → stop 16 0 0 ≡ table_found n t
    length_next k = rw (le-leb n 3 l, ne_eqb (length t) 144 k) refl

    module _ (k : length t ≡ 144) where
      last : {o : Option TableFault} → o ≡ fault_of (table_place (table_words t)) → fault_stop o ≡ table_found n t
      last e =
          ap fault_stop e ∙ by_tests (all_inside (table_place (table_words t))) (all_apart (table_place (table_words t)))
          ∙ rw (le-leb n 3 l, eq-eqb (length t) 144 k) refl

      pub places_stop : (f : TableFault) → Some f ≡ fault_of (table_place (table_words t)) → stop_of (table_refusal f) ≡ table_found n t
      places_stop f e = last e

      pub places_pass : None ≡ fault_of (table_place (table_words t)) → clear ≡ table_found n t
      places_pass e = last e
