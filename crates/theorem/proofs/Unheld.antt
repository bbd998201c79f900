-- The law of specs/Unheld. Assumes nothing.
use mathlib.Core.Path.{refl}
use Rattle.timed.specs.Plain.{plain_slot, Unmarked}
use Rattle.timed.proofs.Theorems.{free_same, unmarked_slot, same_unheld}
use Rattle.updates.proofs.Theorems.{unmarked_applied}
use Rattle.store.specs.Layout.{blank}
use Rattle.rules.proofs.Theorems.{calls_same}
use Rattle.theorem.specs.Instance.{hall}
use Rattle.theorem.specs.Unheld.{UnheldSame}

-- none has a mark before the first update
blank_unmarked : Unmarked blank.state.sources
unfolding blank
blank_unmarked = same_unheld _ (record { wanted = refl; held = refl }) 16

pub unheld_same : UnheldSame
unheld_same r cs =
    calls_same hall plain_slot (λ m. Unmarked m.state.sources) blank_unmarked (λ n u m. unmarked_applied n u.said m) (λ n m. unmarked_slot n m) (λ d m h. (h d).wanted)
    (λ n m. free_same n m) r cs
