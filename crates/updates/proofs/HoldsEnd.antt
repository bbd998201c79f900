-- The laws of specs/HoldsEnd. Assumes nothing.
use Prim.Native.Nat.{ℕ, ◌-◌}
use mathlib.Core.Path.{refl}
use mathlib.Core.List.{List}
use lib.Dec.{eqb}
use lib.ListN.{get_or, replicate}
use borrow.Author.Tests.{eq-eqb, ne_eqb}
use Rattle.timed.specs.Objects.{no_source}
use Rattle.timed.proofs.Theorems.{cond_keeps, same_unheld}
use Rattle.timed.specs.Plain.{Unheld, Unmarked}
use Rattle.timed.specs.State.{Timed}
use Rattle.timed.specs.declared.state.DynamicSourceState.{DynamicSourceState}
use Rattle.updates.specs.Said.{Update}
use Rattle.updates.specs.Applied.{new_source, next_sources, applied}
use Rattle.updates.specs.HoldsEnd.{HoldsEnd, HoldsStay}

new_unheld : (n d : ℕ) → Unheld (get_or (replicate n new_source) d no_source)
new_unheld = same_unheld new_source (record { wanted = refl; held = refl })

pub holds_end : HoldsEnd
unfolding applied next_sources
holds_end n d u t ne = rw (ne_eqb (t.state.objects - t.state.isf) (u.objects - u.isf) ne) (new_unheld 16 d)

pub holds_stay : HoldsStay
unfolding applied next_sources
holds_stay n u t e = rw (eq-eqb (t.state.objects - t.state.isf) (u.objects - u.isf) e)

-- an update gives no object a mark
pub unmarked_applied : (n : ℕ) (u : Update) (t : Timed) → Unmarked t.state.sources → Unmarked (applied n u t).state.sources
unfolding applied next_sources
unmarked_applied n u t h d =
    cond_keeps (λ (l : List DynamicSourceState). Unheld (get_or l d no_source)) (eqb (t.state.objects - t.state.isf) (u.objects - u.isf)) t.state.sources
    (replicate 16 new_source) (λ _. h d) (λ _. new_unheld 16 d)
