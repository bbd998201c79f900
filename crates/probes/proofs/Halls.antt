-- A bed's route by a layout's marks. Assumes nothing.
use mathlib.Core.Path.{◌≡◌, ap, fun_ext, ◌∙◌}
use mathlib.Core.Bool.{Bool, false}
use mathlib.Core.List.{List}
use Prim.Native.Nat.{ℕ}
use lib.ListN.{get_or}
use Rattle.beds.specs.declared.Route.{Route}
use Rattle.beds.specs.Routes.{route_in}
use Rattle.panning.specs.Setup.{present, marks_of}
use Rattle.panning.proofs.Theorems.{mark_is}

pub route_by_marks : (n code : ℕ) (ms : List Bool) {r : Route} → ms ≡ marks_of n → r ≡ route_in (λ k. get_or ms k false) code → r ≡ route_in (present n) code
route_by_marks n code ms e p = p ∙ ap (λ (here : ℕ → Bool). route_in here code) (fun_ext (λ k. ap (λ (l : List Bool). get_or l k false) e ∙ mark_is n k))
