-- A bed's terms put by its route, and for the input that feeds it. Assumes nothing.
use mathlib.Core.Path.{◌≡◌, refl, sym, ap, ◌∙◌}
use mathlib.Core.Bool.{Bool, false}
use mathlib.Core.List.{List}
use Prim.Native.Nat.{ℕ}
use lib.ListN.{get_or}
use lib.Ieee.{Float}
use Rattle.std.specs.Prelude.{Option, Some, None}
use Rattle.beds.specs.declared.Route.{Route}
use Rattle.beds.specs.Routes.{route_in}
use Rattle.panning.specs.declared.hall.Hall.{Hall}
use Rattle.panning.specs.Hall.{setup_of}
use Rattle.panning.specs.Terms.{Term, on_channel}
use Rattle.render.specs.declared.lists.Lists.{Lists}
use Rattle.render.specs.Run.{bed_with}
use Rattle.render.specs.MixedSources.{route_terms, bed_terms}
use Rattle.render.specs.Listed.{Sized, Grown, found_fed}
use Rattle.render.proofs.Marks.{marks_tell}
use Rattle.render.proofs.FedTerms.{fed_on}
use Rattle.render.proofs.Grown.{grown_none, grown_as}

-- the terms of its route in this hall
pub put_routed : (i : ℕ) (hall : Hall) (code : ℕ) (gain : Float) {r : Route} {a b : Lists} → route_in (λ k. get_or hall.present k false) code ≡ r
    → Grown (λ k. fed_on i (route_terms (setup_of hall) r code gain) k) a b
    → Grown (λ k. fed_on i (bed_terms (setup_of hall) (bed_with code gain)) k) a b
put_routed i hall code gain e =
    grown_as
    (λ k.
    ap (λ (s : Route). fed_on i (route_terms (setup_of hall) s code gain) k) (sym e ∙ ap (λ (here : ℕ → Bool). route_in here code) (marks_tell hall)))

-- terms for the input that was found, if one was
module _ (ts : List Term) {f : Option ℕ} {a b : Lists} where
  pub put_found : {i : ℕ} {m : Lists} → f ≡ Some i → b ≡ m → Grown (λ k. fed_on i ts k) a m → Grown (λ k. found_fed f (on_channel k ts)) a b
  put_found e q p = rw (e, q) p

  pub put_unfound : f ≡ None → b ≡ a → Sized a → Grown (λ k. found_fed f (on_channel k ts)) a b
  put_unfound e q s = rw (e, q) (grown_none s (λ k. refl))
