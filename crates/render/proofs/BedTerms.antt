-- A bed by its route and by the input that feeds it. Assumes nothing.
use mathlib.Core.Path.{◌≡◌, refl, sym, ap, subst, ◌∙◌}
use mathlib.Core.Bool.{Bool, false}
use mathlib.Core.List.{List}
use Prim.Native.Nat.{ℕ, ◌<◌}
use lib.ListN.{length, get_or}
use lib.Ieee.{Float}
use Rattle.beds.specs.declared.Route.{Route}
use Rattle.beds.specs.declared.Route.TheVariants.{Bass, Folded, Direct, Unsupported}
use Rattle.std.specs.Prelude.{Option, Some}
use Rattle.beds.specs.Routes.{route_in}
use Rattle.beds.specs.Positions.{bed_position}
use Rattle.beds.specs.BedTerms.{routed, bed_adds}
use Rattle.beds.specs.Matching.{matching}
use Rattle.beds.proofs.Matches.{Judged, judged}
use Rattle.panning.specs.Terms.{Term, on_channel}
use Rattle.panning.specs.Setup.{Setup, present, pan_in}
use Rattle.panning.specs.Hall.{setup_of}
use Rattle.panning.specs.declared.hall.Hall.{Hall}
use Rattle.rules.specs.Parts.{0·0}
use Rattle.rules.specs.Leaves.{Bed}
use Rattle.rules.specs.Mix.{adds_of}
use Rattle.render.proofs.Marks.{marks_tell}
use Rattle.render.specs.MixedRows.{mixed_terms}
use Rattle.render.specs.declared.Span.{Span}
use Rattle.render.specs.Run.{bed_with}
use Rattle.render.specs.MixedSources.{route_terms, bed_terms, mixed_found}

pub by_route : (xs os : List Float) (hall : Hall) (code : ℕ) (gain : Float) {r : Route} {new : List Float} → route_in (λ k. get_or hall.present k false) code ≡ r
    → new ≡ mixed_terms xs (route_terms (setup_of hall) r code gain) os
    → new ≡ mixed_terms xs (bed_terms (setup_of hall) (bed_with code gain)) os
by_route xs os hall code gain e p =
    p ∙ ap (λ (s : Route). mixed_terms xs (route_terms (setup_of hall) s code gain) os) (sym e ∙ ap (λ (here : ℕ → Bool). route_in here code) (marks_tell hall))

pub by_found : (pcm : List ℕ) (s : Span) (ts : List Term) (os : List Float) {found f : Option ℕ} {new : List Float} → found ≡ f
    → new ≡ mixed_found pcm s ts f os
    → new ≡ mixed_found pcm s ts found os
by_found pcm s ts os e p = p ∙ ap (λ (g : Option ℕ). mixed_found pcm s ts g os) (sym e)

-- what is found is one of the inputs
pub found_inside : (code : ℕ) (codes : List ℕ) {i : ℕ} → matching code codes ≡ Some i → i < length codes
found_inside code codes e = (subst (Judged code codes) e (judged code codes)).0

-- on each channel a bed's terms have the coefficients that the rules add
pub bed_adds_is : (h : Setup) (b : Bed) (c : ℕ) → on_channel c (bed_terms h b) ≡ adds_of h b c
unfolding bed_adds route_terms on_channel
bed_adds_is h b c = go (route_in (present h.layout) b.code)
  where
    go : (r : Route) → on_channel c (route_terms h r b.code b.gain) ≡ routed (λ p g d. pan_in h p g 0·0 d) (bed_position b.code) r b.gain c
    go Bass = refl
    go Folded = refl
    go (Direct k) = refl
    go Unsupported = refl
