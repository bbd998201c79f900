-- What a bed adds in a hall: it goes to its own speaker where that is there, and is panned where it is not. Assumes nothing.
use mathlib.Core.Path.{◌≡◌, ap, ◌∙◌}
use mathlib.Core.Bool.{Bool, cond}
use mathlib.Core.List.{List, [], ◌∷◌}
use Prim.Native.Nat.{ℕ}
use lib.Dec.{T}
use lib.Ieee.{Float, eq}
use Rattle.ieee.specs.Bounds.{All}
use Rattle.beds.specs.declared.Route.{Route}
use Rattle.beds.specs.declared.Route.TheVariants.{Folded, Direct}
use Rattle.beds.specs.Routes.{route_of, folded_unless, route_in}
use Rattle.beds.specs.Positions.{bed_position}
use Rattle.beds.specs.BedTerms.{routed, bed_adds}
use Rattle.panning.specs.Table.{between, 8·0}
use Rattle.panning.specs.Setup.{Setup, HallFits, present, pan_in}
use Rattle.panning.proofs.Theorems.{pans_in, only_present}
use Rattle.rules.specs.Parts.{0·0}
use Rattle.rules.specs.Leaves.{Bed}
use Rattle.rules.specs.Mix.{adds_of}
use Rattle.rules.specs.Promises.{BedPanned, BedHeard}
use Rattle.rules.proofs.ChannelBound.{bed_place}

zero_is : T (eq 0·0 0·0)
unfolding eq
zero_is = tt

module _ (hall : Setup) (b : Bed) where
  -- what it adds by a route
  by : Route → ℕ → List Float
  by r c = routed (λ p g c. pan_in hall p g 0·0 c) (bed_position b.code) r b.gain c

  of_route : {r : Route} → route_of b.code ≡ r → (c : ℕ) → adds_of hall b c ≡ by (folded_unless (present hall.layout) r) c
  unfolding bed_adds route_in by
  of_route e c = ap (λ (r : Route). by (folded_unless (present hall.layout) r) c) e

  of_speaker : {t : Bool} (k : ℕ) → route_of b.code ≡ Direct k → present hall.layout k ≡ t → (c : ℕ) → adds_of hall b c ≡ by (cond t (Direct k) Folded) c
  of_speaker k e h c = of_route e c ∙ ap (λ (t : Bool). by (cond t (Direct k) Folded) c) h

  module _ (f : HallFits hall) (g : T (between 0·0 8·0 b.gain)) where
    bed_panned : ((c : ℕ) → adds_of hall b c ≡ pan_in hall (bed_position b.code) b.gain 0·0 c) → BedPanned hall b
    bed_panned adds =
        let at = bed_place b.code in
        record {
          adds = adds;
          channels = only_present hall f (bed_position b.code) at b.gain 0·0;
          sum = (pans_in hall f (bed_position b.code) at).energy b.gain 0·0 g zero_is;
        }

    bed_heard : BedHeard hall b
    unfolding by
    bed_heard = record { bass = of_route; direct = of_speaker; panned = λ k e h. bed_panned (of_speaker k e h); folded = λ e. bed_panned (of_route e) }

pub beds_heard : (hall : Setup) → HallFits hall → (bs : List Bed) → All (λ (b : Bed). T (between 0·0 8·0 b.gain)) bs → All (BedHeard hall) bs
beds_heard hall f [] h = tt
beds_heard hall f (b ∷ bs) h = (bed_heard hall b f h.0, beds_heard hall f bs h.1)
