-- Channels that a hall lacks: beds whose speaker is one of them are panned, and nothing is heard there. In 7.1.4 each bed is routed as document 01 says. Assumes
-- nothing.
use mathlib.Core.Path.{◌≡◌, refl, sym, ap, ap₂, ◌∙◌, subst}
use mathlib.Core.Bool.{Bool, true, false, cond}
use mathlib.Core.List.{List, [], ◌∷◌, ◌++◌}
use Prim.Native.Nat.{ℕ}
use borrow.Author.Tests.{ne_eqb}
use lib.Dec.{T, eqb}
use lib.Ieee.{Float}
use Rattle.ieee.specs.Bounds.{All}
use Rattle.mixing.specs.Sums as sums
use Rattle.mixing.specs.Sums.{total}
use Rattle.std.specs.Prelude.{Option, Some, None}
use Rattle.beds.specs.declared.Route.{Route}
use Rattle.beds.specs.declared.Route.TheVariants.{Bass, Folded, Direct, Unsupported}
use Rattle.beds.specs.Routes.{route_of, bass_gain, folded_unless, route_in}
use Rattle.beds.specs.Positions.{bed_position}
use Rattle.beds.specs.Matching.{matching}
use Rattle.beds.specs.BedTerms.{alone, routed, bed_adds}
use Rattle.beds.proofs.Theorems.{route_all_here}
use Rattle.panning.specs.Choice.{keep, every_of}
use Rattle.panning.specs.Table.{Position}
use Rattle.panning.specs.Setup.{Setup, HallFits, present, pan_in}
use Rattle.panning.proofs.Theorems.{no_speaker, bass_present, all_present}
use Rattle.rules.specs.Parts.{0·0}
use Rattle.rules.specs.Leaves.{Source, Bed}
use Rattle.rules.specs.Mix.{object_terms, object_adds, adds_of, scaled_by, fed_by, beds_on, objects_on, Moment, heard}
use Rattle.rules.proofs.ChannelBound.{bed_place}
use Rattle.rules.proofs.Sends.{panned_alone}

pub routed_714 : (code : ℕ) → route_in (present 0) code ≡ route_of code
routed_714 code = route_all_here (present 0) all_present code

-- ---- which beds are panned in each layout

abbrev is_folded : Route → Bool
is_folded Bass = false
is_folded Folded = true
is_folded (Direct k) = false
is_folded Unsupported = false

-- the codes from 0 to 17 of those that layout n pans
pub folded_in : ℕ → List ℕ
folded_in n = keep (λ code. is_folded (route_in (present n) code)) (0 ∷ 1 ∷ 2 ∷ 3 ∷ 4 ∷ 5 ∷ 6 ∷ 7 ∷ 8 ∷ 9 ∷ 10 ∷ 11 ∷ 12 ∷ 13 ∷ 14 ∷ 15 ∷ 16 ∷ 17 ∷ [])

-- 11, 12, 15 and 16 in all four, 7 and 8 where channels 4 and 5 are absent, 9, 10, 13 and 14 where the top ones are
pub absent_beds : (folded_in 0 ≡ 11 ∷ 12 ∷ 15 ∷ 16 ∷ []) × (folded_in 1 ≡ 7 ∷ 8 ∷ 11 ∷ 12 ∷ 15 ∷ 16 ∷ [])
    × (folded_in 2 ≡ 9 ∷ 10 ∷ 11 ∷ 12 ∷ 13 ∷ 14 ∷ 15 ∷ 16 ∷ []) × (folded_in 3 ≡ 7 ∷ 8 ∷ 9 ∷ 10 ∷ 11 ∷ 12 ∷ 13 ∷ 14 ∷ 15 ∷ 16 ∷ [])
unfolding folded_in keep every_of present route_in route_of
absent_beds = (refl, refl, refl, refl)

-- ---- nothing is heard on an absent channel

-- its place is of f32 values
abbrev pub Placed : Source → Type 0
Placed s = Position s.place

module _ (hall : Setup) (f : HallFits hall) (c : ℕ) (away : T (present hall.layout c) → ⊥) where
  -- it is not one that is there
  other : (k : ℕ) → T (present hall.layout k) → eqb c k ≡ false
  other k h = ne_eqb c k (λ e. away (subst (λ (j : ℕ). T (present hall.layout j)) (sym e) h))

  alone_absent : (k : ℕ) (g : Float) → T (present hall.layout k) → alone k g c ≡ []
  alone_absent k g h = ap (λ (b : Bool). cond b (g ∷ []) []) (other k h)

  pan_absent : (code : ℕ) (g : Float) → pan_in hall (bed_position code) g 0·0 c ≡ []
  pan_absent code g = no_speaker hall f (bed_position code) (bed_place code) c (λ s. away s.0) g 0·0

  abbrev here : ℕ → Bool
  here = present hall.layout

  pub bed_absent : (b : Bed) → adds_of hall b c ≡ []
  unfolding bed_adds route_in
  bed_absent b = go (route_of b.code)
    where
      direct : (k : ℕ) (t : Bool) → here k ≡ t → routed (λ p g c. pan_in hall p g 0·0 c) (bed_position b.code) (cond t (Direct k) Folded) b.gain c ≡ []
      direct k true e = alone_absent k b.gain (subst T (sym e) tt)
      direct k false e = pan_absent b.code b.gain

      go : (r : Route) → routed (λ p g c. pan_in hall p g 0·0 c) (bed_position b.code) (folded_unless here r) b.gain c ≡ []
      go Bass = alone_absent 3 (bass_gain b.gain) (bass_present hall.layout f.layout)
      go Folded = pan_absent b.code b.gain
      go (Direct k) = direct k (here k) refl
      go Unsupported = refl

  fed_none : (i : Option ℕ) (inputs : ℕ → Float) → fed_by [] i inputs ≡ []
  fed_none (Some i) inputs = refl
  fed_none None inputs = refl

  beds_absent : (bs : List Bed) (codes : List ℕ) (inputs : ℕ → Float) → beds_on hall c bs codes inputs ≡ []
  beds_absent [] codes inputs = refl
  beds_absent (b ∷ bs) codes inputs =
      ap₂ (λ (s t : List sums.Addend). s ++ t)
      (ap (λ (ks : List Float). fed_by ks (matching b.code codes) inputs) (bed_absent b) ∙ fed_none (matching b.code codes) inputs) (beds_absent bs codes inputs)

  pub object_absent : (s : Source) → Position s.place → object_adds hall s c ≡ []
  unfolding object_terms
  object_absent s p =
      panned_alone hall s c (other 3 (bass_present hall.layout f.layout)) ∙ no_speaker hall f s.place p c (λ k. away k.0) s.gain s.size

  objects_absent : (ss : List Source) (own : List Float) → All Placed ss → objects_on hall c ss own ≡ []
  objects_absent [] own h = refl
  objects_absent (s ∷ ss) [] h = refl
  objects_absent (s ∷ ss) (x ∷ own) h =
      ap₂ (λ (s t : List sums.Addend). s ++ t) (ap (λ (ks : List Float). scaled_by ks x) (object_absent s h.0)) (objects_absent ss own h.1)

-- with gains, sizes and sends of any bits
pub absent_unheard : (m : Moment) → HallFits m.hall → All Placed m.objects → (c : ℕ) → present m.hall.layout c ≡ false → heard m c ≡ 0·0
unfolding heard
absent_unheard m f h c e =
    let away : T (present m.hall.layout c) → ⊥ = subst T e in
    ap₂ (λ (s t : List sums.Addend). total 0·0 (s ++ t)) (beds_absent m.hall f c away m.beds m.codes m.inputs)
    (objects_absent m.hall f c away m.objects m.own h)
