-- The sum of each channel at a sample is finite and at most 82,688: 18 beds and 16 objects, at most 19 terms each, samples within 16 and coefficients within 8. Assumes nothing.
use mathlib.Core.Path.{◌≡◌, refl, ap, subst}
use mathlib.Core.Bool.{Bool, true, ◌&&◌}
use mathlib.Core.List.{List, [], ◌∷◌, ◌++◌}
use Prim.Native.Nat.{ℕ, zero, suc, ◌+◌, ◌*◌, ◌^◌, ◌≤◌, ◌<◌}
use native.Mathlib.Nat.{le_trans, le_of_eq, le_refl}
use native.Mathlib.Omega.{arith}
use lib.Dec.{T, eqb, lit<, lit≤}
use lib.ListN.{length, get_or, length-append}
use lib.Ieee.{Float, binary32, fits, of_bits, round, neg, le, lt, eq}
use lib.Ieee.Fits.{and_l, and_r}
use Rattle.ieee.specs.Units.{One, mag}
use Rattle.ieee.specs.Bounds.{Bounded, All}
use Rattle.ieee.proofs.Constants.{whole_grid, whole_less}
use Rattle.ieee.proofs.Bound.{mul_bounded}
use Rattle.mixing.specs.Sums as sums
use Rattle.mixing.proofs.Theorems.{AddendWithin, total_bounded}
use Rattle.beds.specs.declared.Route.{Route}
use Rattle.beds.specs.declared.Route.TheVariants.{Bass, Folded, Direct, Unsupported}
use Rattle.std.specs.Prelude.{Option, Some, None}
use Rattle.beds.specs.Routes.{route_in, bass_gain}
use Rattle.beds.specs.Positions.{positions, bed_position}
use Rattle.beds.specs.Matching.{matching}
use Rattle.beds.specs.BedTerms.{alone, routed, bed_adds}
use Rattle.beds.proofs.Matches.{Judged, judged}
use Rattle.vectors.specs.declared.Vec3.{Vec3}
use Rattle.lowpass.specs.Bound.{Range}
use Rattle.panning.specs.Choice.{1·0}
use Rattle.panning.specs.Table.{Position, between, 8·0}
use Rattle.panning.specs.Setup.{Setup, HallFits, present, pan_in}
use Rattle.rules.specs.Parts.{0·0}
use Rattle.rules.specs.Leaves.{Source, Bed}
use Rattle.rules.specs.Mix.{Moment, object_adds, adds_of, scaled_by, fed_by, beds_on, objects_on, heard}
use Rattle.rules.proofs.EachOf.{either, all_append}
use Rattle.rules.proofs.Owed.{InHall, Mixable}
use Rattle.rules.proofs.TermBounds.{eight_bounded, Modest, panned_modest}
use Rattle.rules.proofs.Sends.{object_modest}

abbrev Small : sums.Addend → Type 0
Small t = AddendWithin 16 8 t

-- what a channel's sum is at most
abbrev pub Most : ℕ
Most = 82688 * One

pub most_range : Range Most
unfolding One
most_range = record { low = lit≤ tt; high = lit≤ tt }

pub most_modest : Most ≤ 2 ^ 166
unfolding One
most_modest = lit≤ tt

-- ---- beds
abbrev fitting : Vec3 → Bool
fitting v = fits binary32 v.x && (fits binary32 v.y && fits binary32 v.z)

abbrev all_fitting : List Vec3 → Bool
all_fitting [] = true
all_fitting (v ∷ vs) = fitting v && all_fitting vs

fitting_position : (v : Vec3) → T (fitting v) → Position v
fitting_position v t =
    let r = and_r (fits binary32 v.x) (fits binary32 v.y && fits binary32 v.z) t in
    record { x = and_l (fits binary32 v.x) _ t; y = and_l (fits binary32 v.y) _ r; z = and_r (fits binary32 v.y) _ r }

at_fitting : (vs : List Vec3) (i : ℕ) (d : Vec3) → T (fitting d) → T (all_fitting vs) → T (fitting (get_or vs i d))
at_fitting [] i d p t = p
at_fitting (v ∷ vs) zero d p t = and_l (fitting v) (all_fitting vs) t
at_fitting (v ∷ vs) (suc i) d p t = at_fitting vs i d p (and_r (fitting v) (all_fitting vs) t)

pub bed_place : (code : ℕ) → Position (bed_position code)
unfolding bed_position positions round fits neg of_bits
bed_place code = fitting_position (bed_position code) (at_fitting positions code (record { x = 0·0; y = 0·0; z = 0·0 }) tt tt)

bass_bounded : (g : Float) → Bounded (8 * One) g → Bounded (8 * One) (bass_gain g)
unfolding round fits mag One
bass_bounded g h = mul_bounded {b = One} (whole_grid 8 (lit< tt)) (whole_less 8 (lit≤ tt)) (le_refl (8 * One * One)) h
    (record { f32 = record { fine = tt; fit = tt }; most = lit≤ tt })

alone_modest : (k : ℕ) (g : Float) (c : ℕ) → Bounded (8 * One) g → Modest (alone k g c)
alone_modest k g c h = either Modest (eqb c k) (record { few = lit≤ tt; small = (h, tt) }) (record { few = lit≤ tt; small = tt })

zero_size : T (between 0·0 1·0 0·0)
unfolding between fits le lt eq
zero_size = tt

module _ (hall : Setup) (f : HallFits hall) where
  routed_modest : (r : Route) (code : ℕ) (g : Float) (c : ℕ) → T (between 0·0 8·0 g) → Modest (routed (λ p g c. pan_in hall p g 0·0 c) (bed_position code) r g c)
  routed_modest Bass code g c h = alone_modest 3 (bass_gain g) c (bass_bounded g (eight_bounded g h))
  routed_modest Folded code g c h = panned_modest hall f (bed_position code) (bed_place code) g 0·0 h zero_size c
  routed_modest (Direct k) code g c h = alone_modest k g c (eight_bounded g h)
  routed_modest Unsupported code g c h = record { few = lit≤ tt; small = tt }

  bed_modest : (b : Bed) (c : ℕ) → T (between 0·0 8·0 b.gain) → Modest (adds_of hall b c)
  unfolding bed_adds
  bed_modest b c h = routed_modest (route_in (present hall.layout) b.code) b.code b.gain c h

-- ---- all of them
-- at most n, and small
record Fewer (n : ℕ) (ts : List sums.Addend) : Type 0 where
  few : length ts ≤ n
  small : All Small ts

modest_by : (ks : List Float) (x : Float) → Modest ks → Bounded (16 * One) x → Fewer 19 (scaled_by ks x)
modest_by ks x m h = record { few = le_trans (le_of_eq (count ks)) m.few; small = all ks m.small }
  where
    count : (ks : List Float) → length (scaled_by ks x) ≡ length ks
    count [] = refl
    count (k ∷ ks) = ap suc (count ks)

    all : (ks : List Float) → All (Bounded (8 * One)) ks → All Small (scaled_by ks x)
    all [] q = tt
    all (k ∷ ks) q = (record { sample = h; coef = q.0 }, all ks q.1)

one_more : (n : ℕ) → 19 + n * 19 ≡ suc n * 19
one_more n = omega arith

joined : {m n : ℕ} (ss ts : List sums.Addend) → Fewer m ss → Fewer n ts → Fewer (m + n) (ss ++ ts)
joined ss ts a b = let e = length-append ss ts in record { few = omega arith; small = all_append Small ss ts a.small b.small }

fed_fewer : (ks : List Float) (code : ℕ) (codes : List ℕ) (f : Option ℕ) (inputs : ℕ → Float) → Judged code codes f → Modest ks
    → ((i : ℕ) → i < length codes → Bounded (16 * One) (inputs i)) → Fewer 19 (fed_by ks f inputs)
fed_fewer ks code codes (Some i) inputs j m h = modest_by ks (inputs i) m (h i j.0)
fed_fewer ks code codes None inputs j m h = record { few = lit≤ tt; small = tt }

module _ (hall : Setup) (f : HallFits hall) (c : ℕ) where
  beds_fewer : (bs : List Bed) (codes : List ℕ) (inputs : ℕ → Float) → All (λ (b : Bed). T (between 0·0 8·0 b.gain)) bs
      → ((i : ℕ) → i < length codes → Bounded (16 * One) (inputs i)) → Fewer (length bs * 19) (beds_on hall c bs codes inputs)
  beds_fewer [] codes inputs g h = record { few = lit≤ tt; small = tt }
  beds_fewer (b ∷ bs) codes inputs g h =
      subst (λ (n : ℕ). Fewer n (beds_on hall c (b ∷ bs) codes inputs)) (one_more (length bs))
      (joined (fed_by (adds_of hall b c) (matching b.code codes) inputs) (beds_on hall c bs codes inputs)
      (fed_fewer (adds_of hall b c) b.code codes (matching b.code codes) inputs (judged b.code codes) (bed_modest hall f b c g.0) h)
      (beds_fewer bs codes inputs g.1 h))

  objects_fewer : (ss : List Source) (own : List Float) → All InHall ss → All (Bounded (16 * One)) own → Fewer (length ss * 19) (objects_on hall c ss own)
  objects_fewer [] own g h = record { few = lit≤ tt; small = tt }
  objects_fewer (s ∷ ss) [] g h = record { few = omega arith; small = tt }
  objects_fewer (s ∷ ss) (x ∷ own) g h =
      subst (λ (n : ℕ). Fewer n (objects_on hall c (s ∷ ss) (x ∷ own))) (one_more (length ss))
      (joined (scaled_by (object_adds hall s c) x) (objects_on hall c ss own) (modest_by (object_adds hall s c) x (object_modest s g.0 hall f c) h.0)
      (objects_fewer ss own g.1 h.1))

-- a moment in a hall that fits, whose sources are in range and whose samples refusal 8 let pass
pub record Hearable (m : Moment) : Type 0 where
  pub hall : HallFits m.hall
  pub sources : Mixable m.beds m.objects
  pub inputs : (i : ℕ) → i < length m.codes → Bounded (16 * One) (m.inputs i)
  pub own : All (Bounded (16 * One)) m.own

pub heard_bounded : (m : Moment) → Hearable m → (c : ℕ) → Bounded Most (heard m c)
unfolding heard
heard_bounded m h c =
    let bs = beds_on m.hall c m.beds m.codes m.inputs in
    let os = objects_on m.hall c m.objects m.own in
    let j = joined bs os (beds_fewer m.hall h.hall c m.beds m.codes m.inputs h.sources.beds h.inputs)
    (objects_fewer m.hall h.hall c m.objects m.own h.sources.objects h.own) in
    let b = h.sources.few_beds in
    let o = h.sources.few_objects in
    total_bounded 16 8 (lit< tt) 646 82688 (bs ++ os) (le_trans j.few (omega arith)) (lit≤ tt) (lit≤ tt) j.small
