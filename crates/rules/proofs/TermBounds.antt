-- What panning adds on a channel: at most 19 coefficients, each finite and at most 8. Assumes nothing.
use mathlib.Core.Path.{◌≡◌, refl}
use mathlib.Core.Bool.{Bool, true, false, cond}
use mathlib.Core.List.Memᴰ
use mathlib.Core.List.{List, [], ◌∷◌}
use Prim.Native.Nat.{ℕ, suc, ◌*◌, ◌≤◌}
use native.Mathlib.Nat.{le_refl, le_trans}
use native.Mathlib.Omega.{arith}
use lib.Dec.{T, eqb, lit≤}
use lib.ListN.{length, length-append}
use lib.Ieee.{Float, eq, ne}
use Rattle.ieee.specs.Units.{One}
use Rattle.ieee.specs.Bounds.{Bounded, All}
use Rattle.ieee.proofs.Signed.{mag_is}
use Rattle.vectors.specs.declared.Vec3.{Vec3}
use Rattle.panning.specs.declared.Panned.{Panned}
use Rattle.panning.specs.Choice.{0·0, 1·0, keep}
use Rattle.panning.specs.Table.{Position, between, 8·0}
use Rattle.panning.specs.Terms.{Term, term, panned, audible, paired, spread, on_channel}
use Rattle.panning.specs.Speakers.{full_range}
use Rattle.panning.specs.Setup.{Setup, HallFits, present, speakers_in, panned_in, terms_in, pan_in}
use Rattle.panning.specs.Coefficients.{Each}
use Rattle.panning.proofs.Theorems.{pans_in}
use Rattle.panning.proofs.Tables.{gain8}
use Rattle.rules.proofs.EachOf.{either, length_map}

-- ---- sizes
pub eight_bounded : (x : Float) → T (between 0·0 8·0 x) → Bounded (8 * One) x
eight_bounded x h = let g = gain8 x h in record { f32 = g.f32; most = omega (arith, mag_is x, g.plus, g.most) }

-- ---- how many
audible_few : (ts : List Term) → length (audible ts) ≤ length ts
unfolding audible
audible_few [] = le_refl 0
audible_few (t ∷ ts) = go (ne t.coefficient 0·0) (audible_few ts)
  where
    go : (b : Bool) → length (audible ts) ≤ length ts → length (cond b (t ∷ audible ts) (audible ts)) ≤ suc (length ts)
    go true h = omega arith
    go false h = omega arith

paired_few : (ks : List ℕ) (cs : List Float) → length (paired ks cs) ≤ length ks
unfolding paired
paired_few [] cs = le_refl 0
paired_few (k ∷ ks) [] = omega arith
paired_few (k ∷ ks) (c ∷ cs) = let h = paired_few ks cs in omega arith

keep_few : (f : ℕ → Bool) (l : List ℕ) → length (keep f l) ≤ length l
unfolding keep
keep_few f [] = le_refl 0
keep_few f (k ∷ l) = go (f k) (keep_few f l)
  where
    go : (b : Bool) → length (keep f l) ≤ length l → length (cond b (k ∷ keep f l) (keep f l)) ≤ suc (length l)
    go true h = omega arith
    go false h = omega arith

-- no hall has more than eleven
speakers_few : (n : ℕ) → length (speakers_in n) ≤ 11
unfolding speakers_in
speakers_few n = keep_few (present n) full_range

eight_corners : (hall : Setup) (p : Vec3) (g s : Float) → length (panned_in hall p g s).corners ≤ 8
unfolding panned
eight_corners hall p g s = either (λ (r : Panned). length r.corners ≤ 8) (eq g 0·0) (lit≤ tt) (lit≤ tt)

terms_few : (hall : Setup) (p : Vec3) (g s : Float) → length (terms_in hall p g s) ≤ 19
terms_few hall p g s =
    let r = panned_in hall p g s in
    let l = speakers_in hall.layout in
    let a = audible_few (spread l r.extra) in
    let i : length (spread l r.extra) ≡ length l = length_map (λ k. term k r.extra) l in
    let j = speakers_few hall.layout in
    let b = audible_few (paired r.corners r.coefficients) in
    let c = paired_few r.corners r.coefficients in
    let d = eight_corners hall p g s in
    let e = length-append (audible (spread l r.extra)) (audible (paired r.corners r.coefficients)) in
    omega arith

-- ---- on one channel
on_few : (c : ℕ) (ts : List Term) → length (on_channel c ts) ≤ length ts
unfolding on_channel
on_few c [] = le_refl 0
on_few c (t ∷ ts) = go (eqb c t.channel) (on_few c ts)
  where
    go : (b : Bool) → length (on_channel c ts) ≤ length ts → length (cond b (t.coefficient ∷ on_channel c ts) (on_channel c ts)) ≤ suc (length ts)
    go true h = omega arith
    go false h = omega arith

on_all : (P : Float → Type 0) (c : ℕ) (ts : List Term) → Each (λ t. P t.coefficient) ts → All P (on_channel c ts)
unfolding on_channel
on_all P c [] h = tt
on_all P c (t ∷ ts) h =
    let rest = on_all P c ts (λ u m. h u (Memᴰ.tail m)) in
    either (All P) (eqb c t.channel) (h t (Memᴰ.head refl), rest) rest

-- at most 19 coefficients, each at most 8
pub record Modest (ks : List Float) : Type 0 where
  pub few : length ks ≤ 19
  pub small : All (Bounded (8 * One)) ks

pub panned_modest : (hall : Setup) → HallFits hall → (p : Vec3) → Position p → (g s : Float) → T (between 0·0 8·0 g) → T (between 0·0 1·0 s) → (c : ℕ)
    → Modest (pan_in hall p g s c)
panned_modest hall f p q g s h k c =
    record {
      few = le_trans (on_few c (terms_in hall p g s)) (terms_few hall p g s);
      small = on_all (Bounded (8 * One)) c (terms_in hall p g s) (λ t m. eight_bounded t.coefficient ((pans_in hall f p q).bounded g s h k t m));
    }
