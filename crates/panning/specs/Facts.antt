-- What holds of panning over any table of speakers, for a position of any floats: the corners exist, the shares lie from 0 to 1, no speaker gets two corners, and at size 0
-- the squares of the coefficients that are mixed add up to the gain. Assumes nothing.
use Rattle.std.specs.Prelude.{ℕ, ◌≤◌, ◌≡◌, Bool, T, length, Float}
use mathlib.Core.List.{List, [], Memᴰ}
use Rattle.std.specs.Float.Ieee.{eq}
use Rattle.vectors.specs.declared.Vec3.{Vec3}
use Rattle.corners.specs.Choice.{Corner, corner, 0·0, 1·0}
use Rattle.panning.specs.Terms as t
use Rattle.panning.specs.Terms.{Term, panned, terms, corner_terms, on_channel}
use Rattle.panning.specs.Coefficients.{between, 8·0, squares, AddsUp, Each}

-- for the speakers l at the places sp, a size being divided by n, and the position p
pub record Pans (sp : ℕ → Vec3) (l : List ℕ) (n : Float) (p : Vec3) : Type 0 where
  -- each of the eight corners is one of the speakers
  pub corners : (c : Corner) → Memᴰ (corner sp l p c) l
  -- every share is finite and lies from 0 to 1
  pub up : T (between 0·0 1·0 (t.up sp (corner sp l p) p))
  pub ahead : (top : Bool) → T (between 0·0 1·0 (t.ahead sp (corner sp l p) p top))
  pub across : (top front : Bool) → T (between 0·0 1·0 (t.across sp (corner sp l p) p top front))
  -- at a gain and a size of any floats only speakers are named
  pub named : (g s : Float) → Each (λ t. Memᴰ t.channel l) (terms l (panned sp l n p g s))
  -- at gain 0, of either sign, there are no terms
  pub none : (g s : Float) → T (eq g 0·0) → terms l (panned sp l n p g s) ≡ []
  -- every coefficient is finite and lies from 0 to 8
  pub bounded : (g s : Float) → T (between 0·0 8·0 g) → T (between 0·0 1·0 s) → Each (λ t. T (between 0·0 8·0 t.coefficient)) (terms l (panned sp l n p g s))
  -- no speaker gets two corners
  pub once : (g s : Float) → T (between 0·0 8·0 g) → T (between 0·0 1·0 s) → (c : ℕ) → length (on_channel c (corner_terms (panned sp l n p g s))) ≤ 1
  -- at size 0 there are no other terms, and the squares of the speakers' coefficients add up to the gain
  pub plain : (g s : Float) → T (eq s 0·0) → terms l (panned sp l n p g s) ≡ corner_terms (panned sp l n p g s)
  pub energy : (g s : Float) → T (between 0·0 8·0 g) → T (eq s 0·0) → AddsUp (squares l (terms l (panned sp l n p g s))) g
