-- A reader may skip this file: the contracts of the shares and of the coefficients. Document 01, "Our forms for each place": "f32 arithmetic with the share shown in 0..1 for the
-- chosen speakers". Assumes nothing.
use Rattle.std.specs.Prelude.{ℕ, ◌≡◌, Bool, true, false, List, [], ◌∷◌, ◌++◌, T, Float}
use Rattle.std.specs.Float.{binary32}
use Rattle.std.specs.Float.Ieee.{mul}
use Rattle.vectors.specs.declared.Vec3.{Vec3}
use Rattle.corners.specs.declared.Layer.{Layer}
use Rattle.corners.specs.declared.Cube.{Cube}
use Rattle.panning.specs.declared.LayerShares.{LayerShares}
use Rattle.panning.specs.declared.Shares.{Shares}
use Rattle.corners.specs.Choice.{0·0, 1·0}
use Rattle.panning.specs.Coefficients.{between}
use Rattle.panning.specs.Terms.{ratio, part, weighted}
use Rattle.panning.specs.Terms as t
use Rattle.corners.specs.Found.{chosen}

-- ---- coefficients

-- those of a row's two sides, of weight w, `right` being the share of the right one
abbrev pub row_coefficients : Float → Float → List Float
row_coefficients w right = weighted w (part false right) ∷ weighted w (part true right) ∷ []

-- those of a layer's corners, whose share is u, for the gain g
abbrev pub layer_coefficients : LayerShares → Float → Float → List Float
layer_coefficients s u g =
    row_coefficients (mul binary32 (mul binary32 (part true s.ahead) u) g) s.front ++ row_coefficients (mul binary32 (mul binary32 (part false s.ahead) u) g) s.rear

-- ---- shares

-- those of a layer, the channels standing at sp
abbrev pub layer_shares : (ℕ → Vec3) → Layer → Vec3 → LayerShares
layer_shares sp l p = record {
  ahead = ratio (sp l.rear.low).z (sp l.front.low).z p.z;
  front = ratio (sp l.front.low).x (sp l.front.high).x p.x;
  rear = ratio (sp l.rear.low).x (sp l.rear.high).x p.x;
}

abbrev pub Part : Float → Type 0
Part s = T (between 0·0 1·0 s)

-- those of the speakers c about the place p in the lower or the upper layer, each finite and from 0 to 1
pub record LayerSharesOf (sp : ℕ → Vec3) (c : Cube) (p : Vec3) (top : Bool) (s : LayerShares) : Type 0 where
  pub ahead : (s.ahead ≡ t.ahead sp (chosen c) p top) × Part s.ahead
  pub front : (s.front ≡ t.across sp (chosen c) p top true) × Part s.front
  pub rear : (s.rear ≡ t.across sp (chosen c) p top false) × Part s.rear

pub record SharesOf (sp : ℕ → Vec3) (c : Cube) (p : Vec3) (s : Shares) : Type 0 where
  pub up : (s.up ≡ t.up sp (chosen c) p) × Part s.up
  pub bottom : LayerSharesOf sp c p false s.bottom
  pub top : LayerSharesOf sp c p true s.top
