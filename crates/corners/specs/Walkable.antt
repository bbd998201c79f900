-- The speakers of a hall in the order of (y, z, x): what the arrays must be for a walk over them (`Walkable`), and who stands in them (`StandAt`). A reader may skip the rest:
-- the contracts of `row` and `layer`. Assumes nothing.
use Rattle.std.specs.Prelude.{ℕ, ◌+◌, ◌≤◌, ◌<◌, ◌≡◌, Bool, List, Float}
use Rattle.vectors.specs.declared.Vec3.{Vec3}
use Rattle.corners.specs.Choice.{first, flank, row_among, side}
use Rattle.corners.specs.declared.Ends.{Ends}
use Rattle.corners.specs.declared.Layer.{Layer}
use Rattle.corners.specs.Found.{side_of, row_of}
use Rattle.corners.specs.EqualRuns.{Members, Runs, Along}

-- the row at a
pub record RowRuns (x : ℕ → Float) (rowEnd : ℕ → ℕ) (a : ℕ) : Type 0 where
  pub some : a < rowEnd a
  pub few : rowEnd a ≤ 12
  pub sides : Runs x (λ i. i + 1) a (rowEnd a)

-- the layer at a, and each of its rows
pub record LayerRuns (x z : ℕ → Float) (layerEnd rowEnd : ℕ → ℕ) (a : ℕ) : Type 0 where
  pub some : a < layerEnd a
  pub few : layerEnd a ≤ 12
  pub rows : Runs z rowEnd a (layerEnd a)
  pub sides : (i : ℕ) → a ≤ i → i < layerEnd a → Runs x (λ j. j + 1) i (rowEnd i)

-- the n speakers: layers of equal y, in each of them rows of equal z, in each of them x rises
pub record Walkable (x y z : ℕ → Float) (layerEnd rowEnd : ℕ → ℕ) (n : ℕ) : Type 0 where
  pub some : 0 < n
  pub few : n ≤ 12
  pub layers : Runs y layerEnd 0 n
  pub rows : (i : ℕ) → i < n → Runs z rowEnd i (layerEnd i)
  pub sides : (i : ℕ) → i < n → Runs x (λ j. j + 1) i (rowEnd i)

-- they are the channels of l, at their places
pub record StandAt (sp : ℕ → Vec3) (l : List ℕ) (x y z : ℕ → Float) (channel : ℕ → ℕ) (n : ℕ) : Type 0 where
  pub members : Members channel 0 n l
  pub at_x : Along x 0 n channel (λ k. (sp k).x)
  pub at_y : Along y 0 n channel (λ k. (sp k).y)
  pub at_z : Along z 0 n channel (λ k. (sp k).z)

-- ---- what is found: for any channels that stand there, those of the choice

pub record RowAt (x : ℕ → Float) (channel : ℕ → ℕ) (a b : ℕ) (v : Float) (r : Ends) : Type 0 where
  pub is : (C : ℕ → Float) (l : List ℕ) → Along x a b channel C → Members channel a b l → (right : Bool) → side_of right r ≡ first (flank right C v l)

pub record LayerAt (x z : ℕ → Float) (channel : ℕ → ℕ) (a b : ℕ) (p : Vec3) (q : Layer) : Type 0 where
  pub is : (sp : ℕ → Vec3) (l : List ℕ) → Along x a b channel (λ k. (sp k).x) → Along z a b channel (λ k. (sp k).z) → Members channel a b l → (front right : Bool) →
      side_of right (row_of front q) ≡ first (side right sp p (row_among front sp p l))
