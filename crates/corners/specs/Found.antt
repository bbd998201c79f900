-- A reader may skip this file: the corners as the walk finds them, two ends in each row, two rows in each layer, two layers. Assumes nothing.
use Rattle.std.specs.Prelude.{ℕ, ◌<◌, Bool, true, false}
use Rattle.corners.specs.declared.Ends.{Ends}
use Rattle.corners.specs.declared.Layer.{Layer}
use Rattle.corners.specs.declared.Cube.{Cube}
use Rattle.corners.specs.Choice.{Corner}

abbrev pub side_of : Bool → Ends → ℕ
side_of false e = e.low
side_of true e = e.high

abbrev pub row_of : Bool → Layer → Ends
row_of false l = l.rear
row_of true l = l.front

abbrev pub layer_of : Bool → Cube → Layer
layer_of false c = c.bottom
layer_of true c = c.top

abbrev pub chosen : Cube → Corner → ℕ
chosen r c = side_of c.right (row_of c.front (layer_of c.top r))

-- all of them are channels
pub record LayerInside (l : Layer) : Type 0 where
  pub fl : l.front.low < 12
  pub fr : l.front.high < 12
  pub rl : l.rear.low < 12
  pub rr : l.rear.high < 12

pub record Inside (r : Cube) : Type 0 where
  pub bottom : LayerInside r.bottom
  pub top : LayerInside r.top
