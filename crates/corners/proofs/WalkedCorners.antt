-- The corners from the ends: a layer of the walk is a layer of the choice, a row of it a row of that layer, and a side of that a corner. Assumes nothing.
use mathlib.Core.Path.{◌≡◌, sym, fun_ext}
use mathlib.Core.Bool.{Bool, true, false}
use mathlib.Core.List.{List}
use Prim.Native.Nat.{ℕ, ◌≤◌, ◌<◌}
use native.Mathlib.Nat.{le_trans, lt_of_lt_of_le}
use lib.Ieee.{Float}
use Rattle.vectors.specs.declared.Vec3.{Vec3}
use Rattle.corners.specs.Choice.{first, end, flank, row_among, side, corner}
use Rattle.corners.specs.Choice as choice
use Rattle.corners.specs.declared.Ends.{Ends}
use Rattle.corners.specs.declared.Layer.{Layer}
use Rattle.corners.specs.Found.{side_of, row_of, layer_of, chosen}
use Rattle.corners.specs.EqualRuns.{Along, EndsAt, SidesAt}
use Rattle.corners.specs.Walkable.{RowRuns, LayerRuns, Walkable, StandAt, RowAt, LayerAt}

pub row_at : {x : ℕ → Float} (ch : ℕ → ℕ) {a b : ℕ} {v : Float} {r : Ends} → SidesAt x a b v r → RowAt x ch a b v (record { low = ch r.low; high = ch r.high })
row_at ch {v = v} {r = r} s = record {
  is = λ C l al h right. elim right as (λ q. side_of q (record { low = ch r.low; high = ch r.high }) ≡ first (flank q C v l)) [
    | false ↦ sym (s.is ch C l al h false)
    | true ↦ sym (s.is ch C l al h true)
  ];
}

-- a part of what stands along an axis
along_part : {c : ℕ → Float} {a b i j : ℕ} (ch : ℕ → ℕ) (C : ℕ → Float) → a ≤ i → j ≤ b → Along c a b ch C → Along c i j ch C
along_part ch C ai jb s k ik kj = s k (le_trans ai ik) (lt_of_lt_of_le kj jb)

module _ {x z : ℕ → Float} {layers rows : ℕ → ℕ} {a : ℕ} (r : LayerRuns x z layers rows a) where
  pub row_runs : (i : ℕ) → a ≤ i → i < layers a → RowRuns x rows i
  row_runs i ai il = record { some = r.rows.further i ai il; few = le_trans (r.rows.inside i ai il) r.few; sides = r.sides i ai il }

  pub layer_at : {ch : ℕ → ℕ} {p : Vec3} {e f g : Ends} → EndsAt z rows a (layers a) p.z e → RowAt x ch e.high (rows e.high) p.x f →
      RowAt x ch e.low (rows e.low) p.x g → LayerAt x z ch a (layers a) p (record { front = f; rear = g })
  unfolding row_among side
  layer_at {ch} {p} {e} {f} {g} k m n = record {
    is = λ sp l ax az h front. elim front as (λ q. (right : Bool) → side_of right (row_of q (record { front = f; rear = g })) ≡ first (side right sp p (row_among q sp p l))) [
      | false ↦ λ right. n.is (λ k. (sp k).x) (row_among false sp p l) (along_part ch (λ k. (sp k).x) (k.from false) (r.rows.inside e.low (k.from false) (k.to false)) ax)
          (k.is ch (λ k. (sp k).z) l az h false) right
      | true ↦ λ right. m.is (λ k. (sp k).x) (row_among true sp p l) (along_part ch (λ k. (sp k).x) (k.from true) (r.rows.inside e.high (k.from true) (k.to true)) ax)
          (k.is ch (λ k. (sp k).z) l az h true) right
    ];
  }

module _ {x y z : ℕ → Float} {layers rows : ℕ → ℕ} {n : ℕ} (r : Walkable x y z layers rows n) where
  pub layer_runs : (i : ℕ) → 0 ≤ i → i < n → LayerRuns x z layers rows i
  layer_runs i o il =
      let to = r.layers.inside i o il in
      record { some = r.layers.further i o il; few = le_trans to r.few; rows = r.rows i il; sides = λ j ij jl. r.sides j (lt_of_lt_of_le jl to) }

  pub cube_is : {ch : ℕ → ℕ} {p : Vec3} {e : Ends} {b t : Layer} → EndsAt y layers 0 n p.y e → LayerAt x z ch e.low (layers e.low) p b →
      LayerAt x z ch e.high (layers e.high) p t → (sp : ℕ → Vec3) (l : List ℕ) → StandAt sp l x y z ch n →
      chosen (record { bottom = b; top = t }) ≡ corner sp l p
  unfolding corner choice.layer
  cube_is {ch} {p} {e} {b} {t} k f g sp l s =
      fun_ext (λ c. elim c.top as (λ q. side_of c.right (row_of c.front (layer_of q (record { bottom = b; top = t }))) ≡
      first (side c.right sp p (row_among c.front sp p (choice.layer q sp p l)))) [ false ↦ bottom c.front c.right | true ↦ top c.front c.right ])
    where
      bottom : (front right : Bool) → side_of right (row_of front b) ≡ first (side right sp p (row_among front sp p (choice.layer false sp p l)))
      bottom front right = f.is sp (choice.layer false sp p l) (along_part ch (λ k. (sp k).x) (k.from false) (r.layers.inside e.low (k.from false) (k.to false)) s.at_x)
          (along_part ch (λ k. (sp k).z) (k.from false) (r.layers.inside e.low (k.from false) (k.to false)) s.at_z)
          (k.is ch (λ k. (sp k).y) l s.at_y s.members false) front right

      top : (front right : Bool) → side_of right (row_of front t) ≡ first (side right sp p (row_among front sp p (choice.layer true sp p l)))
      top front right = g.is sp (choice.layer true sp p l) (along_part ch (λ k. (sp k).x) (k.from true) (r.layers.inside e.high (k.from true) (k.to true)) s.at_x)
          (along_part ch (λ k. (sp k).z) (k.from true) (r.layers.inside e.high (k.from true) (k.to true)) s.at_z)
          (k.is ch (λ k. (sp k).y) l s.at_y s.members true) front right
