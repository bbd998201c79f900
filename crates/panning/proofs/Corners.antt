-- The eight corners of a position exist and are speakers of the table; about each axis they are equal or lie on the two sides of the position. So each share lies from 0 to 1.
-- Assumes nothing.
use mathlib.Core.Path.{refl, subst}
use mathlib.Core.Logic.{inl, inr}
use mathlib.Core.Bool.{Bool, true, false}
use mathlib.Core.List.Memᴰ
use mathlib.Core.List.{List, [], ◌∷◌}
use Prim.Native.Nat.{ℕ}
use lib.Dec.{T}
use lib.Ieee.{Float, binary32, fits, eq}
use Rattle.ieee.specs.Units.{F32}
use Rattle.vectors.specs.declared.Vec3.{Vec3}
use Rattle.corners.specs.Choice.{keep, first, or_list, level, end, flank, layer, row_among, side, corner}
use Rattle.panning.specs.Terms.{corner_at, up, ahead, across}
use Rattle.corners.specs.Table.{Table, Position}
use Rattle.corners.proofs.Lists.{In, Some, Each, keep→, first_in, or_else→, or_else_some, some_of}
use Rattle.panning.proofs.Axis.{end→, Ends, ends, level_with}
use Rattle.corners.proofs.Tables.{Tame3, all_tame}
use Rattle.panning.proofs.SharesInUnit.{Beside, Part, eq_self, ratio_part}

-- ---- left and right of a row
module _ (X : ℕ → Float) (v : Float) (g : T (fits binary32 v)) (l : List ℕ) (f : Each (λ k. F32 (X k)) l) (s : Some l) where
  sides : Beside (X (first (end false X v l))) (X (first (or_list (level X v l) (end true X v l)))) v
  unfolding level or_list first
  sides = go (keep (λ t. eq (X t) v) l) (λ t m. keep→ (λ t. eq (X t) v) l m)
    where
      go : (k : List ℕ) → Each (λ t. In t l × T (eq (X t) v)) k → Beside (X (first (end false X v l))) (X (first (or_list k (end true X v l)))) v
      go (t ∷ k) h = let i = h t (Memᴰ.head refl) in inl (level_with X v g l f s t i.0 i.1)
      go [] h =
          let d = ends X v l f s in
          let low = first_in (end false X v l) d.low_some in
          elim d.apart [
            | inl e ↦ inl (subst (λ (k : List ℕ). T (eq (X (first (end false X v l))) (X (first k)))) e
                (eq_self (X (first (end false X v l))) (f (first (end false X v l)) (end→ X v l false low))))
            | inr h ↦ inr (h.0 (first (end false X v l)) low, h.1 (first (end true X v l)) (first_in (end true X v l) d.high_some))
          ]

-- ---- the corners
module _ (sp : ℕ → Vec3) (l : List ℕ) (t : Table sp l) (p : Vec3) where
  abbrev X : ℕ → Float
  X k = (sp k).x

  abbrev Y : ℕ → Float
  Y k = (sp k).y

  abbrev Z : ℕ → Float
  Z k = (sp k).z

  tame_in : Each (λ k. Tame3 (sp k)) l
  tame_in = all_tame sp l t.placed

  layer_in : (b : Bool) {s : ℕ} → In s (layer b sp p l) → In s l
  unfolding layer
  layer_in b m = end→ Y p.y l b m

  row_in : (b c : Bool) {s : ℕ} → In s (row_among c sp p (layer b sp p l)) → In s (layer b sp p l)
  unfolding row_among
  row_in b c m = end→ Z p.z (layer b sp p l) c m

  side_in : (b c d : Bool) {s : ℕ} → In s (side d sp p (row_among c sp p (layer b sp p l))) → In s (row_among c sp p (layer b sp p l))
  unfolding side flank level
  side_in b c false m = end→ X p.x (row_among c sp p (layer b sp p l)) false m
  side_in b c true m = elim (or_else→ (level X p.x (row_among c sp p (layer b sp p l))) (end true X p.x (row_among c sp p (layer b sp p l))) m) [
    | inl n ↦ (keep→ (λ k. eq (X k) p.x) (row_among c sp p (layer b sp p l)) n).0
    | inr n ↦ end→ X p.x (row_among c sp p (layer b sp p l)) true n
  ]

  pub layers : Ends Y p.y l
  layers = ends Y p.y l (λ s m. (tame_in s m).y.f32) (some_of l t.some)

  layer_some : (b : Bool) → Some (layer b sp p l)
  unfolding layer
  layer_some false = layers.low_some
  layer_some true = layers.high_some

  pub rows : (b : Bool) → Ends Z p.z (layer b sp p l)
  rows b = ends Z p.z (layer b sp p l) (λ s m. (tame_in s (layer_in b m)).z.f32) (layer_some b)

  row_some : (b c : Bool) → Some (row_among c sp p (layer b sp p l))
  unfolding row_among
  row_some b false = (rows b).low_some
  row_some b true = (rows b).high_some

  row_x : (b c : Bool) → Each (λ k. F32 (X k)) (row_among c sp p (layer b sp p l))
  row_x b c s m = (tame_in s (layer_in b (row_in b c m))).x.f32

  side_some : (b c d : Bool) → Some (side d sp p (row_among c sp p (layer b sp p l)))
  unfolding side flank
  side_some b c false = (ends X p.x (row_among c sp p (layer b sp p l)) (row_x b c) (row_some b c)).low_some
  side_some b c true = or_else_some (level X p.x (row_among c sp p (layer b sp p l))) (end true X p.x (row_among c sp p (layer b sp p l)))
      (ends X p.x (row_among c sp p (layer b sp p l)) (row_x b c) (row_some b c)).high_some

  pub corner_in_row : (b c d : Bool) → In (corner_at (corner sp l p) b c d) (row_among c sp p (layer b sp p l))
  unfolding corner
  corner_in_row b c d = side_in b c d (first_in (side d sp p (row_among c sp p (layer b sp p l))) (side_some b c d))

  pub corner_in_layer : (b c d : Bool) → In (corner_at (corner sp l p) b c d) (layer b sp p l)
  corner_in_layer b c d = row_in b c (corner_in_row b c d)

  -- (a) every corner is a speaker of the table
  pub corner_in : (b c d : Bool) → In (corner_at (corner sp l p) b c d) l
  corner_in b c d = layer_in b (corner_in_layer b c d)

  corner_tame : (b c d : Bool) → Tame3 (sp (corner_at (corner sp l p) b c d))
  corner_tame b c d = tame_in (corner_at (corner sp l p) b c d) (corner_in b c d)

  -- ---- each axis
  up_beside : Beside (Y (corner_at (corner sp l p) false true false)) (Y (corner_at (corner sp l p) true true false)) p.y
  unfolding corner layer
  up_beside = elim layers.apart [
    | inl e ↦ inl (subst (λ (k : List ℕ). T (eq (Y (corner_at (corner sp l p) false true false)) (Y (first (side false sp p (row_among true sp p k)))))) e
        (eq_self (Y (corner_at (corner sp l p) false true false)) (corner_tame false true false).y.f32))
    | inr h ↦ inr (
      h.0 (corner_at (corner sp l p) false true false) (corner_in_layer false true false),
      h.1 (corner_at (corner sp l p) true true false) (corner_in_layer true true false),
    )
  ]

  ahead_beside : (b : Bool) → Beside (Z (corner_at (corner sp l p) b false false)) (Z (corner_at (corner sp l p) b true false)) p.z
  unfolding corner row_among
  ahead_beside b = elim (rows b).apart [
    | inl e ↦ inl (subst (λ (k : List ℕ). T (eq (Z (corner_at (corner sp l p) b false false)) (Z (first (side false sp p k))))) e
        (eq_self (Z (corner_at (corner sp l p) b false false)) (corner_tame b false false).z.f32))
    | inr h ↦ inr (h.0 (corner_at (corner sp l p) b false false) (corner_in_row b false false), h.1 (corner_at (corner sp l p) b true false) (corner_in_row b true false))
  ]

  module _ (q : Position p) where
    across_beside : (b c : Bool) → Beside (X (corner_at (corner sp l p) b c false)) (X (corner_at (corner sp l p) b c true)) p.x
    unfolding corner side flank
    across_beside b c = sides X p.x q.x (row_among c sp p (layer b sp p l)) (row_x b c) (row_some b c)

    -- (b) every share lies from 0 to 1, and so does what it leaves
    pub up_part : Part (up sp (corner sp l p) p)
    unfolding up
    up_part = ratio_part (Y (corner_at (corner sp l p) false true false)) (Y (corner_at (corner sp l p) true true false)) p.y (corner_tame false true false).y
        (corner_tame true true false).y q.y up_beside

    pub ahead_part : (b : Bool) → Part (ahead sp (corner sp l p) p b)
    unfolding ahead
    ahead_part b = ratio_part (Z (corner_at (corner sp l p) b false false)) (Z (corner_at (corner sp l p) b true false)) p.z (corner_tame b false false).z
        (corner_tame b true false).z q.z (ahead_beside b)

    pub across_part : (b c : Bool) → Part (across sp (corner sp l p) p b c)
    unfolding across
    across_part b c = ratio_part (X (corner_at (corner sp l p) b c false)) (X (corner_at (corner sp l p) b c true)) p.x (corner_tame b c false).x (corner_tame b c true).x
        q.x (across_beside b c)
