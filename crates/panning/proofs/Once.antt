-- Of the corners that are one speaker, at most one has a weight that is not 0. Assumes nothing.
use mathlib.Core.Path.{◌≡◌, sym, ap, ◌∙◌, subst}
use mathlib.Core.Logic.{◌⊎◌, inl, inr}
use mathlib.Core.Bool.{Bool, true, false, ◌||◌}
use mathlib.Core.List.{List}
use Prim.Native.Nat.{ℕ}
use lib.Dec.{T, T_not}
use lib.Ieee.{Float, le, eq, unlike}
use Rattle.ieee.proofs.Constants.{zero_mag}
use Rattle.ieee.specs.Units.{F32, P}
use Rattle.vectors.specs.declared.Vec3.{Vec3}
use Rattle.corners.specs.Choice.{Corner, differ, first, layer, row_among, side, corner}
use Rattle.panning.specs.Terms.{ratio, corner_at, up, ahead, across}
use Rattle.corners.specs.Table.{Table, Position}
use Rattle.corners.proofs.Tables.{Tame3, all_tame}
use Rattle.panning.proofs.Tables.{Gain8}
use Rattle.panning.proofs.SharesInUnit.{eq_self, ratio_zero}
use Rattle.panning.proofs.Corners.{layers, rows, corner_in_row, corner_in_layer, corner_in}
use Rattle.panning.proofs.Weighing.{weight, no_up, no_ahead, no_across}

ratio_none : (a b v : Float) → F32 a → a ≡ b → P (ratio a b v) ≡ 0
ratio_none a b v f e = ap (λ (x : Float). P x) (ratio_zero a b v (subst (λ (x : Float). T (eq a x)) e (eq_self a f))) ∙ zero_mag

module _ (sp : ℕ → Vec3) (l : List ℕ) (t : Table sp l) (p : Vec3) (q : Position p) (g : Float) (G : Gain8 g) where
  placed_at : (b c d : Bool) → Tame3 (sp (corner_at (corner sp l p) b c d))
  placed_at b c d = all_tame sp l t.placed (corner_at (corner sp l p) b c d) (corner_in sp l t p b c d)

  -- the weight of a corner on the high end of the axis, where a corner on its low end is the same speaker
  one_layer : (c d c' d' : Bool) → corner_at (corner sp l p) false c d ≡ corner_at (corner sp l p) true c' d' → P (weight sp l p g true c' d') ≡ 0
  unfolding up corner layer
  one_layer c d c' d' e = no_up sp l t p q g G c' d' (elim (layers sp l t p).apart [
    | inl h ↦ ratio_none (sp (corner_at (corner sp l p) false true false)).y (sp (corner_at (corner sp l p) true true false)).y p.y (placed_at false true false).y.f32
        (ap (λ (k : List ℕ). (sp (first (side false sp p (row_among true sp p k)))).y) h)
    | inr h ↦ absurd (T_not (le (sp (corner_at (corner sp l p) true c' d')).y p.y) (h.1 (corner_at (corner sp l p) true c' d') (corner_in_layer sp l t p true c' d'))
        (subst (λ (k : ℕ). T (le (sp k).y p.y)) e (h.0 (corner_at (corner sp l p) false c d) (corner_in_layer sp l t p false c d))))
  ])

  one_row : (b d d' : Bool) → corner_at (corner sp l p) b false d ≡ corner_at (corner sp l p) b true d' → P (weight sp l p g b true d') ≡ 0
  unfolding ahead corner row_among
  one_row b d d' e = no_ahead sp l t p q g G b d' (elim (rows sp l t p b).apart [
    | inl h ↦ ratio_none (sp (corner_at (corner sp l p) b false false)).z (sp (corner_at (corner sp l p) b true false)).z p.z (placed_at b false false).z.f32
        (ap (λ (k : List ℕ). (sp (first (side false sp p k))).z) h)
    | inr h ↦ absurd (T_not (le (sp (corner_at (corner sp l p) b true d')).z p.z) (h.1 (corner_at (corner sp l p) b true d') (corner_in_row sp l t p b true d'))
        (subst (λ (k : ℕ). T (le (sp k).z p.z)) e (h.0 (corner_at (corner sp l p) b false d) (corner_in_row sp l t p b false d))))
  ])

  one_side : (b c : Bool) → corner_at (corner sp l p) b c false ≡ corner_at (corner sp l p) b c true → P (weight sp l p g b c true) ≡ 0
  unfolding across
  one_side b c e = no_across sp l t p q g G b c
      (ratio_none (sp (corner_at (corner sp l p) b c false)).x (sp (corner_at (corner sp l p) b c true)).x p.x (placed_at b c false).x.f32 (ap (λ (k : ℕ). (sp k).x) e))

  one_bits : (b c d b' c' d' : Bool) → T (unlike b b' || unlike c c' || unlike d d') → corner_at (corner sp l p) b c d ≡ corner_at (corner sp l p) b' c' d'
      → (P (weight sp l p g b c d) ≡ 0) ⊎ (P (weight sp l p g b' c' d') ≡ 0)
  one_bits false c d true c' d' h e = inr (one_layer c d c' d' e)
  one_bits true c d false c' d' h e = inl (one_layer c' d' c d (sym e))
  one_bits false false d false true d' h e = inr (one_row false d d' e)
  one_bits false true d false false d' h e = inl (one_row false d' d (sym e))
  one_bits true false d true true d' h e = inr (one_row true d d' e)
  one_bits true true d true false d' h e = inl (one_row true d' d (sym e))
  one_bits false false false false false true h e = inr (one_side false false e)
  one_bits false false true false false false h e = inl (one_side false false (sym e))
  one_bits false true false false true true h e = inr (one_side false true e)
  one_bits false true true false true false h e = inl (one_side false true (sym e))
  one_bits true false false true false true h e = inr (one_side true false e)
  one_bits true false true true false false h e = inl (one_side true false (sym e))
  one_bits true true false true true true h e = inr (one_side true true e)
  one_bits true true true true true false h e = inl (one_side true true (sym e))
  one_bits false false false false false false h e = absurd h
  one_bits false false true false false true h e = absurd h
  one_bits false true false false true false h e = absurd h
  one_bits false true true false true true h e = absurd h
  one_bits true false false true false false h e = absurd h
  one_bits true false true true false true h e = absurd h
  one_bits true true false true true false h e = absurd h
  one_bits true true true true true true h e = absurd h

  -- (c) two corners that are one speaker: one of them has no weight
  pub once : (c d : Corner) → T (differ c d) → corner sp l p c ≡ corner sp l p d
      → (P (weight sp l p g c.top c.front c.right) ≡ 0) ⊎ (P (weight sp l p g d.top d.front d.right) ≡ 0)
  once c d h e = one_bits c.top c.front c.right d.top d.front d.right h e
