-- Which speakers a position is panned to: the choice of `render_object_timeslot_to_714`, `assign_lr` and `fix_incomplete_layer`, for any places `sp` of the channels, any list
-- of the channels present, and a position of any floats. Document 01, item 4: "lower and upper layer, front and rear row in each, left and right in each row; a missing side
-- is filled". Along each axis the low end is the speakers at the greatest coordinate up to the object's, the high end those at the least beyond it. At a NaN every speaker is
-- beyond. Assumes nothing.
use Rattle.std.specs.Prelude.{ℕ, Bool, true, false, not, ◌&&◌, ◌||◌, cond, List, [], ◌∷◌, Float}
use Rattle.std.specs.Float.Ieee.{le, eq, unlike}
use Rattle.vectors.specs.declared.Vec3.{Vec3}
pub use Rattle.ieee.specs.Numbers.{0·0, 1·0}

-- ---- lists of channels

unfoldable pub keep : (ℕ → Bool) → List ℕ → List ℕ
keep f [] = []
keep f (k ∷ l) = cond (f k) (k ∷ keep f l) (keep f l)

unfoldable pub every_of : (ℕ → Bool) → List ℕ → Bool
every_of f [] = true
every_of f (k ∷ l) = f k && every_of f l

-- the first list, or the second where the first is empty
unfoldable pub or_list : List ℕ → List ℕ → List ℕ
or_list [] l = l
or_list (k ∷ m) l = k ∷ m

unfoldable pub first : List ℕ → ℕ
first [] = 0
first (k ∷ l) = k

-- ---- along one axis: the speakers of l about the coordinate v, c being their coordinates

abbrev pub ge : Float → Float → Bool
ge a b = le b a

-- those that no other passes in the order r
unfoldable pub outermost : (Float → Float → Bool) → (ℕ → Float) → List ℕ → List ℕ
unfolding keep every_of
outermost r c l = keep (λ k. every_of (λ j. r (c j) (c k)) l) l

unfoldable pub below : (ℕ → Float) → Float → List ℕ → List ℕ
unfolding keep outermost
below c v l = outermost le c (keep (λ k. le (c k) v) l)

unfoldable pub above : (ℕ → Float) → Float → List ℕ → List ℕ
unfolding keep outermost
above c v l = outermost ge c (keep (λ k. not (le (c k) v)) l)

unfoldable pub level : (ℕ → Float) → Float → List ℕ → List ℕ
unfolding keep
level c v l = keep (λ k. eq (c k) v) l

-- the low end (false) and the high end (true), each filled by the other
unfoldable pub end : Bool → (ℕ → Float) → Float → List ℕ → List ℕ
unfolding below above or_list
end false c v l = or_list (below c v l) (above c v l)
end true c v l = or_list (above c v l) (below c v l)

-- left (false) and right (true): as `end`, but a speaker at v itself is both
unfoldable pub flank : Bool → (ℕ → Float) → Float → List ℕ → List ℕ
unfolding end level or_list
flank false c v l = end false c v l
flank true c v l = or_list (level c v l) (end true c v l)

-- ---- the eight corners

pub record Corner : Type 0 where
  pub top : Bool
  pub front : Bool
  pub right : Bool

abbrev pub differ : Corner → Corner → Bool
differ c d = unlike c.top d.top || unlike c.front d.front || unlike c.right d.right

unfoldable pub layer : Bool → (ℕ → Vec3) → Vec3 → List ℕ → List ℕ
unfolding end
layer top sp p = end top (λ k. (sp k).y) p.y

unfoldable pub row_among : Bool → (ℕ → Vec3) → Vec3 → List ℕ → List ℕ
unfolding end
row_among front sp p = end front (λ k. (sp k).z) p.z

unfoldable pub side : Bool → (ℕ → Vec3) → Vec3 → List ℕ → List ℕ
unfolding flank
side right sp p = flank right (λ k. (sp k).x) p.x

unfoldable pub corner : (ℕ → Vec3) → List ℕ → Vec3 → Corner → ℕ
unfolding layer row_among side first
corner sp l p c = first (side c.right sp p (row_among c.front sp p (layer c.top sp p l)))

-- in the source's order: bottom before top, front before rear, left before right
abbrev pub corners : List Corner
corners =
    record { top = false; front = true; right = false } ∷ record { top = false; front = true; right = true } ∷
    record { top = false; front = false; right = false } ∷ record { top = false; front = false; right = true } ∷
    record { top = true; front = true; right = false } ∷ record { top = true; front = true; right = true } ∷
    record { top = true; front = false; right = false } ∷ record { top = true; front = false; right = true } ∷ []
