-- "channel 3's record is read but never used for panning": in two halls of one layout whose tables have the full-range speakers at the same places, the same is mixed of every
-- object and of every bed that is panned. Assumes nothing.
use mathlib.Core.Path.{◌≡◌, refl, ap, ap₂, ◌∙◌, fun_ext}
use mathlib.Core.Bool.{Bool, true, false, cond, not, ◌&&◌}
use mathlib.Core.List.Memᴰ
use mathlib.Core.List.{List, [], ◌∷◌, map}
use Prim.Native.Nat.{ℕ, ◌≤◌}
use lib.Ieee.{Float, binary32, mul, le, eq}
use Rattle.vectors.specs.declared.Vec3.{Vec3}
use Rattle.corners.specs.Choice.{keep, every_of, or_list, outermost, below, above, level, end, flank, layer, row_among, side, first, Corner, corner, corners, ge, 0·0}
use Rattle.corners.proofs.Lists.{In, keep→}
use Rattle.panning.specs.Speakers.{full_range}
use Rattle.panning.specs.Terms.{ratio, up, ahead, across, part, row_weight, weighted, coefficient, inner_gain, extra, nothing, panned, terms}
use Rattle.panning.specs.Setup.{table_place, present, speakers_in, divisor_in, HallFits, terms_in}
use Rattle.panning.proofs.Axis.{end→}
use Rattle.panning.proofs.Corners.{corner_in}
use Rattle.panning.proofs.Setup.{table_in}

-- ---- lists that are chosen by what is alike on all their members

keep_same : (f g : ℕ → Bool) (l : List ℕ) → ((k : ℕ) → In k l → f k ≡ g k) → keep f l ≡ keep g l
unfolding keep
keep_same f g [] h = refl
keep_same f g (k ∷ l) h = ap₂ (λ (b : Bool) (m : List ℕ). cond b (k ∷ m) m) (h k (Memᴰ.head refl)) (keep_same f g l (λ j m. h j (Memᴰ.tail m)))

every_same : (f g : ℕ → Bool) (l : List ℕ) → ((k : ℕ) → In k l → f k ≡ g k) → every_of f l ≡ every_of g l
unfolding every_of
every_same f g [] h = refl
every_same f g (k ∷ l) h = ap₂ (λ (a b : Bool). a && b) (h k (Memᴰ.head refl)) (every_same f g l (λ j m. h j (Memᴰ.tail m)))

module _ (c d : ℕ → Float) (v : Float) where
  outermost_same : (r : Float → Float → Bool) (l : List ℕ) → ((k : ℕ) → In k l → c k ≡ d k) → outermost r c l ≡ outermost r d l
  unfolding outermost
  outermost_same r l h =
      keep_same (λ k. every_of (λ j. r (c j) (c k)) l) (λ k. every_of (λ j. r (d j) (d k)) l) l
      (λ k m. every_same (λ j. r (c j) (c k)) (λ j. r (d j) (d k)) l (λ j n. ap₂ r (h j n) (h k m)))

  chosen_same : (r : Float → Float → Bool) (f : Float → Bool) (l : List ℕ) → ((k : ℕ) → In k l → c k ≡ d k)
      → outermost r c (keep (λ k. f (c k)) l) ≡ outermost r d (keep (λ k. f (d k)) l)
  chosen_same r f l h =
      outermost_same r (keep (λ k. f (c k)) l) (λ k m. h k (keep→ (λ k. f (c k)) l m).0)
      ∙ ap (outermost r d) (keep_same (λ k. f (c k)) (λ k. f (d k)) l (λ k m. ap f (h k m)))

  end_same : (high : Bool) (l : List ℕ) → ((k : ℕ) → In k l → c k ≡ d k) → end high c v l ≡ end high d v l
  unfolding end below above
  end_same false l h = ap₂ or_list (chosen_same le (λ x. le x v) l h) (chosen_same ge (λ x. not (le x v)) l h)
  end_same true l h = ap₂ or_list (chosen_same ge (λ x. not (le x v)) l h) (chosen_same le (λ x. le x v) l h)

  flank_same : (right : Bool) (l : List ℕ) → ((k : ℕ) → In k l → c k ≡ d k) → flank right c v l ≡ flank right d v l
  unfolding flank level
  flank_same false l h = end_same false l h
  flank_same true l h = ap₂ or_list (keep_same (λ k. eq (c k) v) (λ k. eq (d k) v) l (λ k m. ap (λ x. eq x v) (h k m))) (end_same true l h)

-- ---- corners and coefficients

module _ (sp sq : ℕ → Vec3) (l : List ℕ) (same : (k : ℕ) → In k l → sp k ≡ sq k) (p : Vec3) where
  layer_of : (top : Bool) {k : ℕ} → In k (layer top sp p l) → In k l
  unfolding layer
  layer_of top m = end→ (λ k. (sp k).y) p.y l top m

  row_of : (top front : Bool) {k : ℕ} → In k (row_among front sp p (layer top sp p l)) → In k l
  unfolding row_among
  row_of top front m = layer_of top (end→ (λ k. (sp k).z) p.z (layer top sp p l) front m)

  layer_same : (top : Bool) → layer top sp p l ≡ layer top sq p l
  unfolding layer
  layer_same top = end_same (λ k. (sp k).y) (λ k. (sq k).y) p.y top l (λ k m. ap (λ (v : Vec3). v.y) (same k m))

  row_same : (top front : Bool) → row_among front sp p (layer top sp p l) ≡ row_among front sq p (layer top sq p l)
  unfolding row_among
  row_same top front =
      end_same (λ k. (sp k).z) (λ k. (sq k).z) p.z front (layer top sp p l) (λ k m. ap (λ (v : Vec3). v.z) (same k (layer_of top m)))
      ∙ ap (end front (λ k. (sq k).z) p.z) (layer_same top)

  corner_same : corner sp l p ≡ corner sq l p
  unfolding corner side
  corner_same = fun_ext (λ c. ap first
      (flank_same (λ k. (sp k).x) (λ k. (sq k).x) p.x c.right (row_among c.front sp p (layer c.top sp p l))
      (λ k m. ap (λ (v : Vec3). v.x) (same k (row_of c.top c.front m)))
      ∙ ap (flank c.right (λ k. (sq k).x) p.x) (row_same c.top c.front)))

module _ (sp sq : ℕ → Vec3) (ch : Corner → ℕ) (same : (c : Corner) → sp (ch c) ≡ sq (ch c)) (p : Vec3) where
  share_same : (of : Vec3 → Float) (c d : Corner) (v : Float) → ratio (of (sp (ch c))) (of (sp (ch d))) v ≡ ratio (of (sq (ch c))) (of (sq (ch d))) v
  share_same of c d v = ap₂ (λ (a b : Vec3). ratio (of a) (of b) v) (same c) (same d)

  coefficient_same : (g : Float) → coefficient sp ch p g ≡ coefficient sq ch p g
  unfolding coefficient row_weight up ahead across
  coefficient_same g = fun_ext (λ c.
      let u = share_same (λ v. v.y) (at false true false) (at true true false) p.y in
      let a = share_same (λ v. v.z) (at c.top false false) (at c.top true false) p.z in
      let x = share_same (λ v. v.x) (at c.top c.front false) (at c.top c.front true) p.x in
      λ i. weighted (mul binary32 (mul binary32 (part c.front (a i)) (part c.top (u i))) g) (part c.right (x i)))
    where
      at : Bool → Bool → Bool → Corner
      at top front right = record { top = top; front = front; right = right }

-- ---- a hall

module _ (n : ℕ) (four : n ≤ 3) (t u : List ℕ) (fits : HallFits (record { layout = n; table = t })) (same : (k : ℕ) → In k full_range → table_place t k ≡ table_place u k) where
  speakers_same : (k : ℕ) → In k (speakers_in n) → table_place t k ≡ table_place u k
  unfolding speakers_in
  speakers_same k m = same k (keep→ (present n) full_range m).0

  pub bass_record_unused : (p : Vec3) (g z : Float) → terms_in (record { layout = n; table = t }) p g z ≡ terms_in (record { layout = n; table = u }) p g z
  unfolding panned
  bass_record_unused p g z =
      let sp = table_place t in
      let sq = table_place u in
      let l = speakers_in n in
      let e = corner_same sp sq l speakers_same p in
      let at : (c : Corner) → sp (corner sp l p c) ≡ sq (corner sp l p c) =
      λ c. speakers_same (corner sp l p c) (corner_in sp l (table_in sp n four fits.table) p c.top c.front c.right) in
      let k = coefficient_same sp sq (corner sp l p) at p (inner_gain g z) ∙ ap (λ (ch : Corner → ℕ). coefficient sq ch p (inner_gain g z)) e in
      λ i. terms l (cond (eq g 0·0) nothing (record { corners = map (e i) corners; coefficients = map (k i) corners; extra = extra (divisor_in n) g z }))
