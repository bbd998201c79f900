-- What an object adds to each channel: the terms of `render_object_timeslot_to_714` in the order in which they are mixed, for any places `sp` of the channels, any list `l` of
-- those present, a position p, a gain g and a size s of any floats. Assumes nothing.
use Rattle.std.specs.Prelude.{ℕ, Bool, true, false, cond, List, [], ◌∷◌, ◌++◌, map, eqb, replicate, Float}
use Rattle.std.specs.Float.{binary32}
use Rattle.std.specs.Float.Ieee.{sub, mul, div, eq, ne}
use Rattle.vectors.specs.declared.Vec3.{Vec3}
use Rattle.roots.specs.Root.{root}
use Rattle.panning.specs.declared.Panned.{Panned}
use Rattle.corners.specs.Choice.{Corner, corner, corners, 0·0, 1·0}

-- ---- shares

-- Document 01, item 4: "A share is (position - a) / (b - a), or 0 where a equals b."
unfoldable pub ratio : Float → Float → Float → Float
ratio a b v = cond (eq a b) 0·0 (div binary32 (sub binary32 v a) (sub binary32 b a))

-- the channel that the choice ch makes a corner
abbrev pub corner_at : (Corner → ℕ) → Bool → Bool → Bool → ℕ
corner_at ch top front right = ch (record { top = top; front = front; right = right })

-- the share of the upper layer, of a layer's front row, and of a row's right side, at the corners ch
unfoldable pub up : (ℕ → Vec3) → (Corner → ℕ) → Vec3 → Float
unfolding ratio
up sp ch p = ratio (sp (corner_at ch false true false)).y (sp (corner_at ch true true false)).y p.y

unfoldable pub ahead : (ℕ → Vec3) → (Corner → ℕ) → Vec3 → Bool → Float
unfolding ratio
ahead sp ch p top = ratio (sp (corner_at ch top false false)).z (sp (corner_at ch top true false)).z p.z

unfoldable pub across : (ℕ → Vec3) → (Corner → ℕ) → Vec3 → Bool → Bool → Float
unfolding ratio
across sp ch p top front = ratio (sp (corner_at ch top front false)).x (sp (corner_at ch top front true)).x p.x

-- a share, or what it leaves of 1
abbrev pub part : Bool → Float → Float
part true s = s
part false s = sub binary32 1·0 s

-- ---- coefficients

-- the weight of a row, for the gain g that the corners share
unfoldable pub row_weight : (ℕ → Vec3) → (Corner → ℕ) → Vec3 → Float → Bool → Bool → Float
unfolding up ahead
row_weight sp ch p g top front = mul binary32 (mul binary32 (part front (ahead sp ch p top)) (part top (up sp ch p))) g

-- "A coefficient is the square root of the product of shares and gain.": of a side with a share of a row of weight w. A row of weight 0 is passed over.
abbrev pub weighted : Float → Float → Float
weighted w share = cond (ne w 0·0) (root (mul binary32 w share)) 0·0

unfoldable pub coefficient : (ℕ → Vec3) → (Corner → ℕ) → Vec3 → Float → Corner → Float
unfolding row_weight across
coefficient sp ch p g c = weighted (row_weight sp ch p g c.top c.front) (part c.right (across sp ch p c.top c.front))

-- "Size s .. leaves gain × (1 - s) to the corners"
unfoldable pub inner_gain : Float → Float → Float
inner_gain g s = cond (ne s 0·0) (mul binary32 g (sub binary32 1·0 s)) g

-- "Size s adds gain × √(s/12) to all but channel 3", n being the 12
unfoldable pub extra : Float → Float → Float → Float
extra n g s = cond (ne s 0·0) (mul binary32 g (root (div binary32 s n))) 0·0

-- "Gain 0 adds nothing."
abbrev pub nothing : Panned
nothing = record { corners = replicate 8 0; coefficients = replicate 8 0·0; extra = 0·0 }

unfoldable pub panned : (ℕ → Vec3) → List ℕ → Float → Vec3 → Float → Float → Panned
unfolding coefficient inner_gain extra
panned sp l n p g s =
    cond (eq g 0·0) nothing
    (record { corners = map (corner sp l p) corners; coefficients = map (coefficient sp (corner sp l p) p (inner_gain g s)) corners; extra = extra n g s })

-- ---- terms

-- a channel, and what the object's sample is multiplied by before it is added there
pub record Term : Type 0 where
  pub channel : ℕ
  pub coefficient : Float

abbrev pub term : ℕ → Float → Term
term k c = record { channel = k; coefficient = c }

-- `mix_segment` passes over a coefficient that is 0
unfoldable pub audible : List Term → List Term
audible [] = []
audible (t ∷ ts) = cond (ne t.coefficient 0·0) (t ∷ audible ts) (audible ts)

unfoldable pub paired : List ℕ → List Float → List Term
paired [] cs = []
paired (k ∷ ks) [] = []
paired (k ∷ ks) (c ∷ cs) = term k c ∷ paired ks cs

-- the same coefficient on every speaker
abbrev pub spread : List ℕ → Float → List Term
spread l c = map (λ k. term k c) l

abbrev pub corner_terms : Panned → List Term
corner_terms r = audible (paired r.corners r.coefficients)

-- what is mixed: first the size's coefficient on every speaker of l, in their order, then the corners
abbrev pub terms : List ℕ → Panned → List Term
terms l r = audible (spread l r.extra) ++ corner_terms r

-- the coefficients on channel c, in the order in which they are mixed
unfoldable pub on_channel : ℕ → List Term → List Float
on_channel c [] = []
on_channel c (t ∷ ts) = cond (eqb c t.channel) (t.coefficient ∷ on_channel c ts) (on_channel c ts)
