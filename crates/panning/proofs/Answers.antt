-- The code's coefficients are the definition's: the eight of the corners that the code has chosen. Assumes nothing.
use mathlib.Core.Path.{◌≡◌, refl, sym, ap, ◌∙◌, subst⁻¹}
use mathlib.Core.Bool.{Bool, true, false, cond}
use mathlib.Core.List.{List, [], ◌∷◌, map}
use Prim.Native.Nat.{ℕ, zero, suc, ◌<◌}
use lib.Dec.{lit<}
use lib.ListN.{get_or, replicate}
use lib.Ieee.{Float, nan, binary32, mul, eq, ne}
use Rattle.roots.specs.Root.{root}
use Rattle.vectors.specs.declared.Vec3.{Vec3}
use Rattle.corners.specs.Choice.{Corner, corner, corners, 0·0}
use Rattle.panning.specs.Terms.{ratio, up, ahead, across, part, row_weight, weighted, coefficient, inner_gain, extra, nothing, panned}
use Rattle.corners.specs.Found.{Inside, chosen}
use Rattle.panning.specs.Shares.{layer_coefficients, SharesOf}
use Rattle.corners.specs.declared.Ends.{Ends}
use Rattle.corners.specs.declared.Cube.{Cube}
use Rattle.panning.specs.declared.Shares.{Shares}
use Rattle.panning.specs.declared.Panned.{Panned}

-- the coefficient of a side, by the test of its row's weight
pub side_yes : (w s : Float) {r : Float} → ne w 0·0 ≡ true → r ≡ root (mul binary32 w s) → r ≡ weighted w s
side_yes w s t e = e ∙ sym (ap (λ (y : Bool). cond y (root (mul binary32 w s)) 0·0) t)

pub side_no : (w s : Float) → ne w 0·0 ≡ false → 0·0 ≡ weighted w s
side_no w s t = sym (ap (λ (y : Bool). cond y (root (mul binary32 w s)) 0·0) t)

-- the two ends of a row
pub ends_of : {l h l' h' : ℕ} → l ≡ l' → h ≡ h' → ◌≡◌ {A = Ends} (record { low = l; high = h }) (record { low = l'; high = h' })
ends_of p q = cc

-- ---- the eight coefficients
eight : {A : Type 0} {a b c d e f g h a' b' c' d' e' f' g' h' : A} → a ≡ a' → b ≡ b' → c ≡ c' → d ≡ d' → e ≡ e' → f ≡ f' → g ≡ g' → h ≡ h'
    → a ∷ b ∷ c ∷ d ∷ e ∷ f ∷ g ∷ h ∷ [] ≡ a' ∷ b' ∷ c' ∷ d' ∷ e' ∷ f' ∷ g' ∷ h' ∷ []
eight i j k l m n o p = cc

-- a share from its two ends
pub ratio_of : (v : Float) {a b a' b' r : Float} → a ≡ a' → b ≡ b' → r ≡ ratio a b v → r ≡ ratio a' b' v
ratio_of v h i e = cc

module _ (sp : ℕ → Vec3) (c : Cube) (p : Vec3) (g : Float) where
  -- one of them, from the three shares that it rests on
  one_of : (k : Corner) {a u w : Float} → a ≡ ahead sp (chosen c) p k.top → u ≡ up sp (chosen c) p → w ≡ across sp (chosen c) p k.top k.front
      → weighted (mul binary32 (mul binary32 (part k.front a) (part k.top u)) g) (part k.right w) ≡ coefficient sp (chosen c) p g k
  unfolding coefficient row_weight
  one_of k {a} {u} {w} e f h =
      ap (λ (v : Float). weighted (mul binary32 (mul binary32 (part k.front v) (part k.top u)) g) (part k.right w)) e
      ∙ ap (λ (v : Float). weighted (mul binary32 (mul binary32 (part k.front (ahead sp (chosen c) p k.top)) (part k.top v)) g) (part k.right w)) f
      ∙ ap (λ (v : Float). weighted (row_weight sp (chosen c) p g k.top k.front) (part k.right v)) h

  pub coefficients_are : {s : Shares} (h : SharesOf sp c p s) {b t : List Float} → b ≡ layer_coefficients s.bottom (part false s.up) g
      → t ≡ layer_coefficients s.top (part true s.up) g
      → get_or b 0 nan ∷ get_or b 1 nan ∷ get_or b 2 nan ∷ get_or b 3 nan ∷ get_or t 0 nan ∷ get_or t 1 nan ∷ get_or t 2 nan ∷ get_or t 3 nan ∷ []
      ≡ map (coefficient sp (chosen c) p g) corners
  coefficients_are h d e =
      let b = h.bottom in
      let t = h.top in
      eight
      (at 0 d ∙ one_of (record { top = false; front = true; right = false }) b.ahead.0 h.up.0 b.front.0)
      (at 1 d ∙ one_of (record { top = false; front = true; right = true }) b.ahead.0 h.up.0 b.front.0)
      (at 2 d ∙ one_of (record { top = false; front = false; right = false }) b.ahead.0 h.up.0 b.rear.0)
      (at 3 d ∙ one_of (record { top = false; front = false; right = true }) b.ahead.0 h.up.0 b.rear.0)
      (at 0 e ∙ one_of (record { top = true; front = true; right = false }) t.ahead.0 h.up.0 t.front.0)
      (at 1 e ∙ one_of (record { top = true; front = true; right = true }) t.ahead.0 h.up.0 t.front.0)
      (at 2 e ∙ one_of (record { top = true; front = false; right = false }) t.ahead.0 h.up.0 t.rear.0)
      (at 3 e ∙ one_of (record { top = true; front = false; right = true }) t.ahead.0 h.up.0 t.rear.0)
    where
      at : (k : ℕ) {l m : List Float} → l ≡ m → get_or l k nan ≡ get_or m k nan
      at k e = ap (λ (l : List Float). get_or l k nan) e

-- ---- the whole
module _ (sp : ℕ → Vec3) (l : List ℕ) (n : Float) (p : Vec3) (g s : Float) where
  pub pan_none : {r : Panned} → eq g 0·0 ≡ true → r ≡ nothing → r ≡ panned sp l n p g s
  unfolding panned
  pan_none t e = e ∙ sym (ap (λ (b : Bool). cond b nothing
      (record { corners = map (corner sp l p) corners; coefficients = map (coefficient sp (corner sp l p) p (inner_gain g s)) corners; extra = extra n g s })) t)

  pub pan_some : {r : Cube} {i e : Float} {ks : List ℕ} {cs : List Float} → eq g 0·0 ≡ false → chosen r ≡ corner sp l p → i ≡ inner_gain g s
      → cs ≡ map (coefficient sp (chosen r) p i) corners → ks ≡ map (chosen r) corners → e ≡ extra n g s
      → (record { corners = ks; coefficients = cs; extra = e }) ≡ panned sp l n p g s
  unfolding panned
  pan_some {r} {i} {e} {ks} {cs} t h gi ci ki ei =
      let k : ks ≡ map (corner sp l p) corners = ki ∙ ap (λ (ch : Corner → ℕ). map ch corners) h in
      let c : cs ≡ map (coefficient sp (corner sp l p) p (inner_gain g s)) corners =
      ci ∙ ap (λ (ch : Corner → ℕ). map (coefficient sp ch p i) corners) h ∙ ap (λ (v : Float). map (coefficient sp (corner sp l p) p v) corners) gi in
      joined k c ei ∙ sym (ap (λ (b : Bool). cond b nothing
      (record { corners = map (corner sp l p) corners; coefficients = map (coefficient sp (corner sp l p) p (inner_gain g s)) corners; extra = extra n g s })) t)
    where
      joined : {k k' : List ℕ} {c c' : List Float} {e e' : Float} → k ≡ k' → c ≡ c' → e ≡ e'
          → ◌≡◌ {A = Panned} (record { corners = k; coefficients = c; extra = e }) (record { corners = k'; coefficients = c'; extra = e' })
      joined a b c = cc

-- ---- the corners are channels
zeros : (n i : ℕ) → ◌≡◌ {A = ℕ} (get_or (replicate n 0) i 0) 0
zeros zero i = refl
zeros (suc n) zero = refl
zeros (suc n) (suc i) = zeros n i

pub none_less : {r : Panned} → r ≡ nothing → (i : ℕ) → get_or r.corners i 0 < 12
none_less e i = subst⁻¹ (λ (q : Panned). get_or q.corners i 0 < 12) e (subst⁻¹ (λ (n : ℕ). n < 12) (zeros 8 i) (lit< tt))

inside_less : {c : Cube} → Inside c → (i : ℕ) → get_or (map (chosen c) corners) i 0 < 12
inside_less h zero = h.bottom.fl
inside_less h (suc zero) = h.bottom.fr
inside_less h (suc (suc zero)) = h.bottom.rl
inside_less h (suc (suc (suc zero))) = h.bottom.rr
inside_less h (suc (suc (suc (suc zero)))) = h.top.fl
inside_less h (suc (suc (suc (suc (suc zero))))) = h.top.fr
inside_less h (suc (suc (suc (suc (suc (suc zero)))))) = h.top.rl
inside_less h (suc (suc (suc (suc (suc (suc (suc zero))))))) = h.top.rr
inside_less h (suc (suc (suc (suc (suc (suc (suc (suc i)))))))) = lit< tt

pub some_less : {c : Cube} {ks : List ℕ} → Inside c → ks ≡ map (chosen c) corners → (i : ℕ) → get_or ks i 0 < 12
some_less h e i = subst⁻¹ (λ (l : List ℕ). get_or l i 0 < 12) e (inside_less h i)
