-- The coefficients of the corners, and of a size: finite, from 0 to 8, the corners' the nearest roots of their weights. `near` says that `root` is the nearest square root.
-- Assumes nothing else.
use mathlib.Core.Path.{◌≡◌, refl, sym, ap, ◌∙◌, subst}
use mathlib.Core.Bool.{Bool, true, false, not, cond}
use mathlib.Core.List.{List}
use Prim.Native.Nat.{ℕ, ◌+◌, ◌*◌, ◌≤◌, ◌<◌, zero-le}
use native.Mathlib.Nat.{zero-mul, mul-le-mul, mul-le-mul_left, mul-le-mul_right}
use native.Mathlib.Omega.{arith}
use lib.Dec.{T, leb, leb→le, nleb→lt}
use lib.Ieee.{Float, binary32, sub, mul, div, eq, ne, le}
use Rattle.ieee.proofs.Constants.{zero_f32, zero_mag, one_f32, one_P, one_less}
use Rattle.ieee.specs.Units.{One, F32, P, N}
use Rattle.ieee.specs.Nearest.{OnGrid, Root, Nearest}
use Rattle.ieee.proofs.Grid.{grid_zero}
use Rattle.ieee.proofs.Value.{one_pos, one_grid}
use Rattle.ieee.proofs.Ops.{small, div_rounds}
use Rattle.ieee.proofs.Signed.{not_negative, at_most}
use Rattle.ieee.proofs.Compare.{le→, eq→}
use Rattle.ieee.proofs.Share.{left_over}
use Rattle.roots.specs.Root.{root}
use Rattle.vectors.specs.declared.Vec3.{Vec3}
use Rattle.corners.specs.Choice.{Corner, corner, 0·0, 1·0}
use Rattle.panning.specs.Terms.{across, part, row_weight, weighted, coefficient, inner_gain, extra}
use Rattle.corners.specs.Table.{Table, Position}
use Rattle.panning.proofs.Tables.{Gain8, Size1}
use Rattle.panning.proofs.Weighing.{Plus, Product, product, eight_grid, eight_less, weight, weights, zero_left}

-- ---- roots
root_none : Root 0 0
root_none = record { grid = grid_zero; above = λ w g h. zero-le; below = λ w g h. absurd (no w h) }
  where
    no : (w : ℕ) → w < 0 → ⊥
    no w h = omega arith

-- the root of what is at most w² is at most w
root_most : {w : ℕ} → OnGrid w → (r S : ℕ) → Root r S → S ≤ w * w → r ≤ w
root_most {w} g r S h m = go (leb r w) (leb→le r w) (nleb→lt r w)
  where
    far : (r w S : ℕ) → w < r → S ≤ w * w → (r + w) * (r + w) ≤ 4 * S → ⊥
    far r w S i m k = let j : (w + w + 1) * (w + w + 1) ≤ (r + w) * (r + w) = mul-le-mul (less r w i) (less r w i) in omega (arith, j)
      where
        less : (r w : ℕ) → w < r → w + w + 1 ≤ r + w
        less r w i = omega arith

    go : (b : Bool) → (T b → r ≤ w) → (T (not b) → w < r) → r ≤ w
    go true i j = i tt
    go false i j = absurd (far r w S (j tt) m (h.below w g (j tt)))

-- x is the nearest root of v units
pub record Rooted (x : Float) (v : ℕ) : Type 0 where
  pub f32 : F32 x
  pub plus : N x ≡ 0
  pub root : Root (P x) (v * One)

rooted_most : {x : Float} {v w : ℕ} → Rooted x v → OnGrid w → v * One ≤ w * w → Plus x w
rooted_most {x} {v} {w} h g m = record { f32 = h.f32; plus = h.plus; most = root_most g (P x) (v * One) h.root m }

module _ (near : Nearest root) where
  rooted : (x : Float) → F32 x → N x ≡ 0 → Rooted (root x) (P x)
  rooted x f n = record { f32 = near.f32 x f n; plus = near.plus x f n; root = near.near x f n }

  -- ---- the two sides of a row
  side_rooted : (w s : Float) (d : Bool) {u v : ℕ} → Plus w u → Product w (part d s) v → Rooted (weighted w (part d s)) (P (mul binary32 w (part d s)))
  unfolding ne
  side_rooted w s d f h = go (eq w 0·0) (λ z. z)
    where
      none : T (eq w 0·0) → P (mul binary32 w (part d s)) ≡ 0
      none z = zero_left h (let e = eq→ w 0·0 f.f32 zero_f32 z in omega (arith, e, f.plus, zero_mag))

      go : (b : Bool) → (T b → T (eq w 0·0)) → Rooted (cond (not b) (root (mul binary32 w (part d s))) 0·0) (P (mul binary32 w (part d s)))
      go true z = record {
        f32 = zero_f32;
        plus = refl;
        root = subst (λ (k : ℕ). Root (P 0·0) (k * One)) (sym (none (z tt)))
            (subst (λ (k : ℕ). Root (P 0·0) k) (sym (zero-mul One)) (subst (λ (k : ℕ). Root k 0) (sym zero_mag) root_none));
      }
      go false z = rooted (mul binary32 w (part d s)) h.plus.f32 h.plus.plus

  module _ (sp : ℕ → Vec3) (l : List ℕ) (t : Table sp l) (p : Vec3) (q : Position p) (g : Float) (G : Gain8 g) where
    pub corner_rooted : (c : Corner) → Rooted (coefficient sp (corner sp l p) p g c) (P (weight sp l p g c.top c.front c.right))
    unfolding coefficient row_weight
    corner_rooted c =
        let h = weights sp l t p q g G c.top c.front c.right in
        side_rooted (row_weight sp (corner sp l p) p g c.top c.front) (across sp (corner sp l p) p c.top c.front) c.right h.second.plus h.third

    pub corner_plus : (c : Corner) → Plus (coefficient sp (corner sp l p) p g c) (8 * One)
    unfolding row_weight
    corner_plus c =
        let h = (weights sp l t p q g G c.top c.front c.right).third.plus in
        rooted_most (corner_rooted c) eight_grid (mul-le-mul h.most (omega arith))

  -- ---- size
  pub extra_plus : (n g s : Float) → F32 n → T (le 1·0 n) → Gain8 g → Size1 s → Plus (extra n g s) (8 * One)
  unfolding extra
  extra_plus n g s f o G S = go (ne s 0·0)
    where
      whole : One ≤ P n
      whole = let e = le→ 1·0 n one_f32 f o in omega (arith, e, one_P)

      shared : Plus (div binary32 s n) One
      shared =
          let a : P s * One ≤ One * P n = let i : P s * One ≤ One * One = mul-le-mul_right One S.most in let j : One * One ≤ One * P n = mul-le-mul_left One whole in
          omega (arith, i, j) in
          let b : N s * One ≡ 0 = ap (λ (k : ℕ). k * One) S.plus ∙ zero-mul One in
          let c : 0 < P n = omega (arith, whole, one_pos) in
          let r = div_rounds s n S.f32 f c (small one_grid one_less (P s * One) (N s * One) (P n) c (omega (arith, a, b)) (omega (arith, b))) in
          record { f32 = r.f32; plus = not_negative c r (omega (arith, b)); most = at_most c r one_grid (omega (arith, a, b)) }

      rooted_one : Plus (root (div binary32 s n)) One
      rooted_one = rooted_most (rooted (div binary32 s n) shared.f32 shared.plus) one_grid (mul-le-mul_right One shared.most)

      gain : Plus g (8 * One)
      gain = record { f32 = G.f32; plus = G.plus; most = G.most }

      go : (b : Bool) → Plus (cond b (mul binary32 g (root (div binary32 s n))) 0·0) (8 * One)
      go true = (product g (root (div binary32 s n)) gain rooted_one eight_grid eight_less (mul-le-mul gain.most rooted_one.most)).plus
      go false = record { f32 = zero_f32; plus = refl; most = omega (arith, zero_mag) }

-- what a size leaves of a gain from 0 to 8
pub inner_gain8 : (g s : Float) → Gain8 g → Size1 s → Gain8 (inner_gain g s)
unfolding inner_gain
inner_gain8 g s G S = go (ne s 0·0)
  where
    go : (b : Bool) → Gain8 (cond b (mul binary32 g (sub binary32 1·0 s)) g)
    go true =
        let r = left_over s S.f32 S.plus S.most in
        let gain : Plus g (8 * One) = record { f32 = G.f32; plus = G.plus; most = G.most } in
        let rest : Plus (sub binary32 1·0 s) One = record { f32 = r.r_f32; plus = r.r_plus; most = r.r_most } in
        let m = (product g (sub binary32 1·0 s) gain rest eight_grid eight_less (mul-le-mul gain.most rest.most)).plus in
        record { f32 = m.f32; plus = m.plus; most = m.most }
    go false = G
