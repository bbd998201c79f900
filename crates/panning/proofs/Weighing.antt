-- The weights of the eight corners as roundings of exact products, and where a share is 0. Assumes nothing.
use mathlib.Core.Path.{◌≡◌, ap, ◌∙◌, subst}
use mathlib.Core.Bool.{Bool, true, false}
use mathlib.Core.List.{List}
use Prim.Native.Nat.{ℕ, ◌+◌, ◌-◌, ◌*◌, ◌≤◌, ◌<◌}
use native.Mathlib.Nat.{zero-mul, mul-zero, mul-le-mul, mul_comm}
use native.Mathlib.Omega.{arith}
use lib.Dec.{lit<, lit≤}
use lib.Ieee.{Float, binary32, mul}
use Rattle.ieee.specs.Units.{One, Top, F32, P, N}
use Rattle.ieee.proofs.Grid.{OnGrid, rnd, rnd_zero}
use Rattle.ieee.proofs.Value.{one_pos, one_grid}
use Rattle.ieee.proofs.Ops.{small, mul_rounds}
use Rattle.ieee.proofs.Signed.{not_negative, at_most}
use Rattle.ieee.proofs.Constants.{one_less, whole_grid, whole_less}
use Rattle.vectors.specs.declared.Vec3.{Vec3}
use Rattle.corners.specs.Choice.{corner}
use Rattle.panning.specs.Terms.{up, ahead, across, part, row_weight}
use Rattle.corners.specs.Table.{Table, Position}
use Rattle.panning.proofs.Tables.{Gain8}
use Rattle.panning.proofs.SharesInUnit.{Part}
use Rattle.panning.proofs.Corners.{up_part, ahead_part, across_part}

-- ---- products of values that are not negative
pub record Plus (x : Float) (w : ℕ) : Type 0 where
  pub f32 : F32 x
  pub plus : N x ≡ 0
  pub most : P x ≤ w

pub record Product (x y : Float) (w : ℕ) : Type 0 where
  pub plus : Plus (mul binary32 x y) w
  pub is : P (mul binary32 x y) ≡ rnd (P x * P y) One

pub product : {w : ℕ} (x y : Float) {a b : ℕ} → Plus x a → Plus y b → OnGrid w → w < Top → P x * P y ≤ w * One → Product x y w
product {w} x y f g grid less h =
    let a : N x * N y ≡ 0 = ap (λ (u : ℕ). u * N y) f.plus ∙ zero-mul (N y) in
    let b : P x * N y ≡ 0 = ap (λ (u : ℕ). P x * u) g.plus ∙ mul-zero (P x) in
    let c : N x * P y ≡ 0 = ap (λ (u : ℕ). u * P y) f.plus ∙ zero-mul (P y) in
    let A = P x * P y + N x * N y in
    let B = P x * N y + N x * P y in
    let r = mul_rounds x y f.f32 g.f32 (small grid less A B One one_pos (omega arith) (omega arith)) in
    let e : A - B ≡ P x * P y = omega arith in
    record {
      plus = record { f32 = r.f32; plus = not_negative one_pos r (omega arith); most = at_most one_pos r grid (omega arith) };
      is = r.up ∙ ap (λ (n : ℕ). rnd n One) e;
    }

pub eight_grid : OnGrid (8 * One)
eight_grid = whole_grid 8 (lit< tt)

pub eight_less : 8 * One < Top
eight_less = whole_less 8 (lit≤ tt)

pub part_plus : (b : Bool) (s : Float) → Part s → Plus (part b s) One
part_plus true s h = record { f32 = h.s_f32; plus = h.s_plus; most = h.s_most }
part_plus false s h = record { f32 = h.r_f32; plus = h.r_plus; most = h.r_most }

-- ---- a product of two shares, a gain and a share
pub record Weighed (a b g c : Float) : Type 0 where
  pub first : Product a b One
  pub second : Product (mul binary32 a b) g (8 * One)
  pub third : Product (mul binary32 (mul binary32 a b) g) c (8 * One)

weighed : (a b g c : Float) → Plus a One → Plus b One → Gain8 g → Plus c One → Weighed a b g c
weighed a b g c fa fb fg fc =
    let gp : Plus g (8 * One) = record { f32 = fg.f32; plus = fg.plus; most = fg.most } in
    let h1 : P a * P b ≤ One * One = mul-le-mul fa.most fb.most in
    let x = product a b fa fb one_grid one_less h1 in
    let h2 : P (mul binary32 a b) * P g ≤ One * (8 * One) = mul-le-mul x.plus.most gp.most in
    let y = product (mul binary32 a b) g x.plus gp eight_grid eight_less (subst (λ (n : ℕ). P (mul binary32 a b) * P g ≤ n) (mul_comm One (8 * One)) h2) in
    let h3 : P (mul binary32 (mul binary32 a b) g) * P c ≤ (8 * One) * One = mul-le-mul y.plus.most fc.most in
    let z = product (mul binary32 (mul binary32 a b) g) c y.plus fc eight_grid eight_less h3 in
    record { first = x; second = y; third = z }

pub zero_left : {x y : Float} {w : ℕ} → Product x y w → P x ≡ 0 → P (mul binary32 x y) ≡ 0
zero_left {x} {y} h e = h.is ∙ ap (λ (n : ℕ). rnd n One) (ap (λ (n : ℕ). n * P y) e ∙ zero-mul (P y)) ∙ rnd_zero One one_pos

zero_right : {x y : Float} {w : ℕ} → Product x y w → P y ≡ 0 → P (mul binary32 x y) ≡ 0
zero_right {x} {y} h e = h.is ∙ ap (λ (n : ℕ). rnd n One) (ap (λ (n : ℕ). P x * n) e ∙ mul-zero (P x)) ∙ rnd_zero One one_pos

-- ---- the weights of the corners
-- what the coefficient of a corner is the root of
abbrev pub weight : (ℕ → Vec3) → List ℕ → Vec3 → Float → Bool → Bool → Bool → Float
weight sp l p g b c d = mul binary32 (row_weight sp (corner sp l p) p g b c) (part d (across sp (corner sp l p) p b c))

module _ (sp : ℕ → Vec3) (l : List ℕ) (t : Table sp l) (p : Vec3) (q : Position p) (g : Float) (G : Gain8 g) where
  pub weights : (b c d : Bool) → Weighed (part c (ahead sp (corner sp l p) p b)) (part b (up sp (corner sp l p) p)) g (part d (across sp (corner sp l p) p b c))
  weights b c d = weighed (part c (ahead sp (corner sp l p) p b)) (part b (up sp (corner sp l p) p)) g (part d (across sp (corner sp l p) p b c))
      (part_plus c (ahead sp (corner sp l p) p b) (ahead_part sp l t p q b)) (part_plus b (up sp (corner sp l p) p) (up_part sp l t p q)) G
      (part_plus d (across sp (corner sp l p) p b c) (across_part sp l t p q b c))

  -- a share that is 0 leaves its corners without weight
  pub no_up : (c d : Bool) → P (up sp (corner sp l p) p) ≡ 0 → P (weight sp l p g true c d) ≡ 0
  unfolding row_weight
  no_up c d e = let w = weights true c d in zero_left w.third (zero_left w.second (zero_right w.first e))

  pub no_ahead : (b d : Bool) → P (ahead sp (corner sp l p) p b) ≡ 0 → P (weight sp l p g b true d) ≡ 0
  unfolding row_weight
  no_ahead b d e = let w = weights b true d in zero_left w.third (zero_left w.second (zero_left w.first e))

  pub no_across : (b c : Bool) → P (across sp (corner sp l p) p b c) ≡ 0 → P (weight sp l p g b c true) ≡ 0
  unfolding row_weight
  no_across b c e = zero_right (weights b c true).third e
