-- The gains and sizes that may be panned. Assumes nothing.
use mathlib.Core.Logic.{inl, inr}
use mathlib.Core.Path.{◌≡◌}
use Prim.Native.Nat.{◌*◌, ◌≤◌}
use native.Mathlib.Omega.{arith}
use lib.Dec.{T}
use lib.Ieee.{Float}
use Rattle.ieee.specs.Units.{One, F32, P, N}
use Rattle.ieee.proofs.Signed.{one_sided}
use Rattle.ieee.proofs.Constants.{zero_f32, one_f32, eight_f32, zero_mag, one_P, eight_P}
use Rattle.corners.specs.Choice.{0·0, 1·0}
use Rattle.corners.specs.Table.{8·0, between}
use Rattle.corners.proofs.Tables.{between→}

-- a gain from 0 to 8
pub record Gain8 (g : Float) : Type 0 where
  pub f32 : F32 g
  pub plus : N g ≡ 0
  pub most : P g ≤ 8 * One

pub gain8 : (g : Float) → T (between 0·0 8·0 g) → Gain8 g
gain8 g t =
    let b = between→ 0·0 8·0 g zero_f32 eight_f32 t in
    let p = eight_P in
    let z = zero_mag in
    elim (one_sided g) [
      | inl e ↦ record { f32 = b.0; plus = omega (arith, e, b.1, z); most = omega (arith, e) }
      | inr e ↦ record { f32 = b.0; plus = e; most = omega (arith, e, b.2, p) }
    ]

-- a size from 0 to 1
pub record Size1 (s : Float) : Type 0 where
  pub f32 : F32 s
  pub plus : N s ≡ 0
  pub most : P s ≤ One

pub size1 : (s : Float) → T (between 0·0 1·0 s) → Size1 s
size1 s t =
    let b = between→ 0·0 1·0 s zero_f32 one_f32 t in
    let p = one_P in
    let z = zero_mag in
    elim (one_sided s) [
      | inl e ↦ record { f32 = b.0; plus = omega (arith, e, b.1, z); most = omega (arith, e) }
      | inr e ↦ record { f32 = b.0; plus = e; most = omega (arith, e, b.2, p) }
    ]
