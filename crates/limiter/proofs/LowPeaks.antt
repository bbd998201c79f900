-- Blocks whose peaks are at most 1 are quiet, whatever the gain from 0 to 1 that they find; and the peak of a silent block is +0.0. Assumes nothing.
use mathlib.Core.Path.{◌≡◌, refl, ap, ◌∙◌}
use mathlib.Core.Bool.{Bool, true, false, cond, true≢false}
use mathlib.Core.List.{List, [], ◌∷◌}
use Prim.Native.Nat.{ℕ, ◌*◌, ◌≤◌}
use native.Mathlib.Nat.{mul-le-mul_left}
use native.Mathlib.Omega.{arith}
use lib.Dec.{T}
use lib.Ieee.{Float, nan, inf, fin, binary32, is_nan, mul, lt, le}
use Rattle.ieee.specs.Units.{One, F32, mag, P, N}
use Rattle.ieee.specs.Bounds.{All}
use Rattle.ieee.specs.Small.{absolute, larger}
use Rattle.ieee.proofs.Grid.{rnd_le}
use Rattle.ieee.proofs.Value.{one_pos, one_grid}
use Rattle.ieee.proofs.Constants.{one_f32, one_P}
use Rattle.ieee.proofs.Signed.{mag_is}
use Rattle.ieee.proofs.Compare.{lt→, le→}
use Rattle.limiter.specs.Limiter.{0·0, 1·0, peak_from, block_peak}
use Rattle.limiter.specs.BlockInRange.{Fraction}
use Rattle.limiter.specs.Level.{Level}
use Rattle.limiter.specs.Return.{gain_past, Quiet}
use Rattle.limiter.proofs.Lowered.{gained}
use Rattle.limiter.proofs.Row.{block_fraction}

-- ---- p * g is at most 1
not_true : (b : Bool) → (T b → ⊥) → b ≡ false
not_true true f = absurd (f tt)
not_true false f = refl

low_quiet : (p g : Float) → Level p → T (le p 1·0) → Fraction g → lt 1·0 (mul binary32 p g) ≡ false
low_quiet nan g l t k = absurd (unfold is_nan in true≢false l.number)
low_quiet (inf true) g l t k = absurd (true≢false l.plus)
low_quiet (inf false) g l t k = absurd (unfold le in t)
low_quiet (fin s m e) g l t k = not_true (lt 1·0 z) bad
  where
    p : Float
    p = fin s m e

    z : Float
    z = mul binary32 p g

    f : F32 p
    f = record { fine = tt; fit = l.fit }

    bad : T (lt 1·0 z) → ⊥
    bad h =
        let o = one_P in
        let m = mag_is p in
        let n : N p ≡ 0 = ap (λ (b : Bool). cond b (mag p) 0) l.plus in
        let most = le→ p 1·0 f one_f32 t in
        let u = gained p g One f k.f32 k.plus (omega (arith, most)) (rnd_le one_grid (One * P g) One one_pos (mul-le-mul_left One k.most)) in
        let q = lt→ 1·0 z one_f32 u.f32 h in
        let high = u.high in
        omega arith

module _ (rate : ℕ) (a : 8000 ≤ rate) (b : rate ≤ 192000) where
  pub low_peaks_quiet : (g : Float) → Fraction g → (ps : List Float) → All Level ps → All (λ (p : Float). T (le p 1·0)) ps → Quiet rate g ps
  low_peaks_quiet g k [] l h = tt
  low_peaks_quiet g k (p ∷ ps) l h = (low_quiet p g l.0 h.0 k, low_peaks_quiet (gain_past rate g p) (block_fraction rate a b g k p l.0) ps l.1 h.1)

-- ---- a silent block
abbrev pub Zero : Float → Type 0
Zero x = x ≡ 0·0

larger_sound : larger 0·0 (absolute 0·0) ≡ 0·0
unfolding larger absolute
larger_sound = refl

larger_zero : larger 0·0 0·0 ≡ 0·0
unfolding larger
larger_zero = refl

zero_peak : (xs : List Float) → All Zero xs → peak_from 0·0 xs ≡ 0·0
zero_peak [] h = refl
zero_peak (x ∷ xs) h = ap (λ (y : Float). peak_from (larger 0·0 (absolute y)) xs) h.0 ∙ ap (λ (y : Float). peak_from y xs) larger_sound ∙ zero_peak xs h.1

pub silent_peak : (cs : List (List Float)) → All (All Zero) cs → block_peak 0·0 cs ≡ 0·0
unfolding block_peak
silent_peak [] h = refl
silent_peak (c ∷ cs) h = ap (λ (y : Float). block_peak (larger 0·0 y) cs) (zero_peak c h.0) ∙ ap (λ (y : Float). block_peak y cs) larger_zero ∙ silent_peak cs h.1
