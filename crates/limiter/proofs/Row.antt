-- Blocks in a row: quiet ones only let the gain grow, and none takes it out of 0 to 1, whatever its peak. Assumes nothing.
use mathlib.Core.Path.{◌≡◌, refl, sym, ap, ◌∙◌, subst}
use mathlib.Core.Bool.{Bool, true, false, cond, true≢false}
use mathlib.Core.List.{List, [], ◌∷◌, ◌++◌}
use Prim.Native.Nat.{ℕ, zero, suc, ◌+◌, ◌*◌, ◌≤◌, zero-le}
use native.Mathlib.Omega.{arith}
use lib.Dec.{T}
use lib.ListN.{length}
use lib.Ieee.{Float, nan, inf, fin, binary32, fits, is_nan, mul, lt, le, div}
use Rattle.ieee.specs.Units.{One, F32, mag, P, N}
use Rattle.ieee.specs.Bounds.{All}
use Rattle.ieee.proofs.Constants.{zero_f32, one_f32, one_P}
use Rattle.ieee.proofs.Compare.{le→}
use Rattle.limiter.specs.Limiter.{0·0, 1·0, 0·9, block_peak, lowered, grown}
use Rattle.limiter.specs.BlockInRange.{Fraction, grown_times}
use Rattle.limiter.specs.Return.{ZeroToOne, gain_past, after_blocks, Quiet, Enough, Returns, ReturnsAfter}
use Rattle.limiter.proofs.Levels.{Level, Fit}
use Rattle.limiter.proofs.Peaks.{zero_level, block_peak_is}
use Rattle.limiter.proofs.Lowered.{ninth_keeps}
use Rattle.limiter.proofs.Growth.{decay_is, grown_fraction}
use Rattle.limiter.proofs.Return.{full_after}

-- ---- a gain from 0 to 1, by comparisons and by values
pub fraction : (g : Float) → ZeroToOne g → Fraction g
fraction nan z = absurd (unfold le in z.low)
fraction (inf false) z = absurd (unfold le in z.high)
fraction (inf true) z = absurd (unfold le in z.low)
fraction (fin s m e) z =
    let g = fin s m e in
    let f : F32 g = record { fine = tt; fit = z.fit } in
    record { f32 = f; plus = plus s (le→ 0·0 g zero_f32 f z.low); most = most s (le→ g 1·0 f one_f32 z.high) }
  where
    plus : (s : Bool) → P 0·0 + cond s (mag (fin s m e)) 0 ≤ cond s 0 (mag (fin s m e)) + N 0·0 → cond s (mag (fin s m e)) 0 ≡ 0
    plus true h = omega (arith, h)
    plus false h = refl

    most : (s : Bool) → cond s 0 (mag (fin s m e)) + N 1·0 ≤ P 1·0 + cond s (mag (fin s m e)) 0 → cond s 0 (mag (fin s m e)) ≤ One
    most true h = zero-le
    most false h = let o = one_P in omega (arith, h)

-- ---- a block of any peak
inf_over : Fraction (div binary32 0·9 (inf false))
unfolding div fits mag
inf_over = record { f32 = record { fine = tt; fit = tt }; plus = refl; most = zero-le }

past_fraction : (p g : Float) → Level p → Fraction g → Fraction (lowered p g)
unfolding lowered
past_fraction p g l k = go (lt 1·0 (mul binary32 p g)) (λ t. above p l t)
  where
    above : (p : Float) → Level p → T (lt 1·0 (mul binary32 p g)) → Fraction (div binary32 0·9 p)
    above nan l t = absurd (unfold is_nan in true≢false l.number)
    above (inf s) l t = subst (λ (b : Bool). Fraction (div binary32 0·9 (inf b))) (sym l.plus) inf_over
    above (fin s m e) l t =
        let h = (ninth_keeps (fin s m e) g (record { fine = tt; fit = l.fit }) (ap (λ (b : Bool). cond b (mag (fin s m e)) 0) l.plus) k t).gain in
        record { f32 = h.f32; plus = h.plus; most = h.most }

    go : (b : Bool) → (T b → Fraction (div binary32 0·9 p)) → Fraction (cond b (div binary32 0·9 p) g)
    go true t = t tt
    go false t = k

-- ---- blocks in a row
kept : (p g : Float) → lt 1·0 (mul binary32 p g) ≡ false → lowered p g ≡ g
unfolding lowered
kept p g e = ap (λ (t : Bool). cond t (div binary32 0·9 p) g) e

-- growing once and then k times is growing once more
grown_first : (k rate : ℕ) (g : Float) → grown_times k 64 rate (grown 64 rate g) ≡ grown 64 rate (grown_times k 64 rate g)
grown_first zero rate g = refl
grown_first (suc k) rate g = ap (grown 64 rate) (grown_first k rate g)

quiet_grows : (rate : ℕ) (g : Float) (ps : List Float) → Quiet rate g ps → after_blocks rate g ps ≡ grown_times (length ps) 64 rate g
quiet_grows rate g [] q = refl
quiet_grows rate g (p ∷ ps) q =
    quiet_grows rate (gain_past rate g p) ps q.1
    ∙ ap (λ (x : Float). grown_times (length ps) 64 rate (grown 64 rate x)) (kept p g q.0)
    ∙ grown_first (length ps) rate g

pub after_more : (rate : ℕ) (g : Float) (ps qs : List Float) → after_blocks rate g (ps ++ qs) ≡ after_blocks rate (after_blocks rate g ps) qs
after_more rate g [] qs = refl
after_more rate g (p ∷ ps) qs = after_more rate (gain_past rate g p) ps qs

module _ (rate : ℕ) (a : 8000 ≤ rate) (b : rate ≤ 192000) where
  pub block_fraction : (g : Float) → Fraction g → (p : Float) → Level p → Fraction (gain_past rate g p)
  block_fraction g k p l = grown_fraction 64 rate (decay_is 64 rate (omega arith) (omega arith) (omega arith)) (lowered p g) (past_fraction p g l k)

  pub blocks_fraction : (g : Float) → Fraction g → (ps : List Float) → All Level ps → Fraction (after_blocks rate g ps)
  blocks_fraction g k [] l = k
  blocks_fraction g k (p ∷ ps) l = blocks_fraction (gain_past rate g p) (block_fraction g k p l.0) ps l.1

  long_enough : (ps : List Float) → Enough rate ps → rate + 65 ≤ 64 * length ps
  long_enough ps n = omega (arith, n)

  returns_from : (g : Float) → Fraction g → (ps : List Float) → Enough rate ps → Quiet rate g ps → after_blocks rate g ps ≡ 1·0
  returns_from g k ps n q = quiet_grows rate g ps q ∙ full_after rate a b g k (length ps) (long_enough ps n)

pub returns : Returns
returns rate a b g z = returns_from rate a b g (fraction g z)

pub returns_after : ReturnsAfter
returns_after rate a b g z ps l qs n q =
    after_more rate g ps qs ∙ returns_from rate a b (after_blocks rate g ps) (blocks_fraction rate a b g (fraction g z) ps l) qs n q

-- ---- the peak of a block of any samples is a level
pub block_level : (cs : List (List Float)) → All (All Fit) cs → Level (block_peak 0·0 cs)
block_level cs f = (block_peak_is 0·0 cs zero_level f).level
