-- What holds of a push that no refusal turned away. Assumes nothing.
use mathlib.Core.Path.{◌≡◌, refl, sym, subst}
use mathlib.Core.Bool.{Bool, true, false, not, ◌&&◌, ◌||◌}
use mathlib.Core.List.{List}
use Prim.Native.Nat.{ℕ, zero, suc, ◌+◌, ◌*◌, ◌%◌, ◌≤◌, ◌<◌}
use native.Mathlib.Nat.{mul-le-mul_right, zero-add}
use native.Mathlib.Omega.{arith}
use borrow.Author.Tests.{leb-true, eqb-true}
use lib.Dec.{T, eqb, leb}
use lib.ListN.{length}
use Rattle.ieee.specs.Units.{One}
use Rattle.ieee.specs.Bounds.{Bounded, All}
use Rattle.words.specs.Words.{Bytes, float_at}
use Rattle.mixing.specs.FrameSamples.{all_pass}
use Rattle.rates.specs.Rates.{lowest, highest, Listed}
use Rattle.rules.specs.Leaves.{Leaves}
use Rattle.rules.specs.Mix.{sample_at, samples_at}
use Rattle.rules.specs.Samples.{State}
use Rattle.rules.specs.Refusals.{Args, Found, clear, stop, ◌then◌, unless, every, room, sized, listed, early, later}
use Rattle.rules.specs.Calls.{updates_in, announced, found_with, found}
use Rattle.mixing.proofs.RefusalEight.{sample_bounded}

-- ---- tests
pub stops : {n a b : ℕ} → stop n a b ≡ clear → ⊥
stops e = let z : ◌≡◌ {A = ℕ} 0 1 = cc in omega arith

pub then_clear : (x y : Found) → (x then y) ≡ clear → (x ≡ clear) × (y ≡ clear)
then_clear clear y e = (refl, e)
then_clear (stop n a b) y e = absurd (stops e)

pub unless_clear : (t : Bool) (n a b : ℕ) → unless t n a b ≡ clear → t ≡ true
unless_clear true n a b e = refl
unless_clear false n a b e = absurd (stops e)

pub and_true : (a b : Bool) → (a && b) ≡ true → (a ≡ true) × (b ≡ true)
and_true true b e = (refl, e)
and_true false b e = absurd (subst T (sym e) tt)

-- ---- a listed rate
pub is_listed : (rate : ℕ) → listed rate ≡ true → Listed rate
is_listed rate e = let a = and_true (leb lowest rate) (leb rate highest) e in record { low = leb-true lowest rate a.0; high = leb-true rate highest a.1 }

-- a rate's size
pub rate_low : {rate : ℕ} → Listed rate → 64 ≤ rate
rate_low l = omega (arith, l.low)

pub rate_high : {rate : ℕ} → Listed rate → rate < 16777216
rate_high l = omega (arith, l.high)

-- ---- the stride and the output
pub record Roomy (stride bytes : ℕ) : Type 0 where
  pub whole : stride % 64 ≡ 0
  pub some : 64 ≤ stride
  pub most : stride ≤ 1536
  pub long : 48 * stride ≤ bytes

pub is_roomy : (stride bytes : ℕ) → room stride bytes ≡ true → Roomy stride bytes
is_roomy stride bytes e =
    let a = and_true (eqb (stride % 64) 0 && leb 64 stride && leb stride 1536) (leb (48 * stride) bytes) e in
    let b = and_true (eqb (stride % 64) 0 && leb 64 stride) (leb stride 1536) a.0 in
    let c = and_true (eqb (stride % 64) 0) (leb 64 stride) b.0 in
    record { whole = eqb-true (stride % 64) 0 c.0; some = leb-true 64 stride c.1; most = leb-true stride 1536 b.1; long = leb-true (48 * stride) bytes a.1 }

-- ---- the frame's length
pub record Sizes (a : Args) : Type 0 where
  pub samples : a.samples ≤ a.stride
  pub codes : length a.codes ≤ 18
  pub objects : a.objects ≤ 16
  pub pcm : length a.pcm ≡ 4 * ((length a.codes + a.objects) * a.samples)

pub is_sized : (a : Args) → sized a ≡ true → Sizes a
is_sized a e =
    let channels = length a.codes + a.objects in
    let x1 = leb a.samples a.stride in
    let x2 = leb (length a.codes) 18 in
    let x3 = leb a.objects 16 in
    let x4 = every (λ c. leb c 17) a.codes in
    let x5 = eqb (length a.pcm) (4 * (channels * a.samples)) in
    let y5 = and_true (x1 && x2 && x3 && x4 && x5) (eqb a.samples 0 || not (eqb channels 0)) e in
    let y4 = and_true (x1 && x2 && x3 && x4) x5 y5.0 in
    let y3 = and_true (x1 && x2 && x3) x4 y4.0 in
    let y2 = and_true (x1 && x2) x3 y3.0 in
    let y1 = and_true x1 x2 y2.0 in
    record {
      samples = leb-true a.samples a.stride y1.0;
      codes = leb-true (length a.codes) 18 y1.1;
      objects = leb-true a.objects 16 y2.1;
      pcm = eqb-true (length a.pcm) (4 * (channels * a.samples)) y4.1;
    }

pub samples_fit : (a : Args) → sized a ≡ true → a.samples ≤ a.stride
samples_fit a e = (is_sized a e).samples

-- ---- a push
module _ (L : Leaves) where
  -- no refusal from 1 to 8
  pub record Early (r : State L) (a : Args) : Type 0 where
    pub room : room a.stride (length a.out) ≡ true
    pub sized : sized a ≡ true
    pub listed : listed a.rate ≡ true
    pub position : r.clock.position + a.samples ≤ 1099511627776
    pub laid_out : L.laid_out a.meta ≡ true
    pub in_range : L.in_range a.meta ≡ true
    pub pass : all_pass a.pcm 0 ((length a.codes + a.objects) * a.samples) ≡ true

  pub record Passed (r : State L) (a : Args) : Type 0 where
    pub early : Early r a
    pub fits : L.fits r.clock.position a.samples r.waits a.meta ≡ true
    pub later : later (announced L (updates_in L r a)) a.objects a.codes a.samples a.rate r.rate (L.shape r.meta) ≡ clear

  pub is_early : (r : State L) (a : Args) → early L r a ≡ clear → Early r a
  is_early r a e =
      let s1 = then_clear (unless (room a.stride (length a.out)) 1 0 0) _ e in
      let s2 = then_clear (unless (sized a) 2 0 0) _ s1.1 in
      let s3 = then_clear (unless (listed a.rate) 3 0 0) _ s2.1 in
      let s4 = then_clear (unless (leb (r.clock.position + a.samples) 1099511627776) 4 0 0) _ s3.1 in
      let s5 = then_clear (unless (L.laid_out a.meta) 5 0 0) _ s4.1 in
      let s6 = then_clear (unless (L.in_range a.meta) 6 0 0) _ s5.1 in
      record {
        room = unless_clear (room a.stride (length a.out)) 1 0 0 s1.0;
        sized = unless_clear (sized a) 2 0 0 s2.0;
        listed = unless_clear (listed a.rate) 3 0 0 s3.0;
        position = leb-true (r.clock.position + a.samples) 1099511627776 (unless_clear (leb (r.clock.position + a.samples) 1099511627776) 4 0 0 s4.0);
        laid_out = unless_clear (L.laid_out a.meta) 5 0 0 s5.0;
        in_range = unless_clear (L.in_range a.meta) 6 0 0 s6.0;
        pass = unless_clear (all_pass a.pcm 0 ((length a.codes + a.objects) * a.samples)) 8 0 0 s6.1;
      }

  pub is_passed : (r : State L) (a : Args) → found L r a ≡ clear → Passed r a
  is_passed r a e =
      let s = then_clear (early L r a) _ e in
      let t = then_clear (unless (L.fits r.clock.position a.samples r.waits a.meta) 25 0 0) _ s.1 in
      record { early = is_early r a s.0; fits = unless_clear (L.fits r.clock.position a.samples r.waits a.meta) 25 0 0 t.0; later = t.1 }

  -- 1 to 8, and 9 to 14 with these updates
  pub record PassedWith (us : List L.Update) (r : State L) (a : Args) : Type 0 where
    pub early : Early r a
    pub later : later (announced L us) a.objects a.codes a.samples a.rate r.rate (L.shape r.meta) ≡ clear

  pub is_passed_with : (us : List L.Update) (r : State L) (a : Args) → found_with L us r a ≡ clear → PassedWith us r a
  is_passed_with us r a e = let s = then_clear (early L r a) _ e in record { early = is_early r a s.0; later = s.1 }

-- ---- samples
-- channel i at sample t
pub sample_in : (pcm : List ℕ) (channels n : ℕ) → Bytes pcm → all_pass pcm 0 (channels * n) ≡ true → (i t : ℕ) → i < channels → t < n → Bounded (16 * One) (sample_at pcm n i t)
sample_in pcm channels n b p i t h k =
    let m : suc i * n ≤ channels * n = mul-le-mul_right n h in
    subst (λ (at : ℕ). Bounded (16 * One) (float_at pcm at)) (zero-add (4 * (i * n + t))) (sample_bounded pcm 0 (channels * n) p (i * n + t) (omega arith))

pub samples_in : (pcm : List ℕ) (channels n : ℕ) → Bytes pcm → all_pass pcm 0 (channels * n) ≡ true → (k i t : ℕ) → i + k ≤ channels → t < n
    → All (Bounded (16 * One)) (samples_at pcm n k i t)
samples_in pcm channels n b p zero i t h l = tt
samples_in pcm channels n b p (suc k) i t h l = (sample_in pcm channels n b p i t (omega arith) l, samples_in pcm channels n b p k (suc i) t (omega arith) l)
