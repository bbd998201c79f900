-- What a frame's header says of its counts. Assumes nothing.
use Prim.Native.Nat.{ℕ, ◌+◌, ◌*◌, ◌≤◌}
use mathlib.Core.Path.{◌≡◌}
use mathlib.Core.Bool.{true, ◌&&◌}
use mathlib.Core.List.{List}
use native.Mathlib.Nat.{mul-le-mul}
use native.Mathlib.Omega.{arith}
use borrow.Author.Tests.{leb-true, eqb-true}
use lib.Dec.{leb, eqb}
use lib.ListN.{get_or}
use Rattle.words.specs.Words.{half}
use Rattle.fields.proofs.Theorems.{and_left, and_right}
use Rattle.fields.specs.RecordBytes.{zero_bytes}
use Rattle.framing.specs.Framing.{bed_count, in_limits, is_frame, metadata_bytes, pcm_bytes}

-- the counts of a frame
pub record Limits (r : List ℕ) : Type 0 where
  pub samples : half r 8 ≤ 256
  pub beds : bed_count r ≤ 18
  pub objects : get_or r 11 0 ≤ 16
  pub records : half r 12 ≤ 1200

pub in_limits_is : (r : List ℕ) → in_limits r ≡ true → Limits r
unfolding in_limits
in_limits_is r e =
    let s = leb (half r 8) 256 in
    let b = leb (bed_count r) 18 in
    let o = leb (get_or r 11 0) 16 in
    let three = and_left (s && b && o) _ e in
    let two = and_left (s && b) _ three in
    record {
      samples = leb-true _ _ (and_left s _ two);
      beds = leb-true _ _ (and_right s b two);
      objects = leb-true _ _ (and_right (s && b) o three);
      records = leb-true _ _ (and_right (s && b && o) _ e);
    }

pub frame_limits : (r : List ℕ) → is_frame r ≡ true → Limits r
unfolding is_frame
frame_limits r e =
    let k = eqb (get_or r 0 0) 5 in
    in_limits_is r (and_right k (in_limits r) (and_left (k && in_limits r) _ (and_left (k && in_limits r && zero_bytes r 1 3) _ e)))

pub frame_kind : (r : List ℕ) → is_frame r ≡ true → get_or r 0 0 ≡ 5
unfolding is_frame
frame_kind r e =
    let k = eqb (get_or r 0 0) 5 in
    eqb-true _ _ (and_left k _ (and_left (k && in_limits r) _ (and_left (k && in_limits r && zero_bytes r 1 3) _ e)))

pub few_beds : (r : List ℕ) → in_limits r ≡ true → bed_count r ≤ 18
few_beds r e = (in_limits_is r e).beds

pub frame_beds : (r : List ℕ) → is_frame r ≡ true → bed_count r ≤ 18
frame_beds r e = (frame_limits r e).beds

pub frame_metadata : (r : List ℕ) → is_frame r ≡ true → metadata_bytes r ≤ 48000
frame_metadata r e = let l = frame_limits r e in omega (arith, l.records)

-- 34 channels of 256 samples
pub pcm_fits : (r : List ℕ) {a b s : ℕ} → Limits r → a ≡ bed_count r → b ≡ get_or r 11 0 → s ≡ half r 8 → (a + b) * s ≤ 8704
pcm_fits r {a} {b} {s} l p q e =
    let m : (a + b) * s ≤ 34 * 256 = mul-le-mul {n₂ = 34} {m₂ = 256} (omega (arith, l.beds, l.objects)) (omega (arith, l.samples)) in m

pub frame_pcm : (r : List ℕ) → is_frame r ≡ true → pcm_bytes r ≤ 34816
frame_pcm r e =
    let l = frame_limits r e in
    let m : (bed_count r + get_or r 11 0) * half r 8 ≤ 34 * 256 = mul-le-mul {n₂ = 34} {m₂ = 256} (omega (arith, l.beds, l.objects)) l.samples in
    omega (arith, m)
