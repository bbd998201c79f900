-- Both calls in a row. Document 02, R-9: "writing and then reading differs from the sample by at most 2^-23". Assumes nothing.
use Rattle.std.specs.Prelude.{ℕ, ◌+◌, ◌*◌, ◌/◌, ◌≤◌, ◌<◌, ◌≡◌, List, Ok, length, take, Float}
use Rattle.words.specs.Words.{float_at}
use Rattle.ieee.specs.Units.{F32, P, N}
use Rattle.ieee.specs.Bounds.{DifferBy}
use Rattle.pcm24.specs.Codes.{Step}
use Rattle.pcm24.specs.Interleaved.{interleaved, in_channels}
use Rattle.pcm24.specs.Refused.{judged_to_write, judged_to_read, left_by}

-- the destination that each call leaves, in the words of its contract
abbrev pub left_written : List ℕ → ℕ → ℕ → List ℕ → List ℕ
left_written out stride count dest = left_by (judged_to_write out stride count (length dest)) (interleaved out stride count dest) dest

abbrev pub left_read : List ℕ → List ℕ → List ℕ
left_read source dest = left_by (judged_to_read (length source) (length dest)) (in_channels source (length source / 36) dest) dest

-- two finite f32 whose values are at most 2 ^ -23 apart
pub record StepApart (x y : Float) : Type 0 where
  pub one : F32 x
  pub other : F32 y
  pub apart : DifferBy (P x + N y) (P y + N x) Step

-- the bytes of `count` samples, read into `into`: accepted, and each sample, "one channel after another", is that of `out` but for a step
pub record ReadBack (out : List ℕ) (stride count : ℕ) (bytes into : List ℕ) : Type 0 where
  pub accepted : judged_to_read (length bytes) (length into) ≡ Ok count
  pub samples : (c i : ℕ) → c < 12 → i < count → StepApart (float_at (left_read bytes into) (4 * (c * count + i))) (float_at out (4 * (c * stride + i)))

-- of each call of writing that is accepted, the bytes that it writes, read into any destination that is long enough
abbrev pub WrittenRead : Type 0
WrittenRead =
    (out : List ℕ) (stride count : ℕ) (dest into : List ℕ) → judged_to_write out stride count (length dest) ≡ Ok count → 48 * count ≤ length into
    → ReadBack out stride count (take (36 * count) (left_written out stride count dest)) into
