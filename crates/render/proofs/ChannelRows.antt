-- Samples of a channel out of the frame's PCM: within it, none a NaN; and the row that they are read into. Assumes nothing.
use mathlib.Core.Path.{◌≡◌, ap, subst, ◌∙◌}
use mathlib.Core.List.{List, ◌++◌}
use Prim.Native.Nat.{ℕ, ◌+◌, ◌*◌, ◌%◌, ◌<◌, ◌≤◌}
use native.Mathlib.Omega.{arith}
use native.Mathlib.Nat.{mul-le-mul_right}
use lib.ListN.{length, length-append, take}
use lib.Seq.{take_at}
use lib.Ieee.{Float}
use Rattle.words.specs.Words.{word}
use Rattle.mixing.proofs.Theorems.{length-samples}
use Rattle.render.specs.declared.Span.{Span}
use Rattle.mixing.specs.SampleBits.{Plain}
use Rattle.render.specs.Framed.{Framed}
use Rattle.render.specs.MixedSources.{channel_start, channel_row}

-- the run's samples of channel i are there, and none is a NaN
pub record Reached (pcm : List ℕ) (s : Span) (i : ℕ) : Type 0 where
  pub room : channel_start s i + 4 * s.count ≤ length pcm
  pub plain : Plain pcm (channel_start s i) s.count

-- channel i of m, and the n samples of a channel
below : (i m n : ℕ) → i < m → i * n + n ≤ m * n
below i m n h = omega (arith, mul-le-mul_right n h)

module _ (pcm : List ℕ) (s : Span) where
  pub reached : (i m : ℕ) → Framed pcm m s.frame → i < m → Reached pcm s i
  reached i m f h =
      let n = s.frame in
      let t = s.first in
      let b = below i m n h in
      let p = s.within in
      record {
        room = let r = f.room in omega arith;
        plain = λ j l. subst (λ (a : ℕ). word pcm a % 0x8000_0000 ≤ 0x7f80_0000) (omega arith) (f.plain (i * n + t + j) (omega arith));
      }

  -- fewer channels
  pub fewer : (a b : ℕ) → Framed pcm (a + b) s.frame → Framed pcm a s.frame
  fewer a b f =
      let e : a * s.frame ≤ (a + b) * s.frame = mul-le-mul_right s.frame (omega arith) in
      record { room = let r = f.room in omega arith; plain = λ j l. f.plain j (omega arith) }

  -- a row that starts with the samples of channel i
  module _ (i : ℕ) (row rest : List Float) (e : row ≡ channel_row pcm s i ++ rest) where
    pub row_start : take s.count row ≡ channel_row pcm s i
    row_start = rw e (take_at (channel_row pcm s i) rest s.count (length-samples pcm (channel_start s i) s.count))

    pub row_length : length (take s.count row) ≡ s.count
    row_length = ap length row_start ∙ length-samples pcm (channel_start s i) s.count

    pub row_reaches : s.count ≤ length row
    row_reaches = rw e (omega (arith, length-append (channel_row pcm s i) rest, length-samples pcm (channel_start s i) s.count))
