-- Samples in the bytes of a frame, and refusal 8. Document 01, "What a call receives": "a sample is four bytes, little-endian". Assumes nothing.
use Rattle.std.specs.Prelude.{ℕ, zero, suc, ◌+◌, Bool, true, ◌&&◌, List, Float}
use Rattle.std.specs.Float.{binary32}
use Rattle.std.specs.Float.Ieee.{neg, le, of_bits}
use Rattle.words.specs.Words.{word, floats_at}
pub use Rattle.ieee.specs.Numbers.{16·0}

-- the n samples from `at` on
abbrev pub samples : List ℕ → ℕ → ℕ → List Float
samples = floats_at

-- Document 01, refusal 8: "a sample not finite or beyond ±16". Neither a NaN nor an infinity compares so.
abbrev pub within16 : Float → Bool
within16 x = le (neg 16·0) x && le x 16·0

-- the sample whose word is w
abbrev pub passes : ℕ → Bool
passes w = within16 (of_bits binary32 w)

-- each of the n samples from `at` on
abbrev pub all_pass : List ℕ → ℕ → ℕ → Bool
all_pass s at zero = true
all_pass s at (suc n) = passes (word s at) && all_pass s (at + 4) n
