-- A reader may skip this file: samples by their bits, as the loops over a frame's bytes look at them. Assumes nothing.
use Rattle.std.specs.Prelude.{ℕ, ◌+◌, ◌*◌, ◌%◌, ◌<◌, ◌≤◌, Bool, List, leb}
use Rattle.words.specs.Words.{word}

-- none of the n samples from `at` on is a NaN: what refusal 8 lets pass is so (`pass_plain`)
abbrev pub Plain : List ℕ → ℕ → ℕ → Type 0
Plain s at n = (k : ℕ) → k < n → word s (at + 4 * k) % 0x8000_0000 ≤ 0x7f80_0000

-- `passes` by a sample's word (`passes_meant`): without the sign, bits are in the order of the sizes, and those of 16 are 0x41800000
abbrev pub small_bits : ℕ → Bool
small_bits w = leb (w % 0x8000_0000) 0x4180_0000
