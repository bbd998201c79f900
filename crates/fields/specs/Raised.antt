-- A reader may skip this file: a block's numbers plus 2 ^ 20, as the state keeps them. `raised_is` of proofs/Raised: within ±2 ^ 20 it is that sum; `raised_within`: it is at
-- most 2 ^ 21 exactly if the number is within. Assumes nothing.
use Rattle.std.specs.Prelude.{ℕ, ◌+◌, ◌*◌, ◌%◌, ◌^◌, List}
use Rattle.words.specs.Words.{long}
use Rattle.fields.specs.declared.block.Block.{Block}

-- the signed number at a place plus 2 ^ 20, by its bits
abbrev pub raised : List ℕ → ℕ → ℕ
raised m at = (long m at + 1048576) % 2 ^ 64

abbrev pub raised_of : List ℕ → ℕ → Block ℕ
raised_of m r = record { offset = raised m (40 * r + 8); ramp = raised m (40 * r + 16) }
