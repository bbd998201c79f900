-- A reader may skip this file: a positive finite f32 by its bits, as `roots` takes it apart. `of_size` and `read_size` of proofs/Bits say that these are its units.
-- Assumes nothing.
use Rattle.std.specs.Prelude.{ℕ, ◌+◌, ◌-◌, ◌*◌, ◌/◌, ◌%◌, ◌^◌, cond, ltb}

-- the units of the positive finite f32 whose bits are b
abbrev pub units_of : ℕ → ℕ
units_of b = cond (ltb b 8388608) b ((8388608 + b % 8388608) * 2 ^ (b / 8388608 - 1))
