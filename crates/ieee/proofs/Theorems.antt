-- What others may cite of this crate, a line each: the laws on f32. README.md has the words. Assumes nothing.

-- what a finite f32 is worth: its value is on the grid and below `Top`; its size is P + N, one of which is 0
pub use Rattle.ieee.proofs.Value.{Shape, shape}
pub use Rattle.ieee.proofs.Signed.{mag_is, one_sided, P-grid, P-less}
-- the value of a constant
pub use Rattle.ieee.proofs.Constants.{zero_f32, zero_mag, one_f32, one_P, ninth_f32, ninth_P, eight_f32, eight_P, sixteen_f32, sixteen_P}
pub use Rattle.ieee.proofs.Value.{one_is, one_pos, one_grid}
pub use Rattle.ieee.proofs.Constants.{one_less, top_pos}
pub use Rattle.ieee.proofs.NumbersByBits.{zero_bits, one_bits, nine_tenths_bits}
-- a whole number as f32: its value, that it is on the grid, below `Top`, and can be cast
pub use Rattle.ieee.proofs.Constants.{whole_is, whole_grid, whole_less, in_float_is}
pub use Rattle.ieee.proofs.Value.{Is, plus_P, plus_N}
-- x + y, x - y, x * y, x / y is one rounding of the exact result; `small` shows from a bound that nothing overflows, as they ask
pub use Rattle.ieee.proofs.Ops.{Rounds, Small, small, add_rounds, sub_rounds, mul_rounds, div_rounds}
-- the rounding of a fraction, and where it is beyond the format; a product that is an infinity
pub use Rattle.ieee.proofs.Value.{rounded, overflows}
pub use Rattle.ieee.proofs.Ops.{mul_over}
-- a change of sign
pub use Rattle.ieee.proofs.Ops.{neg_f32, neg_P, neg_N}
-- a bound of the format bounds the result, either side
pub use Rattle.ieee.proofs.Signed.{at_most, at_least, minus_at_most, not_negative, not_positive}
-- a result is the float itself
pub use Rattle.ieee.proofs.Exact.{mul_one, zero_add, zero_minus, less_itself, times_zero, add_zeros}
-- two floats are the same: by sign and size; by a value that is not 0
pub use Rattle.ieee.proofs.Unique.{unique, same_value}
-- an f32 that is finite, and one whose size is not 0
pub use Rattle.ieee.proofs.Exact.{fine, mag_pos}
-- which 24 digits a result keeps, where the signs are known: the whole number closest to a fraction, or the exact one
pub use Rattle.ieee.proofs.Digits.{Plus, Minus, plus_of, Gives, kept, exactly, add_plus, sub_plus, mul_plus, mul_minus, div_plus}
-- two results are in the order of the exact ones
pub use Rattle.ieee.proofs.Signed.{order}
-- the error of an operation: 2^-24 of a bound on the exact result, and 2^-150; of a sum, and below a power of two, less
pub use Rattle.ieee.proofs.Signed.{near, near_whole, near_ulp}
-- the error of a nearest square root
pub use Rattle.ieee.proofs.Error.{root_near}
-- nothing overflows and sizes stay bounded; `next_bounded`: one term more of a sum
pub use Rattle.ieee.proofs.Bound.{bounded_by, zero_bounded, rounds_bounded, add_bounded, mul_bounded, next_bounded}
-- a product with a zero is a zero, of either sign
pub use Rattle.ieee.proofs.Bound.{product_zero}
-- the bits of an f32 by its size, and its size by the bits
pub use Rattle.ieee.proofs.Bits.{to_bits_is, no_sign, of_size, Read, read_size}
-- a test on the bits, or two comparisons, say that a size is bounded, both ways
pub use Rattle.ieee.proofs.Bits.{bits_bounded}
pub use Rattle.ieee.proofs.Bound.{between_bounded}
-- a test on the bits says that a float is from 0 to another, -0.0 too, or that it is one that is not 0
pub use Rattle.ieee.proofs.Patterns.{bits_up_to, bits_same}
-- what a comparison says, and that it holds
pub use Rattle.ieee.proofs.Compare.{lt→, nlt→, le→, eq→, →lt, →le, →eq}
-- a share (x - a) / (b - a) is in [0, 1], and with what is left adds up to 1
pub use Rattle.ieee.proofs.Share.{Shared, share, left_over}
-- rounding on natural numbers alone
pub use Rattle.ieee.proofs.Grid.{rnd, rnd_mono, rnd_exact, rnd_le, rnd_ge, rnd_near, rnd_ulp, rnd_zero, rnd_grid, rnd_same}
-- which numbers are on the grid: small ones, powers of two, products with one, either way
pub use Rattle.ieee.proofs.Grid.{grid_zero, grid_small, grid_at, grid_pow, grid_up, grid_down}
-- no value of the format is nearer; all in one cell rounds alike
pub use Rattle.ieee.proofs.Closest.{Multiple, grid_multiple, rnd_below, rnd_above, rnd_is, rnd_closest, InCell, same_cell}
-- the nearest whole number, of two the even one
pub use Rattle.ieee.proofs.Grid.{closest_near}
pub use Rattle.ieee.proofs.Closest.{closest_down, closest_up, closest_even}
pub use Rattle.ieee.proofs.Digits.{closest_least, closest_most}
-- over ℤ: polynomial identities by computation; what is not negative; absolute values
pub use Rattle.ieee.proofs.Ring.{R, var, con, ◌⊕◌, ◌⊖◌, ◌⊗◌, ring}
pub use Rattle.ieee.proofs.NotNegative.{NN, nn, nn_test, nn_add, nn_mul, nn_sq, nn_by, nn_of_pos, nn_cancel, nn_sub, nn_of_abs, abs_of_nn}
pub use Rattle.ieee.proofs.NotNegative.{abs_add, abs_minus, abs_from, abs_neg, abs_mul, abs_neg_mul, abs_times}
-- errors over ℤ, and a float as a fraction
pub use Rattle.ieee.proofs.Near.{val, abs_most, bounded_abs, Near, Sum, Ratio, most, plus_ratio, minus_ratio, add_near, sub_near, mul_near, sum_size, near_size}
-- of two numbers one is at most the other
pub use Rattle.ieee.proofs.Grid.{le_or_lt}
