-- `code_of_bits`: the sum's lowest bits are the nearest whole number; its sign and its limit. Assumes nothing.
use Rattle.std.proofs.Common.{◌%◌, ◌∙◌, arith}
use Rattle.words.proofs.Nan.{not_above}
use Rattle.pcm24.proofs.Nearest.{sum_bits, sum_number, sum_few, code_plus, code_minus}
use Rattle.pcm24.proofs.codes.code_of_bits.Goals as goal

pub float_from_bits-size : goal.float_from_bits-size
float_from_bits-size c = not_above _ (omega arith)

pub float_to_bits-nearest : goal.float_to_bits-nearest
float_to_bits-nearest c = sum_number _ c.requires

pub overflow_sub-nearest : goal.overflow_sub-nearest
overflow_sub-nearest c = omega (arith, sum_bits (c.args.bits % 2147483648) c.requires)

pub overflow_sub-result : goal.overflow_sub-result
overflow_sub-result c = omega (arith, sum_bits (c.args.bits % 2147483648) c.requires, sum_few (c.args.bits % 2147483648) c.requires)

pub returns-then-bits-lt2147483648 : goal.returns-then-bits-lt2147483648
returns-then-bits-lt2147483648 c = c.min.ensures ∙ code_plus c.args.bits c.ranges.bits.fits c.requires c.if-bits-lt2147483648.true

pub returns-else-bits-lt2147483648 : goal.returns-else-bits-lt2147483648
returns-else-bits-lt2147483648 c = code_minus c.args.bits c.ranges.bits.fits c.requires c.if-bits-lt2147483648.false
