-- `four_at`: the words of the vector are those of the bytes. Assumes nothing.
use Rattle.render.proofs.WordLanes.{lanes_plain, lanes_floats}
use Rattle.render.proofs.strips.four_at.Goals as goal

pub float_from_bits-result : goal.float_from_bits-result
float_from_bits-result c = lanes_plain c.args.pcm.now (λ i. (c.type_inv.pcm i).fits) 4 c.args.at c.requires.room c.requires.plain

pub returns : goal.returns
returns c = lanes_floats c.args.pcm.now (λ i. (c.type_inv.pcm i).fits) 4 c.args.at c.requires.room
