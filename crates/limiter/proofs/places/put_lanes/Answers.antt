-- `put_lanes` meets its contract. Assumes nothing.
use Rattle.limiter.proofs.LaneBits.{numbers_are}
use Rattle.limiter.proofs.LaneFloats.{lanes_put}
use Rattle.limiter.proofs.places.put_lanes.Goals as goal

pub float_to_bits-bits : goal.float_to_bits-bits
float_to_bits-bits c = numbers_are 4 c.args.samples c.fits-samples.0

pub returns : goal.returns
returns c = lanes_put c.args.out.now c.args.at c.args.samples c.fits-samples.0 c.fits-samples.1 c.requires
