-- `limiter::raise_lanes` meets its contract. Assumes nothing.
use mathlib.Core.Path.{sym, subst}
use lib.Ieee.{of_bits}
use Rattle.ieee.specs.Bounds.{All}
use Rattle.limiter.proofs.Levels.{Level, Fit}
use Rattle.limiter.proofs.RaisedLanes.{lanes_fit, lanes_raised, lanes_levels}
use Rattle.limiter.proofs.raise_lanes.Goals as goal

pub returns : goal.returns
unfolding of_bits
returns c =
    let fit : All Fit c.args.samples = lanes_fit c.args.samples c.fits-samples.1 in
    let e = lanes_raised c.args.max c.args.samples c.fits-samples.0 c.requires fit in
    (e, subst (All Level) (sym e) (lanes_levels c.args.max c.args.samples c.requires fit))
