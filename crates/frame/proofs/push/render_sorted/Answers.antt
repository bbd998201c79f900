-- `frame::push::render_sorted` meets its contract: the hall that `render_in` is lent is the block's. Assumes nothing.
use Rattle.frame.proofs.Running.{valid_hall}
use Rattle.frame.proofs.push.render_sorted.Goals as goal

pub hall-requires : goal.hall-requires
hall-requires c = valid_hall c.args.state.now c.requires.valid
