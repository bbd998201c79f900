-- `frame::push::clear_rows` meets its contract: where another turn follows, each place is +0.0. Assumes nothing.
use mathlib.Core.Path.{sym, ap}
use mathlib.Core.Bool.{Bool}
use lib.Ieee.{of_bits}
use Rattle.std.proofs.Common.{cond}
use Rattle.render.specs.Run.{silent_rows}
use Rattle.frame.proofs.push.clear_rows.Goals as goal

pub returns-then-more : goal.returns-then-more
unfolding of_bits silent_rows
returns-then-more c = sym (ap (λ (b : Bool). cond b silent_rows c.args.rows.now) c.if-more.true)
