use mathlib.Core.Path.{◌∙◌}
use Rattle.store.proofs.BlockTests.{position_in_block}
use Rattle.store.proofs.position.Goals as goal

-- src/lib.rt:60:1
pub returns : goal.returns
returns c = c.long.ensures ∙ position_in_block c.args.state.now c.told-state
