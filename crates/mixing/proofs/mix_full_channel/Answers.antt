-- `mix_full_channel`: by the gain's test.
use Rattle.std.proofs.Common.{◌∙◌}
use Rattle.mixing.proofs.Mixed.{full_zero, full_mixed}
use Rattle.mixing.proofs.mix_full_channel.Goals as goal

pub returns-then-gain : goal.returns-then-gain
returns-then-gain c = full_zero _ _ _ c.if-gain.true

pub returns : goal.returns
returns c = c.mix_add_scaled.ensures ∙ full_mixed _ _ _ c.if-gain.false
