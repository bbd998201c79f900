-- `give`: the limiter over the pending samples. Assumes nothing.
use mathlib.Core.Path.{refl}
use Rattle.rendering.proofs.Given.{gave}
use Rattle.rendering.proofs.Rendering.give.Goals as goal

pub returns : goal.returns
returns c =
    let a = c.args in
    gave a.self a.state.now a.out.now a.stride c.requires.0.pending c.empty-self.ensures refl c.meet-self.ensures
    (rw c.requires.1 at c.apply_output_limiter_block-after.ensures)
