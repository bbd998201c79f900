-- `fields::update::codes_fit`. One code more. Assumes nothing.
use Rattle.std.proofs.Common.{ℕ, ◌+◌, Bool, ◌&&◌, leb, get_or, ◌∙◌, ap₂}
use Rattle.fields.specs.Update.{most_at}
use Rattle.fields.proofs.All.{all_next}
use Rattle.fields.proofs.update.codes_fit.Goals as goal

pub loop-k-preserved : goal.loop-k-preserved
loop-k-preserved c =
    let a = c.args in
    let m = a.meta.now in
    let k = c.loop-k.k in
    ap₂ (λ (b : Bool) (n : ℕ). b && leb (get_or m (a.at + k) 0) n) c.loop-k.invariant c.most_at.ensures
    ∙ all_next (λ j. leb (get_or m (a.at + j) 0) (most_at j a.beds)) k
