-- `handle`: each arm makes the call of its kind. Assumes nothing.
use mathlib.Core.Path.{◌≡◌, subst}
use Rattle.std.specs.Prelude.{Ok}
use Rattle.framing.specs.Requested.{Requested}
use Rattle.hallrender.specs.RunResults.{Handled}
use Rattle.hallrender.proofs.Handling.{frame_handled, plain_handled}
use Rattle.hallrender.proofs.Program.handle.Goals as goal

pub returns-in-Frame : goal.returns-in-Frame
returns-in-Frame c =
    let h = c.in-Frame.header in
    let e : h.rec ≡ c.args.rec = subst (λ x. Requested c.args.rec (Ok x)) c.in-Frame.is c.in_ok-header.ensures in
    subst (λ r. Handled r c.frame.new.body c.args.self.now c.frame.new.self c.frame.result) e (frame_handled h.rec _ _ _ _ h.laid c.frame.ensures)

pub returns-in-Plain : goal.returns-in-Plain
returns-in-Plain c =
    let e = subst (λ x. Requested c.args.rec (Ok x)) c.in-Plain.is c.in_ok-header.ensures in
    plain_handled c.args.rec _ _ _ c.in-Plain.call e.0 e.1 c.plain.ensures
