-- `panning::halls::marks` meets its contract: the rear pair and the top are there, or not. Assumes nothing.
use Rattle.panning.proofs.Setup.{marks_are}
use Rattle.panning.proofs.halls.marks.Goals as goal

pub returns : goal.returns
returns c = marks_are c.args.layout c.requires
