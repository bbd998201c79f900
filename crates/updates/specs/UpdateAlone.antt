-- R-11: an update takes effect beside a hold as without it. Two states that are alike but for the marks and the place of one object are so once it is applied. Assumes nothing.
use Rattle.std.specs.Prelude.{ℕ}
use Rattle.timed.specs.Alone.{AlikeBut}
use Rattle.timed.specs.State.{Timed}
use Rattle.updates.specs.Said.{Update}
use Rattle.updates.specs.Applied.{applied}

abbrev pub UpdateAlone : Type 1
UpdateAlone = (apart : Type 0) (n d : ℕ) (u : Update) (a b : Timed) → AlikeBut apart d a b → AlikeBut apart d (applied n u a) (applied n u b)
