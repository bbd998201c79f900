-- A hall of the code is one that may be panned in. Assumes nothing.
use mathlib.Core.Path.{sym, subst}
use Prim.Native.Nat.{ℕ}
use Rattle.vectors.specs.declared.Vec3.{Vec3}
use Rattle.corners.specs.Table.{Table}
use Rattle.panning.specs.Speakers.{full_range}
use Rattle.panning.specs.Setup.{HallFits}
use Rattle.panning.specs.Hall.{setup_of}
use Rattle.panning.specs.declared.hall.Hall.{Hall}

pub fits : (h : Hall) → HallFits (setup_of h)
fits h = record { layout = h.known; table = subst (λ (sp : ℕ → Vec3). Table sp full_range) (sym h.placed) h.table }
