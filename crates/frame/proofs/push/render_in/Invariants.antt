-- `render_in` meets its contract: the loop keeps `Running`, rows in which nothing sounds where a turn follows, and lists of what sounds, or full ones; and what is left of the
-- frame falls at each turn. Assumes nothing.
use Prim.Native.Nat.{◌-◌, ◌<◌}
use mathlib.Core.Path.{◌≡◌}
use Rattle.refusals.specs.FirstFound.{args_in}
use Rattle.render.specs.Run.{silent_rows}
use Rattle.chunk.specs.ChunkRows.{Listing}
use Rattle.panning.specs.Hall.{setup_of}
use Rattle.frame.proofs.Running.{both_sent, Running}
use Rattle.frame.proofs.push.render_in.Given as goal

abbrev pub invariant-loop-pcm : goal.invariant-loop-pcm
invariant-loop-pcm l =
    Running l.initial.state (args_in l.fn.frame l.initial.out) (both_sent l.fn.kept l.fn.frame.metadata) l.t.0 l.work l.state l.out
    × (l.end.0 ≡ l.fn.frame.n.samples)
    × (l.t.0 < l.fn.frame.n.samples → l.rows ≡ silent_rows)
    × Listing (setup_of l.fn.setup) l.work.renderer.state l.fn.frame.n.objects l.fn.frame.codes.list.now l.lists

abbrev pub decreases-loop-pcm : goal.decreases-loop-pcm
decreases-loop-pcm l = l.fn.frame.n.samples - l.t.0
