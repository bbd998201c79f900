-- `timed::state::MetadataRendererState::element_at`: the search from i on finds what the whole search finds. Assumes nothing.
use Prim.Native.Nat.{◌≤◌}
use mathlib.Core.Path.{◌≡◌}
use Rattle.timed.specs.State.{element_taken}
use Rattle.timed.proofs.state.MetadataRendererState.element_at.Given as goal

abbrev pub invariant-loop-i : goal.invariant-loop-i
invariant-loop-i l = (l.i ≤ 2) × (element_taken l.when l.self.states l.i ≡ element_taken l.when l.self.states l.initial.i)

abbrev pub decreases-loop-i : goal.decreases-loop-i
decreases-loop-i l = l.i
