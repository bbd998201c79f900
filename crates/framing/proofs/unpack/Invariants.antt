-- `unpack`: the first k records are of PCM, and what they hold stands at the front. Assumes nothing.
use Prim.Native.Nat.{◌*◌}
use mathlib.Core.Path.{◌≡◌}
use mathlib.Core.Bool.{true}
use lib.ListN.{length, take}
use Rattle.framing.specs.Framing.{are_pcm, held_in}
use Rattle.framing.proofs.unpack.Given as goal

abbrev pub invariant-loop-k : goal.invariant-loop-k
invariant-loop-k l =
    let n = length l.initial.pcm in
    (are_pcm n l.records l.k ≡ true) × (take (36 * l.k) l.pcm ≡ held_in n l.records l.k)
