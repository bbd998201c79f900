-- `filter_bass`: the part that was lent comes back filtered.
use mathlib.Core.Path.{◌≡◌, ap, ◌∙◌}
use native.Mathlib.Omega.{arith}
use Prim.Native.Nat.{ℕ, ◌+◌, ◌-◌}
use lib.ListN.{take, drop}
use Rattle.mixing.proofs.Parts.{part_back}
use Rattle.lowpass.specs.Lowpass.{filtered, after_all}
use Rattle.render.proofs.pass.filter_bass.Goals as goal

pub returns : goal.returns
returns c =
    let a = c.args in
    let p = c.process_in_place in
    let e : 192 + a.k - 192 ≡ a.k = omega arith in
    let after = p.ensures.0 ∙ ap (λ (n : ℕ). after_all a.filter.now (take n (drop 192 a.rows.now))) e in
    (after, part_back (filtered a.filter.now) 192 a.k a.rows.now p.new.samples p.ensures.1)
