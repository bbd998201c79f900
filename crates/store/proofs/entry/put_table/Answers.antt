-- The entries before `i` are stored. Assumes nothing.
use borrow.Author.Rules.{rules}
use mathlib.Core.Path.{◌≡◌, refl, ap, ◌∙◌}
use Prim.Native.Nat.{ℕ, ◌+◌, ◌*◌}
use native.Mathlib.Omega.{arith}
use Rattle.formats.specs.Format.{puts}
use Rattle.store.proofs.Tables.{put_next}
use Rattle.store.proofs.entry.put_table.Goals as goal

pub loop-i-init : goal.loop-i-init
unfolding puts
loop-i-init g c = refl

pub loop-i-preserved : goal.loop-i-preserved
loop-i-preserved g c =
    let t = g.T.Entry in
    let l = c.loop-i in
    let a = c.args in
    let m : a.at + 4 * c.WORDS.result * l.i ≡ a.at + 4 * (c.WORDS.result * l.i) = omega arith in
    let e : a.at + 4 * c.WORDS.result * l.i ≡ a.at + 4 * (t.format.width * l.i) = m ∙ ap (λ (w : ℕ). a.at + 4 * (w * l.i)) (c.WORDS.ensures ∙ g.met.T.Entry.width) in
    put_next t.format g.met.T.Entry.lawful c.index-xs-i.result a.s.now l.s c.put.new.s a.at l.i _ a.xs.now (search rules) e l.invariant
    c.put.ensures
