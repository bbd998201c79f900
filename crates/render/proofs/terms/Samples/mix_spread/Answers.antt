-- `mix_spread`: one channel more, and all of them.
use mathlib.Core.Logic.{inl, inr}
use mathlib.Core.Path.{sym, ap, ◌∙◌}
use mathlib.Core.List.{List}
use Prim.Native.Nat.{ℕ}
use borrow.Author.Rules.{rules}
use lib.Ieee.{of_bits}
use Rattle.panning.specs.Terms.{spread}
use Rattle.render.specs.MixedRows.{speakers_marked, mixed_terms}
use Rattle.render.proofs.Marks.{sounds, rests, all_marked}
use Rattle.render.proofs.MixedTerms.{spread_none, spread_step, spread_skip, spread_done}
use Rattle.render.proofs.terms.Samples.mix_spread.Goals as goal
use Rattle.render.proofs.terms.Samples.mix_spread.Goals.{then-c-ne-BASS+then-present-c, else-c-ne-BASS}
use Rattle.render.proofs.terms.Samples.mix_spread.Goals.{else-c-ne-BASS-via-then-c-ne-BASS+else-present-c, else-c-ne-BASS-via-else-c-ne-BASS}

pub returns-then-gain : goal.returns-then-gain
unfolding of_bits
returns-then-gain c = let a = c.args in sym (spread_none a.self.list.now (speakers_marked a.present.now) a.gain a.rows.now c.if-gain.true)

pub loop-c-init : goal.loop-c-init
loop-c-init c =
    let a = c.args in
    ap (λ (ks : List ℕ). mixed_terms a.self.list.now (spread ks a.gain) a.rows.now) (all_marked a.present.now)

pub loop-c-preserved : goal.loop-c-preserved
loop-c-preserved c =
    let a = c.args in
    let l = c.loop-c in
    let xs = a.self.list.now in
    let ms = a.present.now in
    elim c.if-c-ne-BASS.branch [
      | then-c-ne-BASS+then-present-c w ↦
          spread_step xs ms l.c a.gain l.rows c.loop-c-test.true (sounds ms l.c w.if-c-ne-BASS.true w.if-present-c.true) (w.rows-is ∙ w.mix_term.ensures) l.invariant
      | else-c-ne-BASS w ↦
          spread_skip xs ms l.c a.gain l.rows c.loop-c-test.true (rests ms l.c (elim w.else-c-ne-BASS.branch [
            | else-c-ne-BASS-via-then-c-ne-BASS+else-present-c v ↦ inr v.if-present-c.false
            | else-c-ne-BASS-via-else-c-ne-BASS v ↦ inl v.if-c-ne-BASS.false
          ])) w.rows-is l.invariant
    ]

pub returns : goal.returns
returns c =
    let a = c.args in
    let l = c.loop-c in
    spread_done a.self.list.now a.present.now l.c a.gain l.rows (search rules) l.invariant
