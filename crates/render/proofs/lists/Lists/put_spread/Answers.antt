-- `put_spread`: one channel more, and all of them.
use mathlib.Core.Logic.{inl, inr}
use borrow.Author.Rules.{rules}
use lib.Ieee.{of_bits}
use Rattle.render.specs.MixedRows.{speakers_marked}
use Rattle.render.proofs.Grown.{grown_none}
use Rattle.render.proofs.ToPut.{to_put_all}
use Rattle.render.proofs.FedTerms.{spread_silent}
use Rattle.render.proofs.Marks.{sounds, rests}
use Rattle.render.proofs.PutTerms.{all_speakers, put_speaker, skip_speaker, speakers_done}
use Rattle.render.proofs.lists.Lists.put_spread.Goals as goal
use Rattle.render.proofs.lists.Lists.put_spread.Goals.{then-c-ne-BASS+then-present-c, else-c-ne-BASS}
use Rattle.render.proofs.lists.Lists.put_spread.Goals.{else-c-ne-BASS-via-then-c-ne-BASS+else-present-c, else-c-ne-BASS-via-else-c-ne-BASS}

pub returns-then-gain : goal.returns-then-gain
unfolding of_bits
returns-then-gain c = let a = c.args in grown_none c.requires (λ k. spread_silent a.input (speakers_marked a.present.now) a.gain k c.if-gain.true)

pub loop-c-init : goal.loop-c-init
loop-c-init c = let a = c.args in to_put_all c.requires (all_speakers a.input a.present.now a.gain)

pub loop-c-preserved : goal.loop-c-preserved
loop-c-preserved c =
    let a = c.args in
    let l = c.loop-c in
    let ms = a.present.now in
    let i = a.input in
    elim c.if-c-ne-BASS.branch [
      | then-c-ne-BASS+then-present-c w ↦
          put_speaker i ms l.c a.gain c.loop-c-test.true (sounds ms l.c w.if-c-ne-BASS.true w.if-present-c.true) w.self-is w.put.ensures l.invariant
      | else-c-ne-BASS w ↦
          skip_speaker i ms l.c a.gain c.loop-c-test.true (rests ms l.c (elim w.else-c-ne-BASS.branch [
            | else-c-ne-BASS-via-then-c-ne-BASS+else-present-c v ↦ inr v.if-present-c.false
            | else-c-ne-BASS-via-else-c-ne-BASS v ↦ inl v.if-c-ne-BASS.false
          ])) w.self-is l.invariant
    ]

pub returns : goal.returns
returns c = let a = c.args in speakers_done a.input a.present.now c.loop-c.c a.gain (search rules) c.loop-c.invariant
