-- `put_words`: one more word. Assumes nothing.
use Rattle.std.proofs.Common.{◌≡◌, ◌∙◌, ◌+◌, ◌*◌, ◌<◌, ◌≤◌, ◌++◌, ◌∷◌, [], ℕ, List, length, get_or, take, sym, ap, ap₂, add-one, arith}
use lib.ListN.{length-take}
use lib.Seq.{take-suc, take_all}
use Rattle.words.specs.Words.{with_word, with_words}
use Rattle.words.proofs.Runs.{write_more}
use Rattle.words.proofs.put_words.Goals as goal

pub loop-i-preserved : goal.loop-i-preserved
loop-i-preserved c =
    let ws = c.args.ws.now in
    let s0 = c.args.s.now in
    let at = c.args.at in
    let i = c.loop-i.i in
    let h : i < length ws = omega arith in
    let k : length (take i ws) ≡ i = simp length-take (omega arith) in
    let t : take (i + 1) ws ≡ take i ws ++ (get_or ws i 0 ∷ []) = rw add-one (take-suc ws i 0 h) in (
      omega arith,
      c.put_u32.ensures
          ∙ ap₂ (λ (b : List ℕ) (j : ℕ). with_word b (at + 4 * j) (get_or ws i 0)) c.loop-i.invariant.1 (sym k) ∙ write_more s0 at (take i ws) (get_or ws i 0)
          ∙ ap (with_words s0 at) (sym t),
    )

pub returns : goal.returns
returns c =
    let h : length c.args.ws.now ≤ c.loop-i.i = omega arith in
    c.loop-i.invariant.1 ∙ ap (with_words c.args.s.now c.args.at) (take_all c.loop-i.i c.args.ws.now h)
