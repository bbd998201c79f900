-- `frame`: the header's limits keep the body within what is lent. Assumes nothing.
use Rattle.std.proofs.lemmas.Result.{err_from_is_err_and}
use Rattle.hallrender.proofs.Handling.{bad_alone, framed}
use native.Mathlib.Omega.{arith}
use Prim.Native.Nat.{◌+◌, ◌-◌}
use mathlib.Core.Path.{◌≡◌, refl, ◌∙◌}
use lib.ListN.{length, take}
use lib.Seq.{length-take-le}
use borrow.Author.Rules.{rules}
use Rattle.hallrender.proofs.Program.frame.Goals as goal

pub returns-in_err-unpack : goal.returns-in_err-unpack
returns-in_err-unpack c =
    let p = err_from_is_err_and c.from_residual.result c.from_residual.ensures.1 in
    rw p.1 (
      bad_alone _ _ c.unpack.new.pcm _ c.unpack.result
          (length-take-le _ _ (search rules) ∙ c.pcm_bytes-n.ensures.0) c.in_err-unpack.was c.unpack.ensures,
      record { block = refl; output = refl },
    )

pub returns : goal.returns
returns c =
    let m = c.metadata_bytes-m in
    let n = c.pcm_bytes-n in
    let size = m.result + c.record_bytes.result in
    let w : length (take n.result c.args.pcm.now) ≡ n.result = length-take-le n.result c.args.pcm.now (search rules) in
    framed c.args.header.rec _ c.unpack.new.pcm _ _ _ m.result n.result (size - m.result) _ c.unpack.result
    m.ensures.0 n.ensures.0 c.args.header.laid (omega (arith, c.record_bytes.ensures.0))
    w (c.unpack.auto.pcm ∙ w) c.in_ok-unpack.was c.unpack.ensures c.push.ensures
