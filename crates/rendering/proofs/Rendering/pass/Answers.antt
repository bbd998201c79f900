-- `pass`: rows in the hall, low-pass and the clock. Assumes nothing.
use mathlib.Core.Path.{◌≡◌, subst}
use lib.ListN.{length}
use native.Mathlib.Omega.{arith}
use Rattle.panning.specs.Setup.{Setup}
use Rattle.render.specs.Run.{Passed}
use Rattle.store.specs.Layout.{setup_in}
use Rattle.chunk.specs.ChunkRows.{chunk_moment}
use Rattle.rendering.specs.Pass.{frame_here}
use Rattle.rendering.proofs.MixedMoments.{Full, same_heard, waits}
use Rattle.rendering.proofs.Rendering.pass.Goals as goal

pub returns-clause-waits : goal.returns-clause-waits
returns-clause-waits c =
    let w = c.args.self in
    let i = c.args.input in
    let mx = c.mix in
    -- tables have their full length
    let m = w.renderer.state in
    let g = c.well_formed.0.1.1.0.1.1.1.1.1.1.1.0.1.1.1.1.1.1.1.1 in
    let codes : length m.codes ≡ 18 = g.0.1.0.1 in
    let gains : length m.gains ≡ 18 = g.1.0.1.0.1 in
    let sources : length m.sources ≡ 16 = g.1.1.1.0.1.0.1 in
    let p = c.requires.0 in
    let full : Full m i.objects = record { codes = omega (arith, p.beds); gains = omega (arith, p.beds); sources = omega (arith, i.few) } in
    λ rate us b e. waits (frame_here rate us i.codes.list.now i.objects i.pcm.now i.span.frame) i.span.first i.span.count w b
    (chunk_moment (setup_in b) m i.objects i.codes.list.now i.pcm.now i.span.frame)
    (same_heard rate us i.codes.list.now i.pcm.now i.objects i.span.frame w.renderer b full p.dynamic) mx.new.rows mx.new.filter
    (subst (λ (h : Setup). Passed (chunk_moment h m i.objects i.codes.list.now i.pcm.now i.span.frame) w.renderer.filter i.span.first i.span.count mx.new.rows mx.new.filter) e
    mx.ensures.passed)
    c.settle.ensures
