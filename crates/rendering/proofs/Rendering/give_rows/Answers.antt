-- `give_rows`: the limiter over the rows. Assumes nothing.
use Prim.Native.Nat.{ℕ, ◌*◌}
use mathlib.Core.Path.{◌≡◌, refl, ap, ◌∙◌}
use lib.Dec.{T}
use lib.ListN.{get_or}
use lib.Ieee.{Float, nan, binary32, fits}
use borrow.Author.Rules.{rules}
use Rattle.limiter.specs.Limiter.{0·0, peak, lowered, grown, block_peak, block_gain, scaled_block}
use Rattle.limiter.specs.Meters.{meets}
use Rattle.limiter.specs.ChannelPlaces.{with_channels}
use Rattle.store.specs.Steps.{emptied_by}
use Rattle.rendering.specs.Give.{row_channels}
use Rattle.rendering.proofs.RowsPeak.{rows_peak}
use Rattle.rendering.proofs.Rendering.give_rows.Goals as goal
use Rattle.rendering.proofs.Rendering.give_rows.Goals.{After-as_slice-samples}

-- the rows are f32s, as each slice is
fit : (r : After-as_slice-samples) → (i : ℕ) → T (fits binary32 (get_or r.args.rows.now i nan))
fit r = search rules

pub returns : goal.returns
returns c =
    let a = c.args in
    let g = a.self.renderer.limiter.gain in
    let cs = row_channels a.present.now a.rows.now in
    let fit = fit (goal.at.returns c).After-as_slice-samples in
    let top = c.max_abs_slice-peak in
    let low = c.lower-lowered in
    let met = c.meters-met in
    let e : top.result ≡ block_peak 0·0 cs = top.ensures.0 ∙ ap peak c.as_slice-samples.ensures ∙ rows_peak a.present.now a.rows.now c.told-present c.told-rows fit c.requires.1 in
    let f : low.result.gain ≡ block_gain g cs = low.ensures ∙ ap (λ (p : Float). lowered p g) e in
    record {
      fit = fit;
      renderer = c.empty-self.ensures
          ∙ ap (λ (x : Float). emptied_by a.self.renderer (record { gain = x })) (c.grow-grown.ensures ∙ ap (grown 64 a.self.renderer.rate) f);
      given = c.store_block.ensures
          ∙ ap (λ (x : Float). with_channels (scaled_block x cs) (4 * a.stride) (4 * a.self.ready) a.out.now) f;
      ready = refl;
      meters = c.meet-self.ensures ∙ ap (meets a.self.meters) (λ i. record { peak = (met.ensures.0 ∙ e) i; gain = (met.ensures.1 ∙ f) i });
    }
