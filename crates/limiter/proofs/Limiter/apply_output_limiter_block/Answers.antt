-- `limiter::Limiter::apply_output_limiter_block` meets its contract. Assumes nothing.
use native.Mathlib.Omega.{arith}
use mathlib.Core.Path.{◌≡◌, ap, ◌∙◌}
use mathlib.Core.List.{List}
use lib.Ieee.{Float}
use Rattle.limiter.specs.Limiter.{0·0, lowered, grown, block_peak, block_gain, scaled_block}
use Rattle.limiter.specs.ChannelPlaces.{channels, channels_at, with_channels}
use Rattle.limiter.proofs.Blocks.{channels_back}
use Rattle.limiter.proofs.Limiter.apply_output_limiter_block.Goals as goal

pub returns : goal.returns
returns c =
    let a = c.args in
    let low = c.lower-scaling in
    let top = c.block_peak-peak in
    let load = c.load_block in
    let n = a.taken.samples in
    let s = a.places.now in
    let here = a.taken.present.now in
    let cs = channels_at here n s 0 in
    let whole = (rw c.unwrap.ensures at c.as_array.ensures.cases).same in
    let e : channels here n load.new.block ≡ cs = ap (channels here n) (rw whole at load.ensures) ∙ channels_back here n s 0 _ (omega arith) (omega arith) in
    let f : low.result.gain ≡ block_gain a.self.gain cs = low.ensures ∙ ap (λ (p : Float). lowered p a.self.gain) (top.ensures ∙ ap (block_peak 0·0) e) in
    record {
      gain = c.grow-next.ensures ∙ ap (grown n a.rate) f;
      meters = λ i. record { peak = (c.meters.ensures.0 ∙ top.ensures ∙ ap (block_peak 0·0) e) i; gain = (c.meters.ensures.1 ∙ f) i };
      samples = c.store_block.ensures ∙ ap (λ (ds : List (List Float)). with_channels (scaled_block low.result.gain ds) a.step a.to a.out.now) e
          ∙ ap (λ (g : Float). with_channels (scaled_block g cs) a.step a.to a.out.now) f;
    }
