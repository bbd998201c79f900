-- Rows written into bytes: one channel more, or none left. Assumes nothing.
use mathlib.Core.Path.{◌≡◌, sym, ap, ap₂, ◌∙◌}
use mathlib.Core.Bool.{Bool, true, false, cond}
use mathlib.Core.List.{List, [], ◌∷◌}
use Prim.Native.Nat.{ℕ, ◌+◌, ◌-◌, ◌*◌, ◌<◌, ◌≤◌}
use native.Mathlib.Omega.{arith}
use native.Mathlib.Nat.{le_of_lt, not-suc-le-zero}
use borrow.Rule.Slice.PartMut.{put_mid}
use lib.ListN.{length, get_or, take, drop}
use lib.Seq.{get_or-drop, length-take-le}
use lib.Ieee.{Float}
use Rattle.ieee.specs.Numbers.{1·0f}
use Rattle.ieee.proofs.Theorems.{one_bits}
use Rattle.limiter.specs.ChannelPlaces.{channels, with_floats, with_channels}
use Rattle.limiter.specs.Limiter.{scaled}
use Rattle.limiter.proofs.Theorems.{channel, channels_more, length_channels, written_more, store_part, scaled_one}
use Rattle.render.specs.MixedRows.{AreFloats}

-- no channel is left
pub channels_done : (to : ℕ) (here : List Bool) (k : ℕ) (xs : List Float) (s : List ℕ) {end : List ℕ} → length here ≤ 0
    → with_channels (channels here k xs) 256 to s ≡ end → s ≡ end
unfolding channels with_channels
channels_done to [] k xs s h q = q
channels_done to (b ∷ here) k xs s h q = absurd (not-suc-le-zero h)

-- channel c, from its place behind the pending samples on
module _ (here : List Bool) (c k pending : ℕ) (xs : List Float) (s : List ℕ) {t : List ℕ} (p : t ≡ with_channels (channels (take c here) k xs) 256 (4 * pending) s)
    (h : c < length here) where
  row_more : with_channels (channels (take (c + 1) here) k xs) 256 (4 * pending) s ≡ with_floats t (256 * c + 4 * pending) (channel here c k xs)
  row_more =
      let cs = channels (take c here) k xs in
      let ys = channel here c k xs in
      ap (λ (ds : List (List Float)). with_channels ds 256 (4 * pending) s) (channels_more here c k xs h)
      ∙ written_more cs ys 256 (4 * pending) s
      ∙ ap₂ (λ (u : List ℕ) (n : ℕ). with_floats u (256 * n + 4 * pending) ys) (sym p) (length_channels (take c here) k xs ∙ length-take-le c here (le_of_lt h))

  -- written by `scale_slice_into`, times 1
  pub channel_step : (at : ℕ) (list : List Float) (z : List ℕ) → at ≡ 256 * c + 4 * pending → list ≡ xs → AreFloats list → get_or here c false ≡ true
      → 64 * c + k ≤ length list → at + 4 * k ≤ length t
      → z ≡ with_floats (take (at + 4 * k - at) (drop at t)) 0 (scaled 1·0f (take (64 * c + k - 64 * c) (drop (64 * c) list)))
      → put_mid at (at + 4 * k - at) t z ≡ with_channels (channels (take (c + 1) here) k xs) 256 (4 * pending) s
  channel_step at list z place same fine e f g q =
      let w : 64 * c + k - 64 * c ≡ k = omega arith in
      store_part 1·0f k (64 * c) at list t z f g q
      ∙ ap (λ (x : Float). with_floats t at (scaled x (take (64 * c + k - 64 * c) (drop (64 * c) list)))) one_bits
      ∙ ap (with_floats t at) (scaled_one (64 * c + k - 64 * c) (drop (64 * c) list) (λ i. rw get_or-drop (fine (64 * c + i))))
      ∙ ap₂ (λ (n : ℕ) (l : List Float). with_floats t at (take n (drop (64 * c) l))) w same
      ∙ ap₂ (λ (n : ℕ) (b : Bool). with_floats t n (cond b (take k (drop (64 * c) xs)) [])) place (sym e)
      ∙ sym row_more

  -- of a channel that is not there nothing is written
  pub channel_skip : get_or here c false ≡ false → t ≡ with_channels (channels (take (c + 1) here) k xs) 256 (4 * pending) s
  channel_skip e = ap (λ (b : Bool). with_floats t (256 * c + 4 * pending) (cond b (take k (drop (64 * c) xs)) [])) (sym e) ∙ sym row_more
