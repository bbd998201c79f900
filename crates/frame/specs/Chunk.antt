-- A reader may skip this file: a chunk: samples within which no update falls and no slot starts; a slot, a limiter block or the frame may end with it. Assumes nothing.
use Rattle.std.specs.Prelude.{ℕ, zero, suc, List, [], ◌∷◌}
use Rattle.rules.specs.Leaves.{Leaves}
use Rattle.rules.specs.Mix.{Moment}
use Rattle.rules.specs.Samples.{Frame, State, After, sounding, moment, settled, closing}
use Rattle.render.specs.Run.{filter_after, row_run}

-- the moments of the n samples from t on
abbrev pub moments : (ℕ → Moment) → ℕ → ℕ → List Moment
moments m t zero = []
moments m t (suc n) = m t ∷ moments m (suc t) n

module _ (L : Leaves) where
  -- what the n samples from t on leave and give out, once the updates at t are applied and the slot has started: `sampled` of the rules, n times
  unfoldable pub chunk : Frame L.Update → ℕ → ℕ → State L → After L
  chunk f n t r =
      let m : ℕ → Moment = λ t. moment L f t r.setup r.meta in
      closing L (settled L n (filter_after m r.filter t n) (sounding r.setup (λ c. row_run m r.filter c t n)) r) (moments m t n)
