-- When a push is accepted: where no reason of "Who can cause a refusal" is there. Assumes nothing.
use Rattle.std.specs.Prelude.{ℕ, ◌+◌, ◌*◌, ◌≤◌, ◌<◌, ◌≡◌, ◌⊎◌, true, false, List, length}
use Rattle.ieee.specs.Bounds.{All}
use Rattle.mixing.specs.FrameSamples.{all_pass}
use Rattle.beds.specs.Matching.{counted}
use Rattle.rules.specs.Leaves.{Leaves, Shape, started}
use Rattle.rules.specs.Samples.{State}
use Rattle.rules.specs.Refusals.{Args, room, sized, listed, never, none_sent}
use Rattle.rules.specs.Calls.{announced, updates_in}

-- a shape that a push of n objects and beds of these codes can be heard with: no 11, no 13, no 14
pub record Suits (n : ℕ) (codes : List ℕ) (s : Shape) : Type 0 where
  pub objects : s.objects ≡ n
  pub beds : All (λ (c : ℕ). (counted c codes ≡ 0 → ⊥) × (c ≡ 6 → ⊥)) s.beds

module _ (L : Leaves) where
  -- each field is one reason, in document 01's order, that is not there
  pub record Acceptable (r : State L) (a : Args) : Type 0 where
    pub room : room a.stride (length a.out) ≡ true
    pub sized : sized a ≡ true
    pub listed : listed a.rate ≡ true
    pub position : r.clock.position + a.samples ≤ 1099511627776
    pub laid_out : L.laid_out a.meta ≡ true
    pub in_range : L.in_range a.meta ≡ true
    pub passes : all_pass a.pcm 0 ((length a.codes + a.objects) * a.samples) ≡ true
    pub rate : (r.rate ≡ 0) ⊎ (r.rate ≡ a.rate)
    pub fits : L.fits r.clock.position a.samples r.waits a.meta ≡ true
    pub told : (started L r.meta ≡ true) ⊎ (none_sent (announced L (updates_in L r a)) a.objects a.codes (announced L (updates_in L r a)) ≡ false)
    pub some : 0 < a.samples
    pub present : started L r.meta ≡ true → Suits a.objects a.codes (L.shape r.meta)
    pub updates : All (λ (u : L.Update). (L.offset u ≡ never → ⊥) → Suits a.objects a.codes (L.sent u)) (updates_in L r a)
