-- What the search answers, said of the spots of the grid; and what the set of the speakers that sound at a place is. Assumes nothing.
use Rattle.std.specs.Prelude.{ℕ, ◌/◌, ◌%◌, ◌^◌, ◌<◌, ◌≡◌, cond, T, Some, None}
use Rattle.vectors.specs.declared.Vec3.{Vec3}
use Rattle.panning.specs.Setup.{Setup, present, SpeakerOf}
use Rattle.finding.specs.Grid.{Spot, InGrid, Before, spot_place}
use Rattle.finding.specs.Search.{channel_sounds, mask_at, search}

-- ---- what is answered

-- at the spot s "exactly these speakers have a nonzero coefficient", and at none before it
pub record FirstSpot (h : Setup) (mask : ℕ) (s : Spot) : Type 0 where
  pub on : InGrid s
  pub exact : mask_at h (spot_place s) ≡ mask
  pub first : (t : Spot) → InGrid t → Before t s → mask_at h (spot_place t) ≡ mask → ⊥

abbrev pub NoneAt : Setup → ℕ → Type 0
NoneAt h mask = (t : Spot) → InGrid t → mask_at h (spot_place t) ≡ mask → ⊥

-- "Answer the first by y, then z, then x, each rising, or none exactly if the grid has none": the answer is the first spot's place, and there is one where there is a first spot
pub record Searched (h : Setup) (mask : ℕ) : Type 0 where
  pub found : (p : Vec3) → search h mask ≡ Some p → (s : Spot) × (p ≡ spot_place s) × FirstSpot h mask s
  pub first : (s : Spot) → FirstSpot h mask s → search h mask ≡ Some (spot_place s)
  pub none : search h mask ≡ None → NoneAt h mask
  pub nowhere : NoneAt h mask → search h mask ≡ None

-- ---- the sets that are found at places

-- "bit c for channel c"
abbrev pub mask_bit : ℕ → ℕ → ℕ
mask_bit c mask = mask / 2 ^ c % 2

-- bit c says whether channel c sounds; some channel does, and each that does is a full-range speaker of the layout
pub record SetAt (h : Setup) (p : Vec3) : Type 0 where
  pub bits : (c : ℕ) → c < 12 → mask_bit c (mask_at h p) ≡ cond (channel_sounds h p c) 1 0
  pub less : mask_at h p < 4096
  pub some : mask_at h p ≡ 0 → ⊥
  pub speakers : (c : ℕ) → T (channel_sounds h p c) → SpeakerOf h.layout c

-- "An empty mask, a mask with bit 3 or an absent speaker gives none; a mask above 4,095 does too."
pub record NeverFound (h : Setup) : Type 0 where
  pub empty : search h 0 ≡ None
  pub bass : (mask : ℕ) → mask_bit 3 mask ≡ 1 → search h mask ≡ None
  pub absent : (mask c : ℕ) → c < 12 → mask_bit c mask ≡ 1 → (T (present h.layout c) → ⊥) → search h mask ≡ None
  pub large : (mask : ℕ) → 4095 < mask → search h mask ≡ None
