-- Document 02, R-4: "In the state block, an accepted push that completes no block then changes, among the places for pending samples, only those right behind each channel's old
-- ones, one for each sample brought; the others keep their bytes." A channel that the hall lacks is brought none: of that, see specs/AbsentKept. Assumes nothing.
use Rattle.std.specs.Prelude.{ℕ, ◌+◌, ◌*◌, ◌≤◌, ◌<◌, ◌≡◌, ◌⊎◌, Bool, true, List, get_or, Float}
use Rattle.std.specs.Float.{binary32}
use Rattle.std.specs.Float.Ieee.{to_bits}
use Rattle.words.specs.Words.{word}
use Rattle.formats.specs.Areas.{row_count, row_places, row_bytes}
use Rattle.panning.specs.Setup.{present}
use Rattle.rules.specs.Refusals.{Args}
use Rattle.rules.specs.Sounds.{sound_at}
use Rattle.store.specs.Layout.{places_at}
use Rattle.theorem.specs.Instance.{hall, block_decode}

-- the byte of the block at which place i of channel c starts
abbrev pub place_at : ℕ → ℕ → ℕ
place_at c i = places_at + row_bytes * c + 4 * i

-- The block b became d: of each channel that is there p samples waited, and n came, sample t of channel c being `sound c t`.
pub record Appends (here : ℕ → Bool) (p n : ℕ) (sound : ℕ → ℕ → Float) (b d : List ℕ) : Type 0 where
  -- "those right behind each channel's old ones, one for each sample brought" hold the samples
  pub new : (c t : ℕ) → c < row_count → here c ≡ true → t < n → word d (place_at c (p + t)) ≡ to_bits binary32 (sound c t)
  -- "the others keep their bytes"
  pub others : (c i k : ℕ) → c < row_count → i < row_places → k < 4 → (i < p) ⊎ (p + n ≤ i) → get_or d (place_at c i + k) 0 ≡ get_or b (place_at c i + k) 0

-- The push a, which leaves d of the block b: where it completes no block, what waited on b and what the rules let a sound like.
abbrev pub AppendsIfOpen : Args → List ℕ → List ℕ → Type 0
AppendsIfOpen a b d = let r = block_decode b in r.pending.count + a.samples < 64 → Appends (present r.setup.layout) r.pending.count a.samples (sound_at hall r a) b d
