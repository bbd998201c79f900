-- Samples of twelve channels, and what a sample may be. Assumes nothing.
use Rattle.std.specs.Prelude.{ℕ, suc, cond, List, [], ◌∷◌, ◌++◌, map, set, replicate, T, ltb, Float}
use Rattle.std.specs.Float.{binary32}
use Rattle.std.specs.Float.Ieee.{neg, le, of_bits, to_bits}
pub use Rattle.ieee.specs.Numbers.{0·0, 1·0}

-- Document 01, demand 3: "finite and from -1 to 1". No NaN and no infinity compares so.
pub record Tame (x : Float) : Type 0 where
  pub low : T (le (neg 1·0) x)
  pub high : T (le x 1·0)

-- The samples of each channel, in order. There are twelve channels; any further one is empty, and so is one that a hall lacks.
abbrev pub Channels : Type 0
Channels = ℕ → List Float

abbrev pub none : Channels
none c = []

-- first the samples of one and then of the other
abbrev pub joined : Channels → Channels → Channels
joined f g c = f c ++ g c

-- the twelve channels as a list
abbrev pub twelve : Channels → List (List Float)
twelve f = f 0 ∷ f 1 ∷ f 2 ∷ f 3 ∷ f 4 ∷ f 5 ∷ f 6 ∷ f 7 ∷ f 8 ∷ f 9 ∷ f 10 ∷ f 11 ∷ []

-- Places for samples of each channel, as bits: a block's floats may have any bits, and those that no rule sets keep them.
abbrev pub Places : Type 0
Places = ℕ → List ℕ

abbrev pub floats : Places → Channels
floats p c = map (of_bits binary32) (p c)

-- ws with the bits of xs at the places from k on
abbrev pub laid : ℕ → List Float → List ℕ → List ℕ
laid k [] ws = ws
laid k (x ∷ xs) ws = laid (suc k) xs (set ws k (to_bits binary32 x))

-- the 64 places of each channel, as making and reset leave them
abbrev pub zeros : Places
zeros c = cond (ltb c 12) (replicate 64 0) []
