-- The planes of the show archive. Document 02, R-10: "For N f32 samples of twelve channels, channel after channel, write first the least significant byte of every sample, channel
-- by channel, then the next byte of each, to the most significant." So byte p x 12 N + k of the planes is byte 4 k + p of the samples, k < 12 N, p < 4. Assumes nothing.
use Rattle.std.specs.Prelude.{ℕ, ◌+◌, ◌*◌, List, [], ◌∷◌, ◌++◌, get_or, map}
use Rattle.std.specs.List.{range_with_len, flat_map}

-- byte p of each of c samples
abbrev pub plane : List ℕ → ℕ → ℕ → List ℕ
plane s c p = map (λ k. get_or s (4 * k + p) 0) (range_with_len 0 c)

-- the planes of c samples, the least significant first
abbrev pub planes : ℕ → List ℕ → List ℕ
planes c s = plane s c 0 ++ (plane s c 1 ++ (plane s c 2 ++ plane s c 3))

-- sample k of the c in planes: a byte of each
abbrev pub sample_of : ℕ → List ℕ → ℕ → List ℕ
sample_of c s k = get_or s k 0 ∷ get_or s (c + k) 0 ∷ get_or s (2 * c + k) 0 ∷ get_or s (3 * c + k) 0 ∷ []

-- "The inverse returns the same samples": the theorems `back` and `forth`
abbrev pub samples_of : ℕ → List ℕ → List ℕ
samples_of c s = flat_map (sample_of c s) (range_with_len 0 c)
