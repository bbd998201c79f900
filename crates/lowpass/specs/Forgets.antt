-- How soon a loud past leaves the low-pass, at every rate that is accepted: "once k x (floor(rate / 64) + 1) + 2 samples of size at most X have been fed in a row, every further
-- output is at most 2 X for as long as the samples stay at most X", where none before was above 2 ^ k X. So each halving of the level takes rate / 64 + 1 samples, 16 ms. Sizes are
-- whole numbers of units of 2 ^ -149. Assumes nothing.
use Rattle.std.specs.Prelude.{ℕ, ◌+◌, ◌-◌, ◌*◌, ◌/◌, ◌^◌, ◌≤◌, List, length, drop, Float}
use Rattle.ieee.specs.Units.{F32}
use Rattle.ieee.specs.Bounds.{Bounded, All}
use Rattle.lowpass.specs.Lowpass.{new, after_all}
use Rattle.lowpass.specs.Bound.{largest}

-- the last n samples; all, where there are fewer
abbrev pub latest : ℕ → List Float → List Float
latest n xs = drop (length xs - n) xs

-- as many samples as one halving takes, and as k of them take, the two before them counted in
abbrev pub halving : ℕ → ℕ
halving rate = rate / 64 + 1

abbrev pub halvings : ℕ → ℕ → ℕ
halvings rate k = k * halving rate + 2

-- samples that were at most 2 ^ k X, and have been at most X for k halvings; X is at least 2 ^ -100, and 2 ^ k X at most 2 ^ 20
pub record Subsided (rate k X : ℕ) (xs : List Float) : Type 0 where
  pub low : 2 ^ 49 ≤ X
  pub high : 2 ^ k * X ≤ 2 ^ 169
  pub past : largest xs ≤ 2 ^ k * X
  pub present : largest (latest (halvings rate k) xs) ≤ X

-- A filter of the rate that was new and has been fed xs, finite samples: if they have subsided to X, the last output, which is its y1, is finite and at most 2 X. With further
-- samples of at most X they are a list that has subsided too, so this is said of every further output.
abbrev pub Forgets : ℕ → Type 0
Forgets rate = (k X : ℕ) (xs : List Float) → All F32 xs → Subsided rate k X xs → Bounded (2 * X) (after_all (new rate) xs).y1
