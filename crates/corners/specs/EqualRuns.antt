-- Speakers in order along one axis. Document 01, item 4: "lower and upper layer, front and rear row in each, left and right in each row; a missing side is filled". Sorted by
-- (y, z, x), a layer, a row and a side are runs of neighbouring places of the arrays, from a first index up to an end, and what a walk over the runs finds is the end that
-- specs/Choice chooses. Assumes nothing.
use Rattle.std.specs.Prelude.{ℕ, ◌≤◌, ◌<◌, ◌≡◌, ◌⊎◌, Bool, T, Float}
use mathlib.Core.List.{List, Memᴰ}
use Rattle.std.specs.Float.Ieee.{le}
use Rattle.ieee.specs.Units.{F32}
use Rattle.corners.specs.Choice.{first, end, flank}
use Rattle.corners.specs.declared.Ends.{Ends}
use Rattle.corners.specs.Found.{side_of}

-- the members of l are the channels at the indexes from a up to b
pub record Members (channel : ℕ → ℕ) (a b : ℕ) (l : List ℕ) : Type 0 where
  pub into : (i : ℕ) → a ≤ i → i < b → Memᴰ (channel i) l
  pub out : (k : ℕ) → Memᴰ k l → (i : ℕ) × (a ≤ i) × (i < b) × (k ≡ channel i)

-- from a up to b the coordinates c are finite and rise, and e gives the end of each run of equal ones
pub record Runs (c : ℕ → Float) (e : ℕ → ℕ) (a b : ℕ) : Type 0 where
  pub fine : (i : ℕ) → a ≤ i → i < b → F32 (c i)
  pub rising : (i j : ℕ) → a ≤ i → i ≤ j → j < b → T (le (c i) (c j))
  -- a run ends after its speaker, and not after b
  pub further : (i : ℕ) → a ≤ i → i < b → i < e i
  pub inside : (i : ℕ) → a ≤ i → i < b → e i ≤ b
  -- up to its end the coordinates do not rise, so they are equal; from there on they are greater
  pub equal : (i j : ℕ) → a ≤ i → i ≤ j → j < e i → i < b → T (le (c j) (c i))
  pub beyond : (i j : ℕ) → a ≤ i → e i ≤ j → i < b → j < b → T (le (c j) (c i)) → ⊥

-- the channels stand at the coordinates c
abbrev pub Along : (ℕ → Float) → ℕ → ℕ → (ℕ → ℕ) → (ℕ → Float) → Type 0
Along c a b channel C = (i : ℕ) → a ≤ i → i < b → c i ≡ C (channel i)

-- what a walk knows at index i: all before it are up to v, a run starts there, and the run before it starts at low
pub record LastRun (c : ℕ → Float) (e : ℕ → ℕ) (a low i : ℕ) : Type 0 where
  pub from : a ≤ low
  pub less : low < i
  pub next : e low ≡ i
  pub start : (j : ℕ) → a ≤ j → j < low → T (le (c low) (c j)) → ⊥

pub record Walked (c : ℕ → Float) (e : ℕ → ℕ) (a b : ℕ) (v : Float) (low i : ℕ) : Type 0 where
  pub from : a ≤ i
  pub to : i ≤ b
  pub up : (j : ℕ) → a ≤ j → j < i → T (le (c j) v)
  pub start : (j : ℕ) → a ≤ j → j < i → i < b → T (le (c i) (c j)) → ⊥
  pub last : ((i ≡ a) × (low ≡ a)) ⊎ LastRun c e a low i

-- r is where the walk stops: the run at its high end is beyond v, or there is none
pub record StopsAt (c : ℕ → Float) (e : ℕ → ℕ) (a b : ℕ) (v : Float) (r : Ends) : Type 0 where
  pub walked : Walked c e a b v r.low r.high
  pub stop : r.high < b → T (le (c r.high) v) → ⊥

-- r is where the two ends about v begin: for any channels at the coordinates c, the run there is the end of the choice
pub record EndsAt (c : ℕ → Float) (e : ℕ → ℕ) (a b : ℕ) (v : Float) (r : Ends) : Type 0 where
  pub from : (high : Bool) → a ≤ side_of high r
  pub to : (high : Bool) → side_of high r < b
  pub is : (channel : ℕ → ℕ) (C : ℕ → Float) (l : List ℕ) → Along c a b channel C → Members channel a b l → (high : Bool) →
      Members channel (side_of high r) (e (side_of high r)) (end high C v l)

-- r is where the two sides of a row are: for any channels at the coordinates c, the channel there is the side of the choice
pub record SidesAt (c : ℕ → Float) (a b : ℕ) (v : Float) (r : Ends) : Type 0 where
  pub from : (right : Bool) → a ≤ side_of right r
  pub to : (right : Bool) → side_of right r < b
  pub is : (channel : ℕ → ℕ) (C : ℕ → Float) (l : List ℕ) → Along c a b channel C → Members channel a b l → (right : Bool) →
      first (flank right C v l) ≡ channel (side_of right r)
