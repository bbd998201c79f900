-- The rates that are accepted. Document 02, R-7: "Accept every whole rate from 8,000 to 192,000". Assumes nothing.
use Rattle.std.specs.Prelude.{ℕ, ◌≤◌, Bool, ◌&&◌, leb}

abbrev pub lowest : ℕ
lowest = 8000

abbrev pub highest : ℕ
highest = 192000

pub record Listed (rate : ℕ) : Type 0 where
  pub low : lowest ≤ rate
  pub high : rate ≤ highest

-- the same as a test
abbrev pub listed : ℕ → Bool
listed rate = leb lowest rate && leb rate highest
