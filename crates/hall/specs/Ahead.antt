-- A reader may skip this file: what a push makes of the area of what waits (R-12). Assumes nothing.
use Rattle.std.specs.Prelude.{ℕ, ◌≡◌, true, false, List, Result, Ok, Err}
use Rattle.records.specs.Runs.{each}
use Rattle.records.specs.declared.metadata.Metadata.{Metadata}
use Rattle.waits.specs.Area.{waiting_count}
use Rattle.waits.specs.Settled.{fits}
use Rattle.theorem.specs.Instance.{sent_from, ahead_at}
use Rattle.refusals.specs.declared.Refusal.{Refusal}
use Rattle.refusals.specs.declared.Refusal.TheVariants.{TooManyAhead}

-- of the area ws in a frame of n samples from `start` on, with the own records m: what waits, or 25
abbrev pub IsKept : ℕ → ℕ → List ℕ → List ℕ → Result Metadata Refusal → Type 0
IsKept start n ws m (Ok kept) = (fits start n ws m ≡ true) × (sent_from kept ≡ each (ahead_at start n ws) (waiting_count ws))
IsKept start n ws m (Err r) = (fits start n ws m ≡ false) × (r ≡ TooManyAhead)
