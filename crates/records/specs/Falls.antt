-- Where an update falls. R-12: "A kind 9 update at or past the frame's end waits"; "in a frame of no samples none of kind 9 falls"; "Kind 1 is dropped as before". Assumes nothing.
use Rattle.std.specs.Prelude.{ℕ, Bool, not, ◌&&◌, cond, List, eqb, leb}
use Rattle.records.specs.Runs.{some}
use Rattle.fields.specs.Update.{is_far, offset}

-- past every frame: the offset of an update that only waits
abbrev pub no_sample : ℕ
no_sample = 4294967295

-- the update at u of m, in a frame of n samples
unfoldable pub offset_in : ℕ → List ℕ → ℕ → ℕ
offset_in n m u = cond (is_far m u && leb n (offset m u)) no_sample (offset m u)

-- of the offsets f 0 .. f (n - 1): whether some update falls or is dropped, and whether some only waits
unfoldable pub falls_in : (ℕ → ℕ) → ℕ → Bool
unfolding some
falls_in f n = some (λ i. not (eqb (f i) no_sample)) n

unfoldable pub waits_in : (ℕ → ℕ) → ℕ → Bool
unfolding some
waits_in f n = some (λ i. eqb (f i) no_sample) n
