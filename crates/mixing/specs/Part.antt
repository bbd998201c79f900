-- A reader may skip this file: a part of a list, changed in place. Assumes nothing.
use Rattle.std.specs.Prelude.{ℕ, List, ◌++◌, take, drop}

-- Document 01: "A mutable part from the segment's start is lent to mixing and scaling functions": the list with its n elements from b on put through f
unfoldable pub on_part : {A : Type 0} → (List A → List A) → ℕ → ℕ → List A → List A
on_part f b n os = take b os ++ (f (take n (drop b os)) ++ drop n (drop b os))
