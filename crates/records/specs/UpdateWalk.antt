-- A reader may skip this file: the code's way along the updates of a frame, by rising offset and at each offset in the order sent; f i is the offset of update i, of n
-- updates. "Updates are taken in stable order of sample offset" is `taken` of `rules/specs/StableOrder`. Assumes nothing.
use Rattle.std.specs.Prelude.{ℕ, zero, suc, ◌≤◌, ◌<◌, ◌≡◌, ◌&&◌, cond, ltb}

-- x where it is above t and below y, else y
unfoldable pub nearer : ℕ → ℕ → ℕ → ℕ
nearer t x y = cond (ltb t x && ltb x y) x y

-- the least of f 0 .. f (n - 1) that is above t, where it is below `end`, else `end`
unfoldable pub next_offset : (ℕ → ℕ) → ℕ → ℕ → ℕ → ℕ
next_offset f zero t end = end
next_offset f (suc n) t end = nearer t (f n) (next_offset f n t end)

-- i is the first number from `from` on at which f is t, or n where there is none
pub record FirstAt (f : ℕ → ℕ) (n t from i : ℕ) : Type 0 where
  pub after : from ≤ i
  pub within : i ≤ n
  pub here : i < n → f i ≡ t
  pub none : (k : ℕ) → from ≤ k → k < i → f k ≡ t → ⊥
