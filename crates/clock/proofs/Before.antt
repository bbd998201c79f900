-- What `<` between two offsets says of their numbers. Assumes nothing.
use borrow.Author.Rules.{rules}
use Rattle.std.specs.Ordering.{is_lt, nat_cmp}
use Prim.Native.Nat.{ℕ, ◌≤◌, ◌<◌}
use mathlib.Core.Path.{◌≡◌}
use mathlib.Core.Bool.{Bool, true, false}

pub more_left : (t end : ℕ) (b : Bool) → b ≡ is_lt (nat_cmp t end) → b ≡ true → t < end
more_left t end b e f = search rules

pub none_left : (t end : ℕ) (b : Bool) → b ≡ is_lt (nat_cmp t end) → b ≡ false → end ≤ t
none_left t end b e f = search rules
