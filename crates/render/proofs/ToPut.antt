-- A loop that puts terms: once what is left is put, the whole is. Assumes nothing.
use mathlib.Core.Path.{◌≡◌}
use mathlib.Core.List.{List, [], ◌++◌}
use Prim.Native.Nat.{ℕ}
use Rattle.render.specs.declared.lists.Fed.{Fed}
use Rattle.render.specs.declared.lists.Lists.{Lists}
use Rattle.render.specs.Listed.{Sized, Grown}
use Rattle.render.proofs.Grown.{grown_none, grown_then, grown_as}

-- of `whole`, which is put from `before` on, `left` is still to put at `now`
pub record ToPut (left whole : ℕ → List Fed) (before now : Lists) : Type 0 where
  pub sized : Sized now
  pub then : (after : Lists) → Grown left now after → Grown whole before after

-- all of it, in these or other words
pub to_put_all : {left whole : ℕ → List Fed} {a : Lists} → Sized a → ((k : ℕ) → left k ≡ whole k) → ToPut left whole a a
to_put_all s e = record { sized = s; then = λ b g. grown_as e g }

-- f is put of it
pub to_put_then : {f left rest whole : ℕ → List Fed} {a b c : Lists} → ((k : ℕ) → f k ++ rest k ≡ left k) → Grown f b c → ToPut left whole a b → ToPut rest whole a c
to_put_then e p t = record { sized = p.sized; then = λ d g. t.then d (grown_as e (grown_then p g)) }

-- nothing is left
pub to_put_none : {left whole : ℕ → List Fed} {a b : Lists} → ((k : ℕ) → left k ≡ []) → ToPut left whole a b → Grown whole a b
to_put_none {b} e t = t.then b (grown_none t.sized e)
