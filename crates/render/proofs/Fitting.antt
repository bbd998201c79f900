-- Lists of which nothing is said: full ones fit whatever sounds, and those that a frame starts with have room. Assumes nothing.
use mathlib.Core.Path.{◌≡◌, refl}
use mathlib.Core.Bool.{true}
use mathlib.Core.List.{List}
use Prim.Native.Nat.{ℕ, zero, suc}
use native.Mathlib.Omega.{arith}
use lib.ListN.{get_or, replicate}
use Rattle.panning.specs.Setup.{Setup}
use Rattle.rules.specs.Leaves.{Source, Bed}
use Rattle.render.specs.declared.lists.Lists.{Lists}
use Rattle.render.specs.declared.lists.TheConstants.{NO_LISTS}
use Rattle.render.specs.Listed.{Sized, ListsFit}

-- of full lists nothing is said
pub full_fits : (h : Setup) (codes : List ℕ) (beds : List Bed) (objects : List Source) {l : Lists} → Sized l → l.full ≡ true → ListsFit h codes beds objects l
full_fits h codes beds objects s f = record { sized = s; lists = λ e. cc }

-- n counts of nothing: each of them, and what is read past them
none_counted : (n c : ℕ) → get_or {A = ℕ} (replicate n 0) c 0 ≡ 0
none_counted zero c = refl
none_counted (suc n) zero = refl
none_counted (suc n) (suc c) = none_counted n c

-- the lists of `NO_LISTS` are empty
pub no_lists_sized : Sized NO_LISTS
no_lists_sized = record { channels = refl; terms = refl; room = λ c. omega (arith, none_counted 12 c) }
