-- The marks of a hall: they tell which channels it has, and its speakers one by one. Assumes nothing.
use mathlib.Core.Logic.{◌⊎◌, inl, inr}
use mathlib.Core.Path.{◌≡◌, refl, ap, fun_ext, ◌∙◌}
use mathlib.Core.Bool.{Bool, true, false, cond, not, ◌&&◌}
use mathlib.Core.List.{List, [], ◌∷◌}
use Prim.Native.Nat.{ℕ, zero, suc}
use borrow.Author.Tests.{ne_eqb}
use lib.Dec.{eqb}
use lib.ListN.{get_or}
use Rattle.panning.specs.Choice.{keep}
use Rattle.panning.specs.Speakers.{full_range}
use Rattle.panning.specs.Setup.{present, speakers_in}
use Rattle.panning.specs.declared.hall.Hall.{Hall}
use Rattle.panning.proofs.Theorems.{mark_is}
use Rattle.render.specs.MixedRows.{speakers_marked}

pub marks_tell : (hall : Hall) → (λ k. get_or hall.present k false) ≡ present hall.layout
marks_tell hall = fun_ext (λ k. ap (λ (ms : List Bool). get_or ms k false) hall.marked ∙ mark_is hall.layout k)

-- the speakers that are marked are those of the layout
pub speakers_marked_are : (hall : Hall) → speakers_marked hall.present ≡ speakers_in hall.layout
unfolding speakers_in
speakers_marked_are hall = ap (λ (here : ℕ → Bool). keep here full_range) (marks_tell hall)

-- ---- the marked speakers from channel c on

abbrev pub sounds_on : List Bool → ℕ → Bool
sounds_on ms c = not (eqb c 3) && get_or ms c false

pub sounds : (ms : List Bool) (c : ℕ) → (c ≡ 3 → ⊥) → get_or ms c false ≡ true → sounds_on ms c ≡ true
sounds ms c n p = rw (ne_eqb c 3 n, p)

pub rests : (ms : List Bool) (c : ℕ) → (c ≡ 3) ⊎ (get_or ms c false ≡ false) → sounds_on ms c ≡ false
rests ms c (inl e) = rw e
rests ms c (inr p) = rw p (and_false (not (eqb c 3)))
  where
    and_false : (b : Bool) → (b && false) ≡ false
    and_false true = refl
    and_false false = refl

unfoldable pub marked_from : List Bool → ℕ → ℕ → List ℕ
marked_from ms c zero = []
marked_from ms c (suc n) = cond (sounds_on ms c) (c ∷ marked_from ms (suc c) n) (marked_from ms (suc c) n)

pub all_marked : (ms : List Bool) → marked_from ms 0 12 ≡ speakers_marked ms
unfolding keep marked_from
all_marked ms = refl
