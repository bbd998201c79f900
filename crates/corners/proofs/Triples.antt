-- The order of triples of floats, as `<` of the language has it, is that of the speakers. Assumes nothing.
use mathlib.Core.Path.{◌≡◌, refl}
use mathlib.Core.Bool.{Bool, true, false, cond}
use lib.Dec.{T}
use lib.Ieee.{Float, lt, eq}
use Rattle.std.specs.Prelude.{Option, Some, None}
use Rattle.std.specs.declared.cmp.Ordering.{Ordering}
use Rattle.std.specs.declared.cmp.Ordering.TheVariants.{Less, Equal, Greater}
use Rattle.std.specs.Ordering.{is_lt, is_some_and, partial_ordering_then, float_partial_cmp}
use Rattle.std.proofs.lemmas.Float.{eq-not_lt}
use Rattle.vectors.specs.declared.Vec3.{Vec3}
use Rattle.corners.specs.SpeakerOrder.{precedes}

abbrev before : Option Ordering → Bool
before o = is_some_and is_lt o

-- what is compared first decides, unless it is equal
first : (a b : Float) (p q : Option Ordering) → before (partial_ordering_then (partial_ordering_then (float_partial_cmp a b) p) q)
    ≡ cond (eq a b) (before (partial_ordering_then p q)) (lt a b)
first a b p q = go (lt a b) (eq a b) (lt b a) (λ e l. eq-not_lt a b e l)
  where
    go : (l e g : Bool) → (T e → T l → ⊥) → before (partial_ordering_then (partial_ordering_then (cond l (Some Less) (cond e (Some Equal) (cond g (Some Greater) None))) p) q)
        ≡ cond e (before (partial_ordering_then p q)) l
    go true true g n = absurd (n tt tt)
    go true false g n = refl
    go false true g n = refl
    go false false true n = refl
    go false false false n = refl

second : (a b : Float) (q : Option Ordering) → before (partial_ordering_then (float_partial_cmp a b) q) ≡ cond (eq a b) (before q) (lt a b)
second a b q = go (lt a b) (eq a b) (lt b a) (λ e l. eq-not_lt a b e l)
  where
    go : (l e g : Bool) → (T e → T l → ⊥) → before (partial_ordering_then (cond l (Some Less) (cond e (Some Equal) (cond g (Some Greater) None))) q) ≡ cond e (before q) l
    go true true g n = absurd (n tt tt)
    go true false g n = refl
    go false true g n = refl
    go false false true n = refl
    go false false false n = refl

third : (a b : Float) → before (float_partial_cmp a b) ≡ lt a b
third a b = go (lt a b) (eq a b) (lt b a)
  where
    go : (l e g : Bool) → before (cond l (Some Less) (cond e (Some Equal) (cond g (Some Greater) None))) ≡ l
    go true e g = refl
    go false true g = refl
    go false false true = refl
    go false false false = refl

pub precedes_is : (v w : Vec3) → before (partial_ordering_then (partial_ordering_then (float_partial_cmp v.y w.y) (float_partial_cmp v.z w.z)) (float_partial_cmp v.x w.x))
    ≡ precedes v w
unfolding precedes
precedes_is v w = rw (first v.y w.y (float_partial_cmp v.z w.z) (float_partial_cmp v.x w.x), second v.z w.z (float_partial_cmp v.x w.x), third v.x w.x)
