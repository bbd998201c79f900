-- Two renderers that differ in the rule of a slot alone, and what calls in a row on either have in common. Assumes nothing.
use Rattle.std.specs.Prelude.{ℕ, ◌≡◌, Bool, false, not, ◌||◌, List, [], ◌∷◌, T}
use Rattle.rules.specs.Leaves.{Leaves}
use Rattle.rules.specs.Samples.{State}
use Rattle.rules.specs.Calls.{Call, push, flush, reset, make, make_with, mark, find, is_refused, Result, step}

-- the rules with another slot
abbrev pub with_slot : (L : Leaves) → (ℕ → L.Meta → L.Meta) → Leaves
with_slot L s =
    record {
      Meta = L.Meta;
      Update = L.Update;
      blank = L.blank;
      apply = L.apply;
      slot = s;
      wants = L.wants;
      want = L.want;
      beds = L.beds;
      objects = L.objects;
      shape = L.shape;
      offset = L.offset;
      sent = L.sent;
      Waits = L.Waits;
      no_waits = L.no_waits;
      updates = L.updates;
      fits = L.fits;
      settle = L.settle;
      laid_out = L.laid_out;
      in_range = L.in_range;
    }

abbrev pub asks_hold : Call → Bool
asks_hold (push a) = false
asks_hold (flush out stride) = false
asks_hold reset = false
asks_hold (make n) = false
asks_hold (make_with n t) = false
asks_hold (mark w d) = w
asks_hold (find m) = false

module _ (L : Leaves) where
  -- no hold is accepted
  abbrev pub NoHold : State L → List Call → Type 0
  NoHold r [] = Unit {0}
  NoHold r (c ∷ cs) = T (is_refused (step L r c).answer || not (asks_hold c)) × NoHold (step L r c).next cs

  module _ (s : ℕ → L.Meta → L.Meta) where
    -- the same answer, the same renderer left, and the same samples on the way
    pub record SameResult (x : Result L) (y : Result (with_slot L s)) : Type 0 where
      pub answer : x.answer ≡ y.answer
      pub next : x.next ≡ y.next
      pub moments : x.moments ≡ y.moments

    abbrev pub SameResults : List (Result L) → List (Result (with_slot L s)) → Type 0
    SameResults [] [] = Unit {0}
    SameResults [] (y ∷ ys) = ⊥
    SameResults (x ∷ xs) [] = ⊥
    SameResults (x ∷ xs) (y ∷ ys) = SameResult x y × SameResults xs ys
