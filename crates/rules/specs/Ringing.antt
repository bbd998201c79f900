-- The low-pass along a list of calls: what it has been fed since the renderer was new or reset, and what it gives. Document 02, R-7: "the magnitude of the filter's output
-- never exceeds twice the largest it has been fed since the renderer was new or reset, where that largest lies from 2^-100 to 2^20." And a loud past leaves: whatever calls came
-- before, after so many samples in a row each of which feeds at most X, the output is at most 2 X. Assumes nothing.
use Rattle.std.specs.Prelude.{ℕ, suc, ◌*◌, ◌^◌, ◌≤◌, ◌<◌, ◌≡◌, cond, List, [], ◌∷◌, ◌++◌, map, length, take, Float}
use Rattle.lowpass.specs.Lowpass.{new, after_all}
use Rattle.lowpass.specs.Bound.{Bounded, Range, largest}
use Rattle.lowpass.specs.Forgets.{Subsided}
use Rattle.rules.specs.Leaves.{Leaves}
use Rattle.rules.specs.Mix.{fed}
use Rattle.rules.specs.Samples.{State}
use Rattle.rules.specs.Refusals.{Args}
use Rattle.rules.specs.Calls.{Call, push, flush, reset, make, make_with, mark, find, is_refused, step}
use Rattle.rules.specs.Sounds.{before, sound_at}

module _ (L : Leaves) where
  -- what a push feeds, a number a sample; nothing where it is refused
  abbrev pub feed : State L → Args → List Float
  feed r a = map fed (step L r (push a)).moments

  -- what has been fed since the renderer was new or reset, after a call that found xs fed
  abbrev pub fed_since : List Float → State L → Call → List Float
  fed_since xs r (push a) = xs ++ feed r a
  fed_since xs r (flush out stride) = xs
  fed_since xs r reset = []
  fed_since xs r (make n) = cond (is_refused (step L r (make n)).answer) xs []
  fed_since xs r (make_with n t) = cond (is_refused (step L r (make_with n t)).answer) xs []
  fed_since xs r (mark w d) = xs
  fed_since xs r (find m) = xs

  -- sample t of a push, ys being what has been fed, that sample included
  pub record Rings (r : State L) (a : Args) (t : ℕ) (ys : List Float) : Type 0 where
    -- the filter is a new one of the push's rate that was fed just these
    pub filter : (before L r a (suc t)).filter ≡ after_all (new a.rate) ys
    -- its output is finite, and at most twice the largest of them
    pub twice : Range (largest ys) → Bounded (2 * largest ys) (sound_at L r a 3 t)
    -- and at most 2 X, once they have subsided to X: each halving takes rate / 64 + 1 samples
    pub forgets : (k X : ℕ) → Subsided a.rate k X ys → Bounded (2 * X) (sound_at L r a 3 t)
    -- none is above 2 ^ 17: so whatever came before was at most 2 ^ k X, where that is 2 ^ 17 or more
    pub modest : largest ys ≤ 2 ^ 166

  abbrev pub CallRings : List Float → State L → Call → Type 0
  CallRings xs r (push a) = (t : ℕ) → t < length (feed r a) → Rings r a t (xs ++ take (suc t) (feed r a))
  CallRings xs r (flush out stride) = Unit {0}
  CallRings xs r reset = Unit {0}
  CallRings xs r (make n) = Unit {0}
  CallRings xs r (make_with n t) = Unit {0}
  CallRings xs r (mark w d) = Unit {0}
  CallRings xs r (find m) = Unit {0}

  -- of each call of the list, each handed what the one before left and had been fed
  abbrev pub AllRing : List Float → State L → List Call → Type 0
  AllRing xs r [] = Unit {0}
  AllRing xs r (c ∷ cs) = CallRings xs r c × AllRing (fed_since xs r c) (step L r c).next cs
