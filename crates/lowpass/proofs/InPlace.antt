-- The loop of `process_in_place`: a sample more, at the front of what is left. Assumes nothing.
use mathlib.Core.Path.{◌≡◌, ◌∙◌}
use mathlib.Core.List.{List, [], ◌∷◌, ◌++◌, append_assoc}
use Prim.Native.Nat.{ℕ, suc, ◌+◌, ◌<◌}
use native.Mathlib.Numerals.{add-one, lt-add-one}
use lib.ListN.{length, get_or, set, take, drop}
use lib.Seq.{drop-cons, drop-set-lt, take-suc-set}
use lib.Ieee.{Float, nan}
use Rattle.lowpass.specs.Lowpass.{BiquadLowpassState, output, next, filtered, after_all}

module _ (f : BiquadLowpassState) (s : List Float) (i : ℕ) (h : i < length s) where
  abbrev x : Float
  x = get_or s i nan

  rest : (v : Float) → drop (i + 1) (set s i v) ≡ drop (suc i) s
  rest v = drop-set-lt (i + 1) s i v (lt-add-one i) ∙ rw add-one

  pub state_more : (v : Float) → after_all (next f x) (drop (i + 1) (set s i v)) ≡ after_all f (drop i s)
  state_more v = rw (rest v) (rw (drop-cons s i nan h))

  pub list_more : take (i + 1) (set s i (output f x)) ++ filtered (next f x) (drop (i + 1) (set s i (output f x))) ≡ take i s ++ filtered f (drop i s)
  list_more =
      let t : take (i + 1) (set s i (output f x)) ≡ take i s ++ (output f x ∷ []) = rw add-one (take-suc-set s i (output f x) h) in
      rw (rest (output f x), t, append_assoc) (rw (drop-cons s i nan h))
