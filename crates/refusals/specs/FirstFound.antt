-- A reader may skip this file: that what a function answers is the first refusal that the rules find (`found`, `early`, `later` of rules/specs). Assumes nothing.
use Rattle.std.specs.Prelude.{ℕ, ◌≡◌, Bool, true, false, List, eqb, length, Result}
use Rattle.rules.specs.Samples.{State}
use Rattle.rules.specs.Refusals.{Args, Found, clear, stop, unless, args_of, early, Announced, counts_at, shape_at}
use Rattle.records.specs.LayoutAnswers.{Placed}
use Rattle.records.specs.declared.metadata.Metadata.{Metadata}
use Rattle.theorem.specs.Instance.{hall}
use Rattle.refusals.specs.RefusalNumbers.{found_of}
use Rattle.refusals.specs.PresentShape.{told_by, present_shape}
use Rattle.refusals.specs.declared.Frame.{Frame}
use Rattle.refusals.specs.declared.Push.{Push}
use Rattle.refusals.specs.declared.Refusal.{Refusal}
use Rattle.refusals.specs.declared.present.Present.{Present}

abbrev pub is_none : Found → Bool
is_none clear = true
is_none (stop n a b) = false

-- the arguments that a push hands in, with what stands in the output
abbrev pub args_with : Push → List ℕ → Args
args_with p out = args_of p.pcm.now p.meta.now out p.codes.now p.n.rate p.n.samples p.n.objects p.n.stride

-- those of a frame
abbrev pub args_in : Frame → List ℕ → Args
args_in f out = args_of f.pcm.now f.metadata.records.now out f.codes.list.now f.n.rate f.n.samples f.n.objects f.n.stride

-- r is the first of 1 to 8 at a stream position, whatever else the state has and whatever stands in an output of so many bytes
abbrev pub IsEarly : {A : Type 0} → ℕ → ℕ → (List ℕ → Args) → Result A Refusal → Type 0
IsEarly position bytes args r = (out : List ℕ) → length out ≡ bytes → (t : State hall) → t.clock.position ≡ position → found_of r ≡ early hall t (args out)

-- where a frame was made: its arguments, and where its own updates fall in it
pub record IsFrame (args : List ℕ → Args) (f : Frame) : Type 0 where
  pub same : (out : List ℕ) → args_in f out ≡ args out
  pub placed : Placed f.n.samples f.metadata.records.now f.metadata.layout

-- r is p after the updates at t, whatever objects and inputs the push has
pub record IsAfter (m : Metadata) (t : ℕ) (p r : Present) : Type 0 where
  pub is : (us : List Announced) (n : ℕ) (codes : List ℕ) → present_shape r ≡ shape_at us n codes t (told_by m) (present_shape p)

-- r is 11 for the updates at t, whatever inputs the push has
pub record IsEleven (m : Metadata) (n t : ℕ) (r : Result (Unit {0}) Refusal) : Type 0 where
  pub is : (us : List Announced) (codes : List ℕ) → found_of r ≡ counts_at us n codes t (told_by m)

-- 11: so many dynamic objects expected, and so many provided
abbrev pub matched : ℕ → ℕ → Found
matched expected provided = unless (eqb expected provided) 11 expected provided
