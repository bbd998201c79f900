-- The lowest number first: what tests in a row find, and what a test's answer says. Assumes nothing.
use Prim.Native.Nat.{ℕ, zero, suc, ◌+◌, ◌*◌, ◌/◌}
use mathlib.Core.Path.{◌≡◌, refl, sym, ap, ◌∙◌, subst}
use mathlib.Core.Bool.{Bool, true, false, ◌&&◌}
use mathlib.Core.List.{List, [], ◌∷◌}
use lib.Dec.{T, eqb, leb}
use lib.ListN.{length, get_or, take}
use native.Mathlib.Omega.{arith}
use borrow.Author.Tests.{eqb-true}
use Rattle.ieee.specs.Bounds.{All}
use Rattle.fields.proofs.All.{and_left, and_right}
use Rattle.records.specs.Laid.{laid_out}
use Rattle.records.specs.ValuesInRange.{in_range, refusal}
use Rattle.records.specs.FaultNumbers.{number_of}
use Rattle.records.proofs.Theorems.{not_laid, not_in_range}
use Rattle.records.specs.declared.metadata.Fault.{Fault}
use Rattle.records.specs.declared.metadata.Fault.TheVariants.{NotLaidOut, OutOfRange}
use Rattle.mixing.specs.FrameSamples.{all_pass}
use Rattle.rules.specs.Samples.{State}
use Rattle.rules.specs.Refusals.{Args, Found, clear, stop, unless, ◌then◌, every, room, sized, listed, early}
use Rattle.theorem.specs.Instance.{hall}
use Rattle.refusals.specs.RefusalNumbers.{stop_of, fault_refusal}
use Rattle.std.specs.Prelude.{Err}

-- ---- tests in a row

-- a refusal's number, and the test that it wants
pub record Test : Type 0 where
  pub number : ℕ
  pub holds : Bool

abbrev first_of : List Test → Found
first_of [] = clear
first_of (t ∷ ts) = unless t.holds t.number 0 0 then first_of ts

abbrev pub test : ℕ → Bool → Test
test n b = record { number = n; holds = b }

-- past the end nothing is tested
abbrev pub at : List Test → ℕ → Test
at ts k = get_or ts k (test 0 true)

abbrev pub Hold : List Test → Type 0
Hold ts = All (λ t. t.holds ≡ true) ts

-- k tests that hold, and one more
pub more : (ts : List Test) (k : ℕ) → Hold (take k ts) → (at ts k).holds ≡ true → Hold (take (suc k) ts)
more [] k h e = tt
more (t ∷ ts) zero h e = (e, tt)
more (t ∷ ts) (suc k) h e = (h.0, more ts k h.1 e)

stops : (ts : List Test) (k : ℕ) → Hold (take k ts) → (at ts k).holds ≡ false → stop (at ts k).number 0 0 ≡ first_of ts
stops [] k h e = absurd (subst T e tt)
stops (t ∷ ts) zero h e = rw e
stops (t ∷ ts) (suc k) h e = rw h.0 (stops ts k h.1 e)

goes_through : (ts : List Test) → Hold ts → clear ≡ first_of ts
goes_through [] h = refl
goes_through (t ∷ ts) h = rw h.0 (goes_through ts h.1)

then_none : (x : Found) → (x then clear) ≡ x
then_none clear = refl
then_none (stop n a b) = refl

-- ---- 1 to 8

-- a push's tests at a stream position
abbrev pub tests : ℕ → Args → List Test
tests position a =
    test 1 (room a.stride (length a.out))
    ∷ test 2 (sized a)
    ∷ test 3 (listed a.rate)
    ∷ test 4 (leb (position + a.samples) 1099511627776)
    ∷ test 5 (laid_out a.meta)
    ∷ test 6 (in_range a.meta)
    ∷ test 8 (all_pass a.pcm 0 ((length a.codes + a.objects) * a.samples))
    ∷ []

module _ (position : ℕ) (r : State hall) (p : r.clock.position ≡ position) (a : Args) where
  early_is : first_of (tests position a) ≡ early hall r a
  early_is = rw (then_none (unless (all_pass a.pcm 0 ((length a.codes + a.objects) * a.samples)) 8 0 0), p)

  -- the first k tests hold and the next one does not
  pub refuses : (k : ℕ) → Hold (take k (tests position a)) → (at (tests position a) k).holds ≡ false →
      stop (at (tests position a) k).number 0 0 ≡ early hall r a
  refuses k h e = stops (tests position a) k h e ∙ early_is

  pub refuses_none : Hold (tests position a) → clear ≡ early hall r a
  refuses_none h = goes_through (tests position a) h ∙ early_is

  -- where 1 to 4 are not found, a fault of the records is
  pub faulty : (f : Fault) → Hold (take 4 (tests position a)) → number_of {A = Unit {0}} (Err f) ≡ refusal a.meta → stop_of (fault_refusal f) ≡ early hall r a
  faulty NotLaidOut h e = refuses 4 h (not_laid a.meta e)
  faulty OutOfRange h e = let x = not_in_range a.meta e in refuses 5 (h.0, (h.1.0, (h.1.1.0, (h.1.1.1.0, (x.0, tt))))) x.1

-- ---- a single test

-- where 2 is not found, a fourth of the PCM's bytes are its samples: 8 looks at all of them
pub pcm_samples : (a : Args) → sized a ≡ true → all_pass a.pcm 0 ((length a.codes + a.objects) * a.samples) ≡ all_pass a.pcm 0 (length a.pcm / 4)
pcm_samples a e =
    let counts : Bool = leb a.samples a.stride && leb (length a.codes) 18 && leb a.objects 16 && every (λ c. leb c 17) a.codes in
    let exact : Bool = eqb (length a.pcm) (4 * ((length a.codes + a.objects) * a.samples)) in
    ap (all_pass a.pcm 0) (sym (fourth (length a.pcm) _ (eqb-true _ _ (and_right counts exact (and_left (counts && exact) _ e)))))
  where
    fourth : (k n : ℕ) → k ≡ 4 * n → k / 4 ≡ n
    fourth k n q = omega arith
