-- Refusals 9 to 14 in their order, each part as the code decides it: "After 8: 9, 10, 11 for updates at offset 0, 12, 11 for the present state, then 11, 13, 14 as they arise in
-- time." Assumes nothing.
use Prim.Native.Nat.{ℕ, zero, suc}
use mathlib.Core.Path.{◌≡◌, refl, sym, ap, ap₂, ◌∙◌}
use mathlib.Core.Bool.{Bool, true, false, cond, not, ◌&&◌, ◌||◌}
use mathlib.Core.List.{List, [], ◌∷◌, ◌++◌}
use lib.Dec.{eqb}
use Rattle.records.specs.Runs.{each, some}
use Rattle.records.specs.Falls.{no_sample, falls_in}
use Rattle.records.specs.LayoutAnswers.{offset_at}
use Rattle.records.specs.declared.metadata.Metadata.{Metadata}
use Rattle.rules.specs.Leaves.{Shape}
use Rattle.rules.specs.Refusals.{Found, clear, stop, ◌then◌, unless, Announced, objects_match, counts_at, shape_at, walk, never, none_sent, later}
use Rattle.refusals.specs.RefusalNumbers.{found_of}
use Rattle.std.specs.Prelude.{Result}
use Rattle.refusals.specs.declared.Refusal.{Refusal}
use Rattle.refusals.specs.declared.present.Present.{Present}
use Rattle.refusals.specs.PresentShape.{told_by, present_shape}
use Rattle.refusals.specs.FirstFound.{matched}
use Rattle.refusals.proofs.Sent.{told, told_each}

-- ---- one after the other

or_swap : (a b c : Bool) → (a || (b || c)) ≡ (b || (a || c))
or_swap true true c = refl
or_swap true false c = refl
or_swap false b c = refl

some_front : (p : ℕ → Bool) (k : ℕ) → some p (suc k) ≡ (p 0 || some (λ i. p (suc i)) k)
unfolding some
some_front p zero = refl
some_front p (suc k) = ap (λ (b : Bool). p (suc k) || b) (some_front p k) ∙ or_swap (p (suc k)) (p 0) _

not_or : (a s : Bool) → (a && not s) ≡ not (not a || s)
not_or true s = refl
not_or false s = refl

and_both : (a b c : Bool) → (a && (b && c)) ≡ ((a && b) && c)
and_both true b c = refl
and_both false b c = refl

-- what they look at: the updates that wait and the frame's own; a push's objects, codes, samples and rate; the state's rate and shape
pub record Looked : Type 0 where
  pub kept : Metadata
  pub own : Metadata
  pub objects : ℕ
  pub codes : List ℕ
  pub samples : ℕ
  pub rate : ℕ
  pub old : ℕ
  pub shape : Shape

-- ---- the parts

module _ (x : Looked) where
  abbrev pub told_all : List Announced
  told_all = told_by x.kept ++ told_by x.own

  -- whether none falls in the frame, as the code asks
  abbrev pub no_fall : Bool
  no_fall = not (falls_in (offset_at x.kept.layout) x.kept.layout.count) && not (falls_in (offset_at x.own.layout) x.own.layout.count)

  abbrev pub all : Found
  all = later told_all x.objects x.codes x.samples x.rate x.old x.shape

  abbrev nine : Found
  nine = unless (eqb x.old 0 || eqb x.old x.rate) 9 x.old x.rate

  -- 10, where no update was sent
  abbrev ten : Bool → Found
  ten none = unless (x.shape.started || not none) 10 0 0

  -- 9 and 10
  abbrev pub start_with : Bool → Found
  start_with none = nine then ten none

  abbrev pub start : Found
  start = start_with no_fall

  -- 11 at offset 0
  abbrev pub counts : Found
  counts = counts_at told_all x.objects x.codes 0 told_all

  -- 11 for a present shape
  abbrev present_at : Shape → Found
  present_at s = cond s.started (objects_match told_all x.objects x.codes s) clear

  abbrev first_shape : Shape → Shape
  first_shape s = shape_at told_all x.objects x.codes 0 told_all s

  abbrev pub present : Found
  present = present_at (first_shape x.shape)

  -- 11, 13 and 14 over time
  abbrev pub walked : Shape → Found
  walked s = walk told_all x.objects x.codes x.samples 0 s

  -- 12, and what is after it
  abbrev pub twelve : Found
  twelve = unless (not (eqb x.samples 0)) 12 0 0 then (present then walked x.shape)

  -- ---- they are what the rules find

  then_both : (a b c : Found) → ((a then b) then c) ≡ (a then (b then c))
  then_both clear b c = refl
  then_both (stop n a b) c d = refl

  none_each : (f : ℕ → Announced) (k : ℕ) → none_sent told_all x.objects x.codes (each f k) ≡ not (falls_in (λ i. (f i).offset) k)
  unfolding each falls_in some
  none_each f zero = refl
  none_each f (suc k) =
      ap (λ (b : Bool). eqb (f 0).offset never && b) (none_each (λ i. f (suc i)) k) ∙ not_or (eqb (f 0).offset never) _
      ∙ ap not (sym (some_front (λ i. not (eqb (f i).offset no_sample)) k))

  none_both : (us vs : List Announced) → none_sent told_all x.objects x.codes (us ++ vs) ≡ (none_sent told_all x.objects x.codes us && none_sent told_all x.objects x.codes vs)
  none_both [] vs = refl
  none_both (u ∷ us) vs = ap (λ (b : Bool). eqb u.offset never && b) (none_both us vs) ∙ and_both (eqb u.offset never) _ _

  -- no update falls
  none_told : none_sent told_all x.objects x.codes told_all ≡ no_fall
  none_told =
      none_both (told_by x.kept) (told_by x.own)
      ∙ ap₂ (λ (a b : Bool). a && b) (ap (none_sent told_all x.objects x.codes) (told_each x.kept) ∙ none_each (told x.kept) x.kept.layout.count)
      (ap (none_sent told_all x.objects x.codes) (told_each x.own) ∙ none_each (told x.own) x.own.layout.count)

  pub later_is : (start then (counts then twelve)) ≡ all
  later_is =
      then_both nine (ten no_fall) (counts then twelve)
      ∙ ap (λ (none : Bool). nine then (ten none then (counts then twelve))) (sym none_told)

  -- 11 for the present state, as the code has it
  pub present_is : (p q : Present) (r : Result (Unit {0}) Refusal) → present_shape p ≡ x.shape → present_shape q ≡ first_shape (present_shape p) →
      found_of r ≡ cond q.started (matched q.objects x.objects) clear → found_of r ≡ present
  present_is p q r p_is q_is r-is = r-is ∙ ap present_at (q_is ∙ ap first_shape p_is)
