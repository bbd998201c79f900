-- What an applied update makes of each element, from what that element was. Assumes nothing.
use Prim.Native.Nat.{ℕ, zero, suc, ◌-◌, ◌≤◌, ◌<◌}
use mathlib.Core.Path.{◌≡◌, refl, ap, ◌∙◌}
use mathlib.Core.Bool.{Bool, true, false, ◌&&◌, cond}
use mathlib.Core.List.{List}
use lib.Dec.{eqb}
use lib.ListN.{length, get_or}
use native.Mathlib.Omega.{arith}
use borrow.Author.Tests.{eqb-true}
use Rattle.fields.proofs.All.{and_left, and_right}
use Rattle.timed.proofs.Theorems.{turned, turned_at}
use Rattle.timed.specs.Turns.{times}
use Rattle.timed.specs.State.{Timed, element_of, no_element}
use Rattle.timed.specs.declared.state.MetadataRendererState.{MetadataRendererState}
use Rattle.timed.specs.declared.state.ElementRendererState.{ElementRendererState}
use Rattle.updates.specs.Said.{Update}
use Rattle.updates.specs.Applied.{Work, is_kept, is_same, element_next, element_given, elements_applied, applied}

-- ---- the elements

abbrev next : Bool → Update → ℕ → ElementRendererState → ElementRendererState
next same u e s = element_next (is_kept same s.blocks (u.element e).blocks) (u.objects - u.isf) (u.element e) s

states_turned : (same : Bool) (u : Update) (n i : ℕ) (w : Work) → (times n i (element_given same u) w).states ≡ times n i (turned (next same u) no_element) w.states
unfolding times element_given
states_turned same u zero i w = refl
states_turned same u (suc n) i w = states_turned same u n (suc i) (element_given same u i w)

pub element_at : (n : ℕ) (u : Update) (t : Timed) (e : ℕ) → e < u.elements → e < length t.state.states →
    element_of (applied n u t).state e ≡ next (is_same t.state u) u e (element_of t.state e)
unfolding applied elements_applied
element_at n u t e h l =
    let same = is_same t.state u in
    ap (λ (es : List ElementRendererState). get_or es e no_element) (states_turned same u u.elements 0 (record { states = t.state.states; infos = t.infos }))
    ∙ turned_at (next same u) no_element u.elements e t.state.states h l

-- ---- flags

-- each element of an applied update has "flags no fewer than the dynamic objects", where those of the last one had: a kept one has the same number of dynamic objects
module _ (n : ℕ) (u : Update) (t : Timed) (e : ℕ) where
  abbrev s : MetadataRendererState
  s = t.state

  -- where element e was one, its flags were enough
  abbrev Had : Type 0
  Had = e < s.elements → s.objects - s.isf ≤ (element_of s e).flags

  enough : (kept : Bool) → is_kept (is_same s u) (element_of s e).blocks (u.element e).blocks ≡ kept → e < u.elements → Had →
      u.objects - u.isf ≤ cond kept (element_of s e).flags (u.objects - u.isf)
  enough true k l had =
      let elements : Bool = eqb s.elements u.elements in
      let objects : Bool = eqb s.objects u.objects in
      let dynamic : Bool = eqb (s.objects - s.isf) (u.objects - u.isf) in
      let same = and_left (is_same s u) (eqb (element_of s e).blocks (u.element e).blocks) k in
      let a = eqb-true s.elements u.elements (and_left elements objects (and_left (elements && objects) dynamic same)) in
      let b = eqb-true (s.objects - s.isf) (u.objects - u.isf) (and_right (elements && objects) dynamic same) in
      let c = had (omega arith) in
      omega arith
  enough false k l had = omega arith

  pub flags_enough : e < u.elements → e < length s.states → Had → u.objects - u.isf ≤ (element_of (applied n u t).state e).flags
  unfolding element_next
  flags_enough h l had = rw (element_at n u t e h l) (enough (is_kept (is_same s u) (element_of s e).blocks (u.element e).blocks) refl h had)
