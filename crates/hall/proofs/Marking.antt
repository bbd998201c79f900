-- A hold and a release: what the rules' `made` is of each, and what the code asks for. Assumes nothing.
use Prim.Native.Nat.{ℕ, ◌-◌, ◌<◌, ◌≤◌}
use mathlib.Core.Path.{◌≡◌, refl, sym, ap, ◌∙◌}
use mathlib.Core.Bool.{Bool, true, false, not, beq, cond}
use mathlib.Core.List.{List, ◌++◌}
use lib.Dec.{ltb}
use native.Mathlib.Omega.{arith}
use Rattle.std.proofs.lemmas.Bool.{lt-ltb, le-ltb}
use Rattle.std.specs.Prelude.{Ok, Err}
use Rattle.words.specs.Words.{words_at}
use Rattle.timed.specs.Holds.{wants, wanting}
use Rattle.timed.specs.State.{Within}
use Rattle.timed.specs.declared.state.MetadataRendererState.{MetadataRendererState}
use Rattle.rules.specs.Samples.{State}
use Rattle.rules.specs.Calls.{mark, Result, alike_marks, numbered, with_waits, marking}
use Rattle.rules.specs.BlockCalls.{made}
use Rattle.refusals.specs.declared.Refusal.TheVariants.{ObjectNumber}
use Rattle.store.specs.declared.renderer.Renderer714.{Renderer714}
use Rattle.store.specs.Fields.{small_of}
use Rattle.store.specs.Layout.{small_width, encode}
use Rattle.store.specs.Steps.{with_state}
use Rattle.theorem.specs.Instance.{hall, block, block_valid, front, area_of}
use Rattle.refusals.proofs.Theorems.{loaded}
use Rattle.rendering.specs.Held.{held}
use Rattle.hall.specs.Answers.{MadeNew, coded}
use Rattle.hall.specs.declared.answer.Outcome.TheVariants.{Marked}
use Rattle.hall.proofs.WaysOut.{leaves, taken, made_as}

-- how many objects can be held
abbrev pub most : MetadataRendererState → ℕ
most s = cond s.initialized (s.objects - s.isf) 0

pub most_within : {n : ℕ} (s : MetadataRendererState) → Within n s → most s ≤ 16
most_within s w = by_start s.initialized
  where
    by_start : (b : Bool) → cond b (s.objects - s.isf) 0 ≤ 16
    by_start true = w.dynamic
    by_start false = omega arith

-- whether what is wanted is asked for, as the code asks
alike : (w v : Bool) {t : Bool} → not (beq v w) ≡ t → alike_marks w v ≡ not t
alike true true e = ap not e
alike true false e = ap not e
alike false true e = ap not e
alike false false e = ap not e

module _ (w : Bool) (d : ℕ) (b : List ℕ) (v : block_valid b ≡ true) (s : Renderer714) (e : s ≡ small_of (words_at (front b) 0 small_width)) where
  abbrev by_tests : Bool → Bool → State hall → Result hall
  by_tests fits known r = marking hall fits known w d r

  marked_as : {fits known : Bool} → ltb d (most s.state) ≡ fits → alike_marks w (wants d s.state) ≡ known
      → made hall block (mark w d) b ≡ leaves (mark w d) b (by_tests fits known (with_waits hall (area_of b) (held s (front b))))
  marked_as {fits = fits} {known = known} f k =
      taken (mark w d) b (by_tests fits known (with_waits hall (area_of b) (held s (front b)))) v
      (ap (λ (r : State hall). let x = with_waits hall (area_of b) r in by_tests (ltb d (numbered hall x)) (alike_marks w (wants d x.meta.state)) x) (sym (loaded (front b) s e)) ∙ rw (f, k) refl)

  pub unnumbered : most s.state ≤ d → {state : List ℕ} → state ≡ b → MadeNew (made hall block (mark w d) b) (coded (Err ObjectNumber)) state
  unnumbered l same = made_as (marked_as (le-ltb d (most s.state) l) refl) (record { answer = refl; block = same })

  module _ (l : d < most s.state) where
    pub known : not (beq (wants d s.state) w) ≡ false → {state : List ℕ} → state ≡ b → MadeNew (made hall block (mark w d) b) (coded (Ok Marked)) state
    known k same = made_as (marked_as (lt-ltb d (most s.state) l) (alike w (wants d s.state) k)) (record { answer = refl; block = same })

    pub noted : not (beq (wants d s.state) w) ≡ true → {state : List ℕ} → state ≡ encode (held (with_state s (wanting w d s.state)) (front b)) ++ area_of b
        → MadeNew (made hall block (mark w d) b) (coded (Ok Marked)) state
    unfolding encode
    noted k new = made_as (marked_as (lt-ltb d (most s.state) l) (alike w (wants d s.state) k)) (record { answer = refl; block = new })
