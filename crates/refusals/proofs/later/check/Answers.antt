-- `later::check`: part by part; what no part before found, those after it find. Assumes nothing.
use Prim.Native.Nat.{ℕ}
use mathlib.Core.Path.{◌≡◌, refl, ap, ◌∙◌}
use Rattle.std.specs.Prelude.{Ok, Err}
use mathlib.Core.Bool.{Bool, not}
use lib.Dec.{eqb}
use borrow.Author.Tests.{eq-eqb, ne_eqb}
use Rattle.records.specs.declared.metadata.Metadata.{Metadata}
use Rattle.rules.specs.Refusals.{clear, ◌then◌, shape_at}
use Rattle.refusals.specs.FirstFound.{IsAfter}
use Rattle.refusals.proofs.Sent.{after_both}
use Rattle.refusals.specs.PresentShape.{present_shape}
use Rattle.refusals.specs.declared.Frame.{Frame}
use Rattle.refusals.specs.declared.present.Present.{Present}
use Rattle.refusals.proofs.First.{handed_on, chain_stops, chain_passes, unless_stops, unless_passes}
use Rattle.refusals.proofs.LaterInOrder.{Looked, told_all, all, start_with, start, counts, present, walked, twelve, later_is, present_is}
use Rattle.refusals.proofs.later.check.Goals as goal

abbrev looked : Metadata → Frame → ℕ → Present → Looked
looked k f old start =
    record { kept = k; own = f.metadata; objects = f.n.objects; codes = f.codes.list.now; samples = f.n.samples; rate = f.n.rate; old = old; shape = present_shape start }

-- ---- what is left to find, once each part found nothing

module _ (x : Looked) where
  begun : clear ≡ start x → (counts x then twelve x) ≡ all x
  begun is = chain_passes (start x) _ _ (later_is x) is

  counted : clear ≡ counts x → (counts x then twelve x) ≡ all x → twelve x ≡ all x
  counted eleven h = chain_passes (counts x) _ _ h eleven

  some : (x.samples ≡ 0 → ⊥) → twelve x ≡ all x → (present x then walked x x.shape) ≡ all x
  some n h = unless_passes (not (eqb x.samples 0)) 12 0 0 _ (ap not (ne_eqb x.samples 0 n)) ∙ h

-- ---- the answers
pub returns-in_err-check_start : goal.returns-in_err-check_start
returns-in_err-check_start c =
    let a = c.args in
    let x = looked a.kept.now a.frame a.rate_before a.start in
    let e = ap (λ (none : Bool). start_with x none) c.none_falls.ensures in
    handed_on _ _ c.from_residual.ensures.1 (chain_stops (start x) _ _ (later_is x) c.in_err-check_start.field-0.0 (c.in_err-check_start.ensures ∙ e))

pub returns-in_err-check_both : goal.returns-in_err-check_both
returns-in_err-check_both c =
    let a = c.args in
    let x = looked a.kept.now a.frame a.rate_before a.start in
    let e = ap (λ (none : Bool). start_with x none) c.none_falls.ensures in
    let h = begun x (c.in_ok-check_start.ensures ∙ e) in
    handed_on _ _ c.from_residual-in_err-check_both.ensures.1 (chain_stops (counts x) _ _ h c.in_err-check_both.field-0.0 (c.in_err-check_both.ensures (told_all x) x.codes))

pub returns-then-n-eq0 : goal.returns-then-n-eq0
returns-then-n-eq0 c =
    let a = c.args in
    let x = looked a.kept.now a.frame a.rate_before a.start in
    let e = ap (λ (none : Bool). start_with x none) c.none_falls.ensures in
    let h = counted x (c.in_ok-check_both.ensures (told_all x) x.codes) (begun x (c.in_ok-check_start.ensures ∙ e)) in
    unless_stops (not (eqb x.samples 0)) 12 0 0 _ (ap not (eq-eqb x.samples 0 c.if-n-eq0.true)) ∙ h

-- the shape after the updates at the frame's first sample
first : (k : Metadata) (f : Frame) (old : ℕ) (p q r : Present) → IsAfter k 0 p q → IsAfter f.metadata 0 q r
    → let x = looked k f old p in present_shape r ≡ shape_at (told_all x) x.objects x.codes 0 (told_all x) (present_shape p)
first k f old p q r a b = let x = looked k f old p in after_both k f.metadata 0 p q r a b (told_all x) x.objects x.codes

pub returns-in_err-check_objects : goal.returns-in_err-check_objects
returns-in_err-check_objects c =
    let a = c.args in
    let x = looked a.kept.now a.frame a.rate_before a.start in
    let e = ap (λ (none : Bool). start_with x none) c.none_falls.ensures in
    let h = some x c.if-n-eq0.false (counted x (c.in_ok-check_both.ensures (told_all x) x.codes) (begun x (c.in_ok-check_start.ensures ∙ e))) in
    let r = c.in_err-check_objects.field-0.0 in
    let f = first a.kept.now a.frame a.rate_before a.start c.present_after.result c.present_after-first.result c.present_after.ensures c.present_after-first.ensures in
    let now = present_is x a.start c.present_after-first.result (Err r) refl f c.in_err-check_objects.ensures in
    handed_on _ _ c.from_residual-in_err-check_objects.ensures.1 (chain_stops (present x) _ _ h r now)

pub returns : goal.returns
returns c =
    let a = c.args in
    let x = looked a.kept.now a.frame a.rate_before a.start in
    let e = ap (λ (none : Bool). start_with x none) c.none_falls.ensures in
    let h = some x c.if-n-eq0.false (counted x (c.in_ok-check_both.ensures (told_all x) x.codes) (begun x (c.in_ok-check_start.ensures ∙ e))) in
    let f = first a.kept.now a.frame a.rate_before a.start c.present_after.result c.present_after-first.result c.present_after.ensures c.present_after-first.ensures in
    let now = present_is x a.start c.present_after-first.result (Ok tt) refl f c.in_ok-check_objects.ensures in
    c.check_walk.ensures ∙ chain_passes (present x) _ _ h now
