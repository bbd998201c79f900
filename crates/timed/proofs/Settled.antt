-- Where no hold or release waits, a slot's end leaves objects and marks alone. Assumes nothing.
use Prim.Native.Nat.{ℕ, zero, suc, ◌-◌, ◌<◌}
use mathlib.Core.Path.{◌≡◌, refl, sym}
use mathlib.Core.Bool.{Bool, true, false, cond, not, ◌&&◌, true≢false}
use mathlib.Core.List.{List, [], ◌∷◌}
use native.Mathlib.Nat.{not-suc-le-zero}
use native.Mathlib.Omega.{arith}
use lib.ListN.{get_or, take}
use lib.Seq.{set-get_or}
use Rattle.std.specs.List.{list_all}
use Rattle.timed.specs.Objects.{no_source, no_track, put_at, freed, freed_at, freed_all}
use Rattle.timed.specs.Holds.{with_marks, mark_settled_at, holds_settled, is_settled, all_settled}
use Rattle.timed.specs.declared.state.Track.{Track}
use Rattle.timed.specs.declared.state.DynamicSourceState.{DynamicSourceState}
use Rattle.timed.specs.declared.state.MetadataRendererState.{MetadataRendererState}
use Rattle.timed.specs.declared.objects.Moving.{Moving}
use Rattle.timed.proofs.Invariants.{times_in}

pub both : (a b : Bool) → (a && b) ≡ true → (a ≡ true) × (b ≡ true)
both true b e = (refl, e)
both false b e = absurd (true≢false (sym e))

all_at : {A : Type 0} (p : A → Bool) (d : A) → p d ≡ true → (n : ℕ) (l : List A) → list_all p (take n l) ≡ true → (i : ℕ) → i < n → p (get_or l i d) ≡ true
all_at p d e zero l h i a = absurd (not-suc-le-zero a)
all_at p d e (suc n) [] h i a = e
all_at p d e (suc n) (x ∷ l) h zero a = (both (p x) (list_all p (take n l)) h).0
all_at p d e (suc n) (x ∷ l) h (suc i) a = all_at p d e n l (both (p x) (list_all p (take n l)) h).1 i (omega arith)

-- a table whose first n objects are settled
settled : (n : ℕ) (l : List DynamicSourceState) → all_settled l n ≡ true → (i : ℕ) → i < n → is_settled (get_or l i no_source) ≡ true
unfolding all_settled
settled = all_at is_settled no_source refl

-- ---- an object

not_freed : (k : Track) (s : DynamicSourceState) → is_settled s ≡ true → freed k s ≡ s
unfolding freed
not_freed k s = by s.wanted s.held k.now (put_at k.future s.placed s)
  where
    by : (wanted held now : Bool) (x : DynamicSourceState) → cond wanted held (not held) ≡ true → cond (now && (held && not wanted)) x s ≡ s
    by true true true x e = refl
    by true true false x e = refl
    by true false now x e = absurd (true≢false (sym e))
    by false true now x e = absurd (true≢false (sym e))
    by false false true x e = refl
    by false false false x e = refl

marks_stand : (s : DynamicSourceState) → is_settled s ≡ true → with_marks s.wanted s.wanted s ≡ s
marks_stand s h = λ j. with_marks s.wanted (by s.wanted s.held h j) s
  where
    by : (wanted held : Bool) → cond wanted held (not held) ≡ true → wanted ≡ held
    by true held e = sym e
    by false true e = absurd (true≢false (sym e))
    by false false e = refl

-- ---- all of them

pub freed_none : (n : ℕ) (m : Moving) → all_settled m.sources n ≡ true → freed_all n m ≡ m
unfolding freed_all
freed_none n m h =
    times_in (λ (x : Moving). x ≡ m) freed_at n
    (λ i x l e.
    let still = not_freed (get_or m.tracks i no_track) (get_or m.sources i no_source) (settled n m.sources h i l) in
    rw (e, still, set-get_or m.sources i no_source))
    n 0 (omega arith) m refl

pub holds_stand : (s : MetadataRendererState) → all_settled s.sources (s.objects - s.isf) ≡ true → holds_settled s ≡ s
unfolding holds_settled
holds_stand s h =
    let stands =
    times_in (λ (x : List DynamicSourceState). x ≡ s.sources) mark_settled_at (s.objects - s.isf)
    (λ i x l e.
    let still = marks_stand (get_or s.sources i no_source) (settled (s.objects - s.isf) s.sources h i l) in
    rw (e, still, set-get_or s.sources i no_source))
    (s.objects - s.isf) 0 (omega arith) s.sources refl in
    rw stands
