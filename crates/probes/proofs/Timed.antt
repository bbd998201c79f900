-- The test of a timed state is its ranges. Assumes nothing.
use Prim.Native.Nat.{ℕ, zero, suc, ◌+◌, ◌-◌, ◌*◌, ◌<◌, ◌≤◌}
use native.Mathlib.Omega.{arith}
use mathlib.Core.Path.{◌≡◌, refl, sym, subst}
use mathlib.Core.Bool.{Bool, true, false, ◌&&◌}
use lib.Dec.{T, leb}
use lib.ListN.{length, get_or}
use mathlib.Core.List.{List}
use mathlib.Core.Logic.{◌↔◌}
use Rattle.std.specs.Prelude.{EachIndex, IsTrue}
use Rattle.fields.specs.RecordBytes.{all}
use Rattle.timed.specs.declared.state.BlockState.{BlockState}
use borrow.Author.Tests.{leb-true, le-leb}
use Rattle.fields.proofs.All.{and_left, and_right, all_at, all_true}
use Rattle.timed.specs.Slot.{InRange, middle, no_block}
use Rattle.timed.specs.State.{Within, element_of}
use Rattle.timed.specs.declared.state.ElementRendererState.{ElementRendererState}
use Rattle.timed.specs.declared.state.MetadataRendererState.{MetadataRendererState}
use Rattle.probes.specs.Timed.{last_position, block_fits, schedule_fits, element_fits, counts_suit, state_fits}

never : {A : Type 0} → false ≡ true → A
never e = absurd (subst T (sym e) tt)

two : (P : ℕ → Type 0) → P 0 → P 1 → (i : ℕ) → i < 2 → P i
two P a b zero l = a
two P a b (suc zero) l = b
two P a b (suc (suc i)) l = let z : ⊥ = omega arith in absurd z

-- tests that hold together
four : (a b c d : Bool) → (a && b && c && d) ≡ true → (a ≡ true) × (b ≡ true) × (c ≡ true) × (d ≡ true)
four true true true d h = (refl, refl, refl, h)
four true true false d h = never h
four true false c d h = never h
four false b c d h = never h

-- ---- a schedule

same : (a b : Bool) → (a ≡ true → b ≡ true) → (b ≡ true → a ≡ true) → a ≡ b
same true b f g = sym (f refl)
same false true f g = g refl
same false false f g = refl

pub schedule_is : (bs : List BlockState) (r : Bool) → length bs ≡ 8
    → (IsTrue r ↔ EachIndex bs (λ k. ((get_or bs k no_block).offset ≤ 2097152) × ((get_or bs k no_block).ramp ≤ 2097152))) → r ≡ schedule_fits bs
unfolding schedule_fits
schedule_is bs r n h =
    let p : ℕ → Bool = λ k. block_fits (get_or bs k no_block) in
    same r (all p 8)
    (λ e. all_true p 8 (λ k l. let b = h.0 e k (omega arith) in simp (le-leb _ _ b.0, le-leb _ _ b.1)))
    (λ e. h.1 (λ k l.
    let b = all_at p 8 k (omega arith) e in
    (leb-true _ _ (and_left _ (leb (get_or bs k no_block).ramp 2097152) b), leb-true _ _ (and_right (leb (get_or bs k no_block).offset 2097152) _ b))))

-- ---- an element
module _ (p : ℕ) (e : ElementRendererState) where
  element_within : element_fits p e ≡ true → InRange p e
  unfolding element_fits schedule_fits
  element_within h =
      let t = four (leb e.blocks 8) (schedule_fits e.schedule) (leb e.remaining 140737489403904) (leb middle (e.remaining + (2097152 + 64 * p))) h in
      let each : (b : ℕ) → b < 8 → block_fits (get_or e.schedule b no_block) ≡ true = λ b l. all_at (λ k. block_fits (get_or e.schedule k no_block)) 8 b l t.1 in
      record {
        blocks = leb-true _ _ t.0;
        ramps = record {
          offsets = λ b l. leb-true _ _ (and_left _ (leb (get_or e.schedule b no_block).ramp 2097152) (each b l));
          ramps = λ b l. leb-true _ _ (and_right (leb (get_or e.schedule b no_block).offset 2097152) _ (each b l));
          most = leb-true _ _ t.2;
          least = leb-true _ _ t.3;
        };
      }

  element_fits_is : InRange p e → element_fits p e ≡ true
  unfolding element_fits schedule_fits
  element_fits_is h =
      let each : schedule_fits e.schedule ≡ true = all_true (λ k. block_fits (get_or e.schedule k no_block)) 8
      (λ b l. simp (le-leb _ _ (h.ramps.offsets b l), le-leb _ _ (h.ramps.ramps b l))) in
      simp (le-leb _ _ h.blocks, each, le-leb _ _ h.ramps.most, le-leb _ _ h.ramps.least)

-- ---- the state
module _ (p : ℕ) (s : MetadataRendererState) where
  pub fits_within : state_fits p s ≡ true → Within p s
  unfolding state_fits counts_suit
  fits_within h =
      let t = four (counts_suit s) (leb s.payload.0 last_position) (element_fits p (element_of s 0)) (element_fits p (element_of s 1)) h in
      let k = four (leb s.objects 32 && leb s.isf 255 && leb (s.objects - s.isf) 16) (leb s.beds 18) (leb s.beds s.objects) (leb s.elements 2) t.0 in
      let n = four true (leb s.objects 32) (leb s.isf 255) (leb (s.objects - s.isf) 16) k.0 in
      record {
        payload = leb-true _ _ t.1;
        objects = leb-true _ _ n.1;
        isf = leb-true _ _ n.2;
        dynamic = leb-true _ _ n.3;
        beds = leb-true _ _ k.1;
        channels = leb-true _ _ k.2;
        elements = leb-true _ _ k.3;
        states = two (λ (i : ℕ). InRange p (element_of s i)) (element_within p _ t.2) (element_within p _ t.3);
      }

  pub within_fits : Within p s → state_fits p s ≡ true
  unfolding state_fits counts_suit
  within_fits h =
      simp (
        le-leb _ _ h.objects,
        le-leb _ _ h.isf,
        le-leb _ _ h.dynamic,
        le-leb _ _ h.beds,
        le-leb _ _ h.channels,
        le-leb _ _ h.elements,
        le-leb _ _ h.payload,
        element_fits_is p _ (h.states 0 (omega arith)),
        element_fits_is p _ (h.states 1 (omega arith)),
      )
