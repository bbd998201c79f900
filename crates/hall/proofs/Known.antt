-- What a valid block's small part tells. Assumes nothing.
use Prim.Native.Nat.{ℕ, zero, suc, ◌<◌}
use native.Mathlib.Omega.{arith}
use mathlib.Core.Path.{◌≡◌, refl, sym, ap, subst, ◌∙◌}
use mathlib.Core.Bool.{Bool, true, false, ◌&&◌}
use mathlib.Core.List.{List, ◌++◌}
use lib.Dec.{eqb}
use lib.ListN.{length, take-append-drop}
use borrow.Author.Tests.{eqb-true, eq-eqb, ne_eqb}
use Rattle.words.specs.Words.{Bytes, words_at}
use Rattle.rules.specs.Samples.{State}
use Rattle.rules.specs.Ranges.{Ranged}
use Rattle.rules.proofs.Theorems.{and_true}
use Rattle.store.specs.declared.renderer.Renderer714.{Renderer714}
use Rattle.store.specs.Fields.{small_of}
use Rattle.store.specs.Layout.{small_width, size, infos_of, decode}
use Rattle.store.specs.ValidBlocks.{valid, small_valid, heads_valid, hall_valid}
use Rattle.waits.specs.ValidAreas.{area_valid}
use Rattle.theorem.specs.Instance.{hall, block_size, block_valid, front, area_of}
use Rattle.theorem.proofs.Theorems.{Within, front_ranged}
use Rattle.refusals.proofs.Theorems.{loaded}
use Rattle.rendering.specs.Held.{held}

module _ (b : List ℕ) (v : valid b ≡ true) where
  but_hall : (eqb (length b) size && small_valid (words_at b 0 small_width) && heads_valid (infos_of b) 0 512 ≡ true) × (hall_valid b ≡ true)
  unfolding valid
  but_hall = and_true (eqb (length b) size && small_valid (words_at b 0 small_width) && heads_valid (infos_of b) 0 512) (hall_valid b) v

  pub valid_long : length b ≡ size
  valid_long =
      eqb-true (length b) size
      (and_true (eqb (length b) size) (small_valid (words_at b 0 small_width))
      (and_true (eqb (length b) size && small_valid (words_at b 0 small_width)) (heads_valid (infos_of b) 0 512) but_hall.0).0).0

  pub valid_hall : hall_valid b ≡ true
  valid_hall = but_hall.1

-- ---- a whole block

module _ (b : List ℕ) (v : block_valid b ≡ true) where
  parts : (eqb (length b) block_size && valid (front b) ≡ true) × (area_valid (decode (front b)).clock.position (area_of b) ≡ true)
  parts = and_true (eqb (length b) block_size && valid (front b)) _ v

  pub valid_whole : length b ≡ block_size
  valid_whole = eqb-true (length b) block_size (and_true (eqb (length b) block_size) (valid (front b)) parts.0).0

  pub valid_front : valid (front b) ≡ true
  valid_front = (and_true (eqb (length b) block_size) (valid (front b)) parts.0).1

  pub valid_ahead : area_valid (decode (front b)).clock.position (area_of b) ≡ true
  valid_ahead = parts.1

-- what the code asks of it
pub too_long : (b : List ℕ) → (length b ≡ block_size → ⊥) → false ≡ block_valid b
too_long b h = rw (ne_eqb (length b) block_size h) refl

pub all_valid : (b : List ℕ) → length b ≡ block_size → valid (front b) ≡ true → (r : Bool) → r ≡ area_valid (decode (front b)).clock.position (area_of b) → r ≡ block_valid b
all_valid b l v r e = e ∙ (rw (eq-eqb (length b) block_size l, v) refl)

-- a front that is left as it was, with what stands behind it, is the block
pub whole_again : (b : List ℕ) {f : List ℕ} → f ≡ front b → f ++ area_of b ≡ b
whole_again b e = ap (λ (t : List ℕ). t ++ area_of b) e ∙ take-append-drop size b

pub pos_of : (n : ℕ) → (n ≡ 0 → ⊥) → 0 < n
pos_of zero h = absurd (h refl)
pos_of (suc n) h = omega arith

module _ (b : List ℕ) (s : Renderer714) (e : s ≡ small_of (words_at b 0 small_width)) where
  pub loaded_pending : (decode b).pending.count ≡ s.pending
  loaded_pending = sym (ap (λ (r : State hall). r.pending.count) (loaded b s e))

  pub loaded_position : (decode b).clock.position ≡ s.clock.position.0
  loaded_position = sym (ap (λ (r : State hall). r.clock.position) (loaded b s e))

  pub loaded_ranged : Bytes b → valid b ≡ true → Ranged hall Within (held s b)
  loaded_ranged bs v = subst (Ranged hall Within) (sym (loaded b s e)) (front_ranged b bs v)
