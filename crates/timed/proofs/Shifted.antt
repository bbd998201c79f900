-- The rules over signed numbers are those over the numbers as they are kept, for every state. Assumes nothing.
use Prim.Native.Nat.{ℕ, ◌+◌, ◌-◌, ◌≤◌}
use mathlib.Core.Path.{◌≡◌, refl, ap, ◌∙◌}
use mathlib.Core.Bool.{Bool, true, false, not, cond, ◌&&◌, ◌||◌}
use native.Mathlib.Omega.{arith}
use lib.Dec.{T, eqb, leb, ltb}
use lib.IntN.{ℤ, pos, negsuc, ◌+ℤ◌, ◌-ℤ◌}
use lib.Signed.{lt_z, le_z}
use lib.ListN.{get_or}
use borrow.Author.Tests.{ltb-true, ltb-false, le-leb, lt-leb, leb-true}
use Rattle.timed.specs.Rules.{middle, no_block, offset_of, ramp_of, remaining_of, kept_as, timecode, due, left_after, ramp_over, slot_less, first_offset, active, begins}
use Rattle.timed.specs.Shifted.{due_shifted, left_shifted, active_shifted, begins_shifted}
use Rattle.timed.specs.declared.state.BlockState.{BlockState}
use Rattle.timed.specs.declared.state.ElementRendererState.{ElementRendererState}
use Rattle.timed.specs.declared.slot.Timing.{Timing}
use Rattle.timed.proofs.Differences.{Is, leb_same, is_pos, is_less, is_plus, is_minus, is_natural, is_lt, is_le, is_one}

-- ---- a remaining ramp

abbrev M : ℕ
M = 140737488355328

over_is : (z : ℤ) (a b : ℕ) → Is z a b → ramp_over z ≡ leb (a + M - b) M
over_is z a b h = is_le z (pos 0) a b 0 0 h (is_pos 0) ∙ leb_same (a + 0) (0 + b) (a + M - b) M (λ l. omega arith) (λ l. omega arith)

kept_is : (z : ℤ) (a b : ℕ) → Is z a b → kept_as z ≡ a + M - b
unfolding kept_as
kept_is z a b h = is_natural (z +ℤ pos M) (a + M) (b + 0) (is_plus z (pos M) a b M 0 h (is_pos M)) ∙ (let e : a + M - (b + 0) ≡ a + M - b = omega arith in e)

remaining_is : (n : ℕ) → Is (remaining_of n) n M
unfolding remaining_of
remaining_is n = is_less n M

pub over_shifted : (n : ℕ) → ramp_over (remaining_of n) ≡ leb n middle
over_shifted n = over_is (remaining_of n) n M (remaining_is n) ∙ (let e : n + M - M ≡ n = omega arith in rw e)

pub less_shifted : (n : ℕ) → kept_as (slot_less (remaining_of n)) ≡ n - 64
less_shifted n =
    kept_is (slot_less (remaining_of n)) (n + 0) (M + 64) (is_minus (remaining_of n) (pos 64) n M 64 0 (remaining_is n) (is_pos 64))
    ∙ (let e : n + 0 + M - (M + 64) ≡ n - 64 = omega arith in e)

-- where a ramp remains
pub remaining_shifted : (n : ℕ) → middle ≤ n → remaining_of n ≡ pos (n - middle)
remaining_shifted n h = is_one (remaining_of n) (pos (n - M)) n M (remaining_is n) (omega arith)

-- what is kept is read back
pub kept_reads_back : (n : ℕ) → kept_as (remaining_of n) ≡ n
kept_reads_back n = kept_is (remaining_of n) n M (remaining_is n) ∙ (let e : n + M - M ≡ n = omega arith in e)

pub remaining_reads_back : (z : ℤ) → T (le_z (negsuc 140737488355327) z) → remaining_of (kept_as z) ≡ z
remaining_reads_back (pos n) h = is_one (remaining_of (kept_as (pos n))) (pos n) (n + M) M (rw (kept_is (pos n) n 0 (is_pos n)) (by n)) (omega arith)
  where
    by : (n : ℕ) → Is (remaining_of (n + M - 0)) (n + M) M
    by n = let e : n + M - 0 ≡ n + M = omega arith in rw e (remaining_is (n + M))
remaining_reads_back (negsuc n) h =
    let l = leb-true n 140737488355327 (yes (leb n 140737488355327) h) in
    is_one (remaining_of (kept_as (negsuc n))) (negsuc n) (M - (n + 1)) M (rw (kept_is (negsuc n) 0 (n + 1) (omega arith)) (by n)) (omega arith)
  where
    yes : (b : Bool) → T b → b ≡ true
    yes true t = refl
    yes false t = absurd t

    by : (n : ℕ) → Is (remaining_of (0 + M - (n + 1))) (M - (n + 1)) M
    by n = remaining_is (M - (n + 1))

-- ---- blocks

module _ (w : Timing) (b : BlockState) where
  offset_is : Is (offset_of b) b.offset 1048576
  offset_is = is_less b.offset 1048576

  timecode_is : Is (timecode w) w.start.0 w.payload.0
  timecode_is = is_less w.start.0 w.payload.0

  pub due_shifted_is : due w b ≡ due_shifted w b
  unfolding due
  due_shifted_is = by b.used (is_lt (offset_of b) (timecode w) b.offset 1048576 w.start.0 w.payload.0 offset_is timecode_is)
    where
      by : (u : Bool) {s : Bool} → s ≡ ltb (b.offset + w.payload.0) (w.start.0 + 1048576)
          → (not u && s) ≡ cond u false (ltb (w.payload.0 + b.offset) (w.start.0 + 1048576))
      by true e = refl
      by false e = e ∙ (let q : b.offset + w.payload.0 ≡ w.payload.0 + b.offset = omega arith in rw q)

  left_is : Is (left_after w b) (b.ramp + (w.payload.0 + b.offset)) (1048576 + (w.start.0 + 1048576))
  unfolding left_after
  left_is =
      is_minus (ramp_of b) (timecode w -ℤ offset_of b) b.ramp 1048576 (w.start.0 + 1048576) (w.payload.0 + b.offset) (is_less b.ramp 1048576)
      (is_minus (timecode w) (offset_of b) w.start.0 w.payload.0 b.offset 1048576 timecode_is offset_is)

  same_sum : b.ramp + (w.payload.0 + b.offset) + M - (1048576 + (w.start.0 + 1048576)) ≡ left_shifted w b
  same_sum = omega arith

  pub left_shifted_is : kept_as (left_after w b) ≡ left_shifted w b
  left_shifted_is = kept_is (left_after w b) _ _ left_is ∙ same_sum

  pub left_over : ramp_over (left_after w b) ≡ leb (left_shifted w b) middle
  left_over = over_is (left_after w b) _ _ left_is ∙ ap (λ (n : ℕ). leb n M) same_sum

-- ---- elements

first_is : (e : ElementRendererState) → Is (first_offset e) (get_or e.schedule 0 no_block).offset 1048576
first_is e = is_less (get_or e.schedule 0 no_block).offset 1048576

module _ (e : ElementRendererState) where
  abbrev o : ℕ
  o = (get_or e.schedule 0 no_block).offset

  from_zero : le_z (pos 0) (first_offset e) ≡ leb 1048576 o
  from_zero = is_le (pos 0) (first_offset e) 0 0 o 1048576 (is_pos 0) (first_is e) ∙ (let p : 0 + 1048576 ≡ 1048576 = omega arith in let q : o + 0 ≡ o = omega arith in rw (p, q))

  below_zero : not (lt_z (first_offset e) (pos 0)) ≡ leb 1048576 o
  below_zero = ap not (is_lt (first_offset e) (pos 0) o 1048576 0 0 (first_is e) (is_pos 0)) ∙ by (ltb (o + 0) (0 + 1048576)) refl
    where
      by : (t : Bool) → ltb (o + 0) (0 + 1048576) ≡ t → not (ltb (o + 0) (0 + 1048576)) ≡ leb 1048576 o
      by true f = let l = ltb-true (o + 0) (0 + 1048576) f in rw (f, lt-leb 1048576 o (omega arith))
      by false f = let l = ltb-false (o + 0) (0 + 1048576) f in rw (f, le-leb 1048576 o (omega arith))

  pub active_shifted_is : active e ≡ active_shifted e
  unfolding active
  active_shifted_is = by (eqb e.blocks 0) (lt_z (first_offset e) (pos 0)) below_zero
    where
      by : (n s : Bool) {t : Bool} → not s ≡ t → not (n || s) ≡ cond n false t
      by true s h = refl
      by false s h = h

  pub begins_shifted_is : (w : Timing) → begins w e ≡ begins_shifted w e
  unfolding begins
  begins_shifted_is w = by (eqb e.blocks 0) from_zero up_to
    where
      up_to : le_z (first_offset e) (timecode w) ≡ leb (o + w.payload.0) (w.start.0 + 1048576)
      up_to = is_le (first_offset e) (timecode w) o 1048576 w.start.0 w.payload.0 (first_is e) (is_less w.start.0 w.payload.0)

      turn : o + w.payload.0 ≡ w.payload.0 + o
      turn = omega arith

      chain : (s : Bool) {t : Bool} → t ≡ leb (o + w.payload.0) (w.start.0 + 1048576) → (s && t) ≡ cond s (leb (w.payload.0 + o) (w.start.0 + 1048576)) false
      chain true h = h ∙ rw turn
      chain false h = refl

      by : (n : Bool) {s t u : Bool} → s ≡ u → t ≡ leb (o + w.payload.0) (w.start.0 + 1048576)
          → (not n && s && t) ≡ cond (cond n false u) (leb (w.payload.0 + o) (w.start.0 + 1048576)) false
      by true h k = refl
      by false {s} {t} h k = rw (← h) (chain s k)
