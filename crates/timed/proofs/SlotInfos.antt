-- A slot leaves every info's head, gain, size, distance, screen factor and send as they were: it writes positions only. Assumes nothing.
use Prim.Native.Nat.{ℕ, ◌+◌, ◌*◌, ◌≤◌}
use mathlib.Core.Path.{◌≡◌, refl, ◌∙◌}
use mathlib.Core.Bool.{Bool, true, false}
use mathlib.Core.List.{List}
use native.Mathlib.Omega.{arith}
use borrow.Author.Tests.{ltb-true, ltb-false}
use lib.Dec.{eqb, ltb}
use lib.ListN.{length, get_or}
use lib.Ieee.{Float, binary32, to_bits}
use Rattle.words.specs.Words.{Bytes, word, with_float}
use Rattle.words.proofs.Numbers.{length_kept}
use Rattle.words.proofs.Small.{number_bytes}
use Rattle.words.proofs.Beside.{Kept, kept_twice, number_keeps, reads_before, reads_past}
use Rattle.vectors.specs.declared.Vec3.{Vec3}
use Rattle.timed.specs.Infos.{with_vec}
use Rattle.timed.specs.Objects.{object_moved, moved_at, moved_all}
use Rattle.timed.specs.Objects as objects
use Rattle.timed.specs.Rules.{no_block, due, left_after, ramp_over, active}
use Rattle.timed.specs.Slot.{SlotWork, slot_begun, block_applied, block_turn, blocks_applied, updated_sources}
use Rattle.timed.specs.State.{Timed, element_of, timing_of, reach_of, element_taken, slot_of, slot_moved, slot_at}
use Rattle.timed.specs.declared.state.DynamicSourceState.{DynamicSourceState}
use Rattle.timed.specs.declared.objects.Moving.{Moving}
use Rattle.timed.specs.declared.slot.Timing.{Timing}
use Rattle.timed.specs.declared.slot.Reach.{Reach}
use Rattle.timed.proofs.Invariants.{times_keeps, cond_keeps}
use Rattle.timed.specs.InfoSizes.{info_bytes, position_byte, last_byte, send_byte}

-- js has is's words before each position, and its sends
pub record Like (is js : List ℕ) : Type 0 where
  pub long : length js ≡ length is
  pub bytes : Bytes is → Bytes js
  pub same : (k c : ℕ) → c ≤ 16 → word js (info_bytes * k + c) ≡ word is (info_bytes * k + c)
  pub sent : (k : ℕ) → word js (info_bytes * k + send_byte) ≡ word is (info_bytes * k + send_byte)

pub like_refl : (is : List ℕ) → Like is is
like_refl is = record { long = refl; bytes = λ h. h; same = λ k c h. refl; sent = λ k. refl }

pub like_trans : {is js ks : List ℕ} → Like is js → Like js ks → Like is ks
like_trans a b =
    record {
      long = b.long ∙ a.long;
      bytes = λ h. b.bytes (a.bytes h);
      same = λ k c h. b.same k c h ∙ a.same k c h;
      sent = λ k. b.sent k ∙ a.sent k;
    }

pub like_head : {is js : List ℕ} → Like is js → (k : ℕ) → word js (info_bytes * k) ≡ word is (info_bytes * k)
like_head h k = let e : info_bytes * k ≡ info_bytes * k + 0 = omega arith in rw e (h.same k 0 (omega arith))

-- ---- a vector

float_keeps : (is : List ℕ) (at : ℕ) (x : Float) → Kept is (with_float is at x) at (at + 4)
unfolding with_float
float_keeps is at x = number_keeps is at 4 (to_bits binary32 x)

float_long : (is : List ℕ) (at : ℕ) (x : Float) → length (with_float is at x) ≡ length is
unfolding with_float
float_long is at x = length_kept is at 4 (to_bits binary32 x)

float_bytes : (is : List ℕ) (at : ℕ) (x : Float) → Bytes is → Bytes (with_float is at x)
unfolding with_float
float_bytes is at x h = number_bytes is at 4 (to_bits binary32 x) h

module _ (is : List ℕ) (at : ℕ) (v : Vec3) where
  vec_keeps : Kept is (with_vec is at v) at (at + 12)
  unfolding with_vec
  vec_keeps =
      let a = with_float is at v.x in
      let b = with_float a (at + 4) v.y in
      kept_twice at (at + 12)
      (kept_twice at (at + 12) (float_keeps is at v.x) (float_keeps a (at + 4) v.y) (omega arith) (omega arith) (omega arith) (omega arith))
      (float_keeps b (at + 8) v.z) (omega arith) (omega arith) (omega arith) (omega arith)

  vec_long : length (with_vec is at v) ≡ length is
  unfolding with_vec
  vec_long =
      let a = with_float is at v.x in
      let b = with_float a (at + 4) v.y in
      float_long b (at + 8) v.z ∙ (float_long a (at + 4) v.y ∙ float_long is at v.x)

  vec_bytes : Bytes is → Bytes (with_vec is at v)
  unfolding with_vec
  vec_bytes h =
      let a = with_float is at v.x in
      let b = with_float a (at + 4) v.y in
      float_bytes b (at + 8) v.z (float_bytes a (at + 4) v.y (float_bytes is at v.x h))

-- ---- a block's positions

module _ (is : List ℕ) (j : ℕ) (p l : Vec3) where
  abbrev stored : List ℕ
  stored = with_vec (with_vec is (info_bytes * j + position_byte) p) (info_bytes * j + last_byte) l

  stored_keeps : Kept is stored (info_bytes * j + position_byte) (info_bytes * j + send_byte)
  stored_keeps =
      let at = info_bytes * j + position_byte in
      kept_twice at (info_bytes * j + send_byte) (vec_keeps is at p) (vec_keeps (with_vec is at p) (info_bytes * j + last_byte) l)
      (omega arith) (omega arith) (omega arith) (omega arith)

  stored_same : (k c : ℕ) → c ≤ 16 → (b : Bool) → ltb j k ≡ b → word stored (info_bytes * k + c) ≡ word is (info_bytes * k + c)
  stored_same k c h true e = let g = ltb-true j k e in reads_past stored_keeps (info_bytes * k + c) 4 (omega arith)
  stored_same k c h false e = let g = ltb-false j k e in reads_before stored_keeps (info_bytes * k + c) 4 (omega arith)

  stored_sent : (k : ℕ) (b : Bool) → ltb k j ≡ b → word stored (info_bytes * k + send_byte) ≡ word is (info_bytes * k + send_byte)
  stored_sent k true e = let g = ltb-true k j e in reads_before stored_keeps (info_bytes * k + send_byte) 4 (omega arith)
  stored_sent k false e = let g = ltb-false k j e in reads_past stored_keeps (info_bytes * k + send_byte) 4 (omega arith)

  stored_like : Like is stored
  stored_like =
      record {
        long = vec_long (with_vec is (info_bytes * j + position_byte) p) (info_bytes * j + last_byte) l ∙ vec_long is (info_bytes * j + position_byte) p;
        bytes = λ h. vec_bytes (with_vec is (info_bytes * j + position_byte) p) (info_bytes * j + last_byte) l (vec_bytes is (info_bytes * j + position_byte) p h);
        same = λ k c h. stored_same k c h (ltb j k) refl;
        sent = λ k. stored_sent k (ltb k j) refl;
      }

pub moved_like : (arrived : Bool) (k : ℕ) (s : DynamicSourceState) (is : List ℕ) → Like is (object_moved arrived k s is).infos
unfolding object_moved
moved_like arrived k s is = stored_like is k _ _

-- ---- the loops, the element, the state

pub moved_all_like : (arrived : Bool) (first count : ℕ) (m : Moving) (is : List ℕ) → Like is (moved_all arrived first count m is).infos
unfolding moved_all
moved_all_like arrived first count m is =
    times_keeps (λ (w : objects.ObjectsWork). Like is w.infos) (moved_at arrived first)
    (λ d w h. like_trans h (moved_like arrived (first + 8 * d) (get_or w.moving.sources d objects.no_source) w.infos)) count 0 (record { moving = m; infos = is })
    (like_refl is)

pub applied_like : (w : Timing) (r : Reach) (b : ℕ) (k : SlotWork) → Like k.infos (block_applied w r b k).infos
unfolding block_applied
applied_like w r b k =
    let s = k.slot in
    moved_all_like (ramp_over (left_after w (get_or s.schedule b no_block))) (r.first + b) r.count s.moving k.infos

pub blocks_like : (w : Timing) (r : Reach) (n : ℕ) (k : SlotWork) → Like k.infos (blocks_applied w r n k).infos
unfolding blocks_applied
blocks_like w r n k =
    times_keeps (λ (x : SlotWork). Like k.infos x.infos) (block_turn w r)
    (λ b x h. cond_keeps (λ (y : SlotWork). Like k.infos y.infos) (due w (get_or x.slot.schedule b no_block)) (block_applied w r b x) x
    (λ _. like_trans h (applied_like w r b x)) (λ _. h))
    n 0 k (like_refl k.infos)

slot_of_like : (w : Timing) (i : ℕ) (t : Timed) → Like t.infos (slot_of w i t).infos
unfolding slot_of updated_sources
slot_of_like w i t =
    let e = element_of t.state i in
    blocks_like w (reach_of t.state i) e.blocks (slot_begun e t.state.gains t.state.sources t.infos)

infos_moved : (start : ℕ) (t : Timed) → Like t.infos (slot_moved start t).infos
unfolding slot_moved
infos_moved start t =
    let w = timing_of start t.state in
    let i = element_taken w t.state.states t.state.elements in
    let P : Timed → Type 0 = λ x. Like t.infos x.infos in
    cond_keeps P (eqb t.state.elements 0) t _ (λ _. like_refl t.infos)
    (λ _. cond_keeps P (active (element_of t.state i)) (slot_of w i t) t (λ _. slot_of_like w i t) (λ _. like_refl t.infos))

pub slot_like : (start : ℕ) (t : Timed) → Like t.infos (slot_at start t).infos
unfolding slot_at
slot_like start t = infos_moved start t
