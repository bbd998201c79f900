-- R-1's sentence on an element that would have been kept. Assumes nothing.
use Prim.Native.Nat.{ℕ, suc, ◌+◌, ◌-◌, ◌*◌, ◌≤◌, ◌<◌}
use mathlib.Core.Path.{◌≡◌, refl, ap, ◌∙◌, subst}
use mathlib.Core.Logic.{◌⊎◌, inl, inr}
use mathlib.Core.Bool.{Bool, true, false, ◌&&◌, and-false}
use mathlib.Core.List.{List}
use lib.Dec.{eqb, ltb, lit<}
use lib.ListN.{length, get_or}
use native.Mathlib.Omega.{arith}
use borrow.Author.Tests.{ltb-true, ltb-false, ne_eqb}
use native.Mathlib.Nat.{mul-le-mul_left}
use Rattle.words.specs.Words.{float_at, with_word}
use Rattle.words.proofs.Back.{reads_back}
use Rattle.words.proofs.Beside.{Kept, number_keeps, reads_before, reads_past}
use Rattle.words.proofs.Numbers.{length_kept}
use Rattle.vectors.specs.Vectors.{zero_vec3}
use Rattle.fields.specs.declared.object.Info.{Info}
use Rattle.vectors.specs.Head.{has}
use Rattle.timed.specs.InfoSizes.{most_blocks, element_infos, info_bytes, all_bytes, position_byte, last_byte, send_byte, info_number}
use Rattle.timed.specs.Infos.{vec_at}
use Rattle.timed.specs.Rules.{middle, no_block}
use Rattle.timed.specs.Turns.{times}
use Rattle.timed.specs.State.{Timed, element_of}
use Rattle.timed.specs.declared.state.BlockState.{BlockState}
use Rattle.timed.specs.declared.state.MetadataRendererState.{MetadataRendererState}
use Rattle.timed.proofs.Theorems.{remaining_shifted, turned_at, made}
use Rattle.updates.specs.Said.{Element, Update}
use Rattle.info.specs.Written.{with_three, cleared, with_place, head_of, with_head, with_info}
use Rattle.updates.specs.Stored.{info_given, object_stored, object_given, objects_stored}
use Rattle.updates.specs.Applied.{Work, is_same, scheduled, element_next, element_given, elements_applied, applied}
use Rattle.updates.specs.Lifted.{WithinCounts, Afresh}
use Rattle.updates.proofs.StoredInfos.{Stored, one, head_stored, place_stored, three, info_stored, object_stored_is, objects_stored_is}
use Rattle.updates.proofs.Elements.{element_at}

-- ---- three words

vec_beside : {s t : List ℕ} {lo hi : ℕ} (at : ℕ) → Kept s t lo hi → (at + 12 ≤ lo) ⊎ (hi ≤ at) → vec_at t at ≡ vec_at s at
unfolding vec_at float_at
vec_beside at k (inl l) = rw (reads_before k at 4 (omega arith), reads_before k (at + 4) 4 (omega arith), reads_before k (at + 8) 4 (omega arith))
vec_beside at k (inr l) = rw (reads_past k at 4 (omega arith), reads_past k (at + 4) 4 (omega arith), reads_past k (at + 8) 4 (omega arith))

origin_written : (s : List ℕ) (at : ℕ) → at + 12 ≤ length s → vec_at (with_three s at 0 0 0) at ≡ zero_vec3
unfolding vec_at float_at with_three
origin_written s at l =
    let a = with_word s at 0 in
    let b = with_word a (at + 4) 0 in
    let la = length_kept s at 4 0 in
    let lb = length_kept a (at + 4) 4 0 in
    let kb = number_keeps a (at + 4) 4 0 in
    let kc = number_keeps b (at + 8) 4 0 in
    rw (
      reads_before kc at 4 (omega arith),
      reads_before kb at 4 (omega arith),
      reads_back s at 4 0 (omega arith) (lit< tt),
      reads_before kc (at + 4) 4 (omega arith),
      reads_back a (at + 4) 4 0 (omega arith) (lit< tt),
      reads_back b (at + 8) 4 0 (omega arith) (lit< tt),
    )

-- ---- an info

record Origin (i : Info) (k : ℕ) (is : List ℕ) : Type 0 where
  long : length is ≡ all_bytes
  position : has i.head 8 ≡ false → vec_at is (info_bytes * k + position_byte) ≡ zero_vec3
  last : vec_at is (info_bytes * k + last_byte) ≡ zero_vec3

origin_beside : {i : Info} {k : ℕ} {s t : List ℕ} {lo hi : ℕ} → Stored s t lo hi → (info_bytes * k + info_bytes ≤ lo) ⊎ (hi ≤ info_bytes * k) → Origin i k s → Origin i k t
origin_beside {k = k} w (inl l) h =
    record {
      long = w.long ∙ h.long;
      position = λ e. vec_beside (info_bytes * k + position_byte) w.kept (inl (omega arith)) ∙ h.position e;
      last = vec_beside (info_bytes * k + last_byte) w.kept (inl (omega arith)) ∙ h.last;
    }
origin_beside {k = k} w (inr l) h =
    record {
      long = w.long ∙ h.long;
      position = λ e. vec_beside (info_bytes * k + position_byte) w.kept (inr (omega arith)) ∙ h.position e;
      last = vec_beside (info_bytes * k + last_byte) w.kept (inr (omega arith)) ∙ h.last;
    }

-- the positions of a new one, from byte `at` on
cleared_origin : (at : ℕ) (s : List ℕ) → at + 24 ≤ length s → (vec_at (cleared true at s) at ≡ zero_vec3) × (vec_at (cleared true at s) (at + 12) ≡ zero_vec3)
unfolding cleared
cleared_origin at s l =
    let b = with_three s at 0 0 0 in
    let n = (three s at 0 0 0).long in
    (vec_beside at (three b (at + 12) 0 0 0).kept (inl (omega arith)) ∙ origin_written s at (omega arith), origin_written b (at + 12) (omega arith))

no_place : (i : Info) (at : ℕ) (s : List ℕ) → has i.head 8 ≡ false → with_place i at s ≡ s
unfolding with_place
no_place i at s e = rw e

info_origin : (bed : Bool) (i : Info) (k : ℕ) (s : List ℕ) → k < 512 → length s ≡ all_bytes → Origin i k (with_info true bed i (info_bytes * k) s)
unfolding with_info
info_origin bed i k s l n =
    let a = with_head (head_of bed i) i (info_bytes * k) s in
    let at = info_bytes * k + position_byte in
    let m = (head_stored (head_of bed i) i (info_bytes * k) s).long in
    let c = cleared_origin at a (omega arith) in
    let p = place_stored i at (cleared true at a) in
    let w = one (with_place i at (cleared true at a)) (info_bytes * k + send_byte) i.send in
    let q : at + 12 ≡ info_bytes * k + last_byte = omega arith in
    record {
      long = (info_stored true bed i (info_bytes * k) s).long ∙ n;
      position = λ e. vec_beside at w.kept (inl (omega arith)) ∙ rw (no_place i at (cleared true at a) e) c.0;
      last = vec_beside (info_bytes * k + last_byte) w.kept (inl (omega arith))
          ∙ subst (λ (j : ℕ). vec_at (with_place i at (cleared true at a)) j ≡ zero_vec3) q (vec_beside (at + 12) p.kept (inr (omega arith)) ∙ c.1);
    }

-- ---- an object's infos, an element's, all

abbrev Long : List ℕ → Type 0
Long is = length is ≡ all_bytes

-- n bytes at each number, those of two numbers
apart : (n a b at : ℕ) → (b ≡ a → ⊥) → (at + n * a + n ≤ at + n * b) ⊎ (at + n * b + n ≤ at + n * a)
apart n a b at ne = by (ltb a b) refl
  where
    by : (t : Bool) → ltb a b ≡ t → (at + n * a + n ≤ at + n * b) ⊎ (at + n * b + n ≤ at + n * a)
    by true e = let l = ltb-true a b e in inl (omega (arith, mul-le-mul_left {m = suc a} {n = b} n l))
    by false e = let l = ltb-false a b e in inr (omega (arith, mul-le-mul_left {m = suc b} {n = a} n (omega arith)))

object_origin : (bed : Bool) (x : Element) (first o b : ℕ) (s : List ℕ) → first + 8 ≤ 512 → x.blocks ≤ 8 → b < x.blocks → Long s →
    Origin (x.info o b) (first + b) (object_stored true bed x first o s)
unfolding object_stored
object_origin bed x first o b s most few l h =
    made Long (Origin (x.info o b) (first + b)) (info_given true bed x first o) x.blocks b
    (λ j t q i. (info_stored true bed (x.info o j) (info_bytes * (first + j)) t).long ∙ i)
    (λ t i. info_origin bed (x.info o b) (first + b) t (omega arith) i)
    (λ j t q ne i.
    origin_beside (info_stored true bed (x.info o j) (info_bytes * (first + j)) t)
    (elim (apart info_bytes b j (info_bytes * first) ne) [ inl z ↦ inl (omega arith) | inr z ↦ inr (omega arith) ]) i)
    l s h

objects_origin : (isf : ℕ) (x : Element) (first n o b : ℕ) (s : List ℕ) → first + 256 ≤ 512 → n ≤ 32 → x.blocks ≤ 8 → o < n → b < x.blocks → Long s →
    Origin (x.info o b) (first + 8 * o + b) (objects_stored true isf x first n s)
unfolding objects_stored
objects_origin isf x first n o b s most all few l m h =
    made Long (Origin (x.info o b) (first + 8 * o + b)) (object_given true isf x first) n o
    (λ j t q i. (object_stored_is true (ltb j isf) x (first + 8 * j) j t few).long ∙ i)
    (λ t i. object_origin (ltb o isf) x (first + 8 * o) o b t (omega arith) few m i)
    (λ j t q ne i.
    origin_beside (object_stored_is true (ltb j isf) x (first + 8 * j) j t few)
    (elim (apart (most_blocks * info_bytes) o j (info_bytes * first) ne) [ inl z ↦ inl (omega arith) | inr z ↦ inr (omega arith) ]) i)
    l s h

infos_origin : (u : Update) (w : Work) → u.elements ≤ 2 → u.objects ≤ 32 → ((e : ℕ) → e < u.elements → (u.element e).blocks ≤ 8) → Long w.infos →
    (e o b : ℕ) → e < u.elements → o < u.objects → b < (u.element e).blocks →
    Origin ((u.element e).info o b) (info_number e o b) (times u.elements 0 (element_given false u) w).infos
unfolding element_given
infos_origin u w two most few h e o b le lo lb =
    let same : e * 256 + 8 * o + b ≡ info_number e o b = omega arith in
    subst (λ (k : ℕ). Origin ((u.element e).info o b) k (times u.elements 0 (element_given false u) w).infos) same
    (made (λ (v : Work). Long v.infos) (λ (v : Work). Origin ((u.element e).info o b) (e * 256 + 8 * o + b) v.infos) (element_given false u) u.elements e
    (λ j v q i. (objects_stored_is true u.isf (u.element j) (j * 256) u.objects v.infos (few j q) most).long ∙ i)
    (λ v i. objects_origin u.isf (u.element e) (e * 256) u.objects o b v.infos (omega arith) most (few e le) lo lb i)
    (λ j v q ne i.
    origin_beside (objects_stored_is true u.isf (u.element j) (j * 256) u.objects v.infos (few j q) most)
    (let n = few e le in elim (apart (element_infos * info_bytes) e j 0 ne) [ inl z ↦ inl (omega arith) | inr z ↦ inr (omega arith) ]) i)
    le w h)

-- ---- the update

not_same : (s : MetadataRendererState) (u : Update) → (s.objects - s.isf ≡ u.objects - u.isf → ⊥) → is_same s u ≡ false
not_same s u ne = rw (ne_eqb (s.objects - s.isf) (u.objects - u.isf) ne) (and-false (eqb s.elements u.elements && eqb s.objects u.objects))

given_unapplied : (x : Element) (s : List BlockState) (b : ℕ) → length s ≡ 8 → x.blocks ≤ 8 → b < x.blocks → (get_or (scheduled x s) b no_block).used ≡ false
unfolding scheduled
given_unapplied x s b n few l =
    ap (λ (y : BlockState). y.used) (turned_at (λ j _. record { offset = (x.block j).offset; ramp = (x.block j).ramp; used = false }) no_block x.blocks b s l (omega arith))

-- an element of an update whose number of dynamic objects differs from the last applied one's
pub lifted : (n : ℕ) (u : Update) (t : Timed) → WithinCounts u t → (t.state.objects - t.state.isf ≡ u.objects - u.isf → ⊥) →
    (e : ℕ) → e < u.elements → Afresh u e (applied n u t)
unfolding applied elements_applied element_next
lifted n u t f ne e l =
    let d = not_same t.state u ne in
    let two = f.elements in
    let states = f.states in
    let x = element_at n u t e l (omega arith) in
    let o : (o b : ℕ) → o < u.objects → b < (u.element e).blocks → Origin ((u.element e).info o b) (info_number e o b) (applied n u t).infos = λ o b p q.
    rw d (infos_origin u (record { states = t.state.states; infos = t.infos }) two f.objects f.blocks f.infos e o b l p q) in
    record {
      flags = rw (x, d);
      tracks = rw (x, d);
      remaining = rw (x, d) (remaining_shifted middle (omega arith));
      unapplied = λ b q. rw x (given_unapplied (u.element e) (element_of t.state e).schedule b (f.schedules e (omega arith)) (f.blocks e l) q);
      position = λ i b p q. (o i b p q).position;
      last = λ i b p q. (o i b p q).last;
    }
