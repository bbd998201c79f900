-- Where none waits and none comes, nothing is written: the area stays to the byte, and refusal 25 does not arise. Assumes nothing.
use mathlib.Core.Path.{◌≡◌, refl, sym, ap, ap₂, ◌∙◌, subst}
use mathlib.Core.Bool.{Bool, true, false, ◌&&◌, cond}
use mathlib.Core.List.{List, [], ◌++◌}
use Prim.Native.Nat.{ℕ, zero, suc, ◌+◌, ◌-◌, ◌*◌, ◌≤◌, ◌<◌, min}
use native.Mathlib.Nat.{min-eq_left}
use native.Mathlib.Omega.{arith}
use lib.Dec.{eqb, leb, ltb}
use lib.ListN.{get_or, length, drop}
use lib.Seq.{ext_get_or}
use borrow.Author.Tests.{le-leb, ltb-true, ltb-false, eq-eqb}
use Rattle.std.proofs.lemmas.List.{length-take, length-drop}
use Rattle.words.specs.Words.{Bytes, number, with_number, with_word}
use Rattle.words.proofs.Theorems.{number_keeps, length_kept, number_bytes, number_small, reads_back, same_bytes}
use Rattle.fields.specs.Update.{is_far, offset}
use Rattle.fields.proofs.All.{not_true}
use Rattle.records.specs.Runs.{some}
use Rattle.records.specs.Falls.{no_sample, offset_in, waits_in}
use Rattle.records.specs.Laid.{update_at, count}
use Rattle.records.proofs.SomeAndLast.{some_at}
use Rattle.records.proofs.Updates.{whole_list}
use Rattle.waits.specs.Area.{Wait, area_bytes, waiting_count, records_ahead, kept_records, waits_of, wait_at}
use Rattle.waits.specs.Settled.{stays, staying, comes, coming, waits_next, fits, with_waiting, area_settled}
use Rattle.waits.specs.ValidAreas.{area_valid}
use Rattle.waits.proofs.Runs.{run_none}
use Rattle.waits.proofs.Ahead.{valid_updates, valid_records, valid_position}

-- a number that is written where it stands
written_back : (s : List ℕ) (at n : ℕ) → Bytes s → at + n ≤ length s → with_number s at n (number s at n) ≡ s
written_back s at n b h = ext_get_or 0 t s (length_kept s at n v) (λ i l. by (ltb i at) (ltb i (at + n)) i refl refl)
  where
    v : ℕ
    v = number s at n

    t : List ℕ
    t = with_number s at n v

    by : (x y : Bool) (i : ℕ) → ltb i at ≡ x → ltb i (at + n) ≡ y → get_or t i 0 ≡ get_or s i 0
    by true y i e f = (number_keeps s at n v).before i (ltb-true _ _ e)
    by false false i e f = (number_keeps s at n v).past i (ltb-false _ _ f)
    by false true i e f =
        let p = ltb-false _ _ e in
        let q = ltb-true _ _ f in
        let k : at + (i - at) ≡ i = omega (arith, p) in
        subst (λ (j : ℕ). get_or t j 0 ≡ get_or s j 0) k
        (same_bytes t s (number_bytes s at n v b) b at n (reads_back s at n v h (number_small s at n b)) (i - at) (omega (arith, p, q)))

-- an own update that comes has no offset in the frame
pub none_comes : (n : ℕ) (m : List ℕ) (at : ℕ → ℕ) → ((i : ℕ) → i < count m → at i ≡ offset_in n m (update_at m i)) → waits_in at (count m) ≡ false → (i : ℕ) → i < count m
    → comes n m i ≡ false
unfolding waits_in offset_in
none_comes n m at is none i h = not_true (comes n m i) (λ e. no (sym none ∙ found e))
  where
    found : comes n m i ≡ true → some (λ k. eqb (at k) no_sample) (count m) ≡ true
    found e = some_at (λ k. eqb (at k) no_sample) (count m) i h (eq-eqb _ _ (is i h ∙ ap (λ (b : Bool). cond b no_sample (offset m (update_at m i))) e))

    no : false ≡ true → ⊥
    no e = subst (λ (b : Bool). cond b ⊥ (Unit {0})) e tt

none_coming : (start n : ℕ) (m : List ℕ) (k i : ℕ) → ((j : ℕ) → i ≤ j → j < i + k → comes n m j ≡ false) → coming start n m k i ≡ []
unfolding coming
none_coming start n m zero i h = refl
none_coming start n m (suc k) i h =
    rw (h i (omega arith) (omega arith)) (none_coming start n m k (suc i) (λ j a b. h j (omega (arith, a)) (omega (arith, b))))

module _ (start n : ℕ) (ws m : List ℕ) (empty : waiting_count ws ≡ 0) (none : (i : ℕ) → i < count m → comes n m i ≡ false) where
  pub next_none : waits_next start n ws m ≡ []
  unfolding waits_next waits_of
  next_none =
      ap₂ (λ (vs us : List Wait). staying start n vs ++ us) nothing (none_coming start n m (count m) 0 (λ j a b. none j (omega (arith, b))))
    where
      nothing : waits_of ws ≡ []
      nothing = rw empty refl

  pub fits_none : fits start n ws m ≡ true
  unfolding fits
  fits_none = rw next_none refl

  module _ (size : length ws ≡ area_bytes) (bytes : Bytes ws) (valid : area_valid start ws ≡ true) where
    no_records : records_ahead ws ≡ 0
    unfolding update_at
    no_records =
        let e = whole_list (kept_records ws) (waiting_count ws) (valid_updates start ws valid) in
        let z : update_at (kept_records ws) (waiting_count ws) ≡ 0 = ap (update_at (kept_records ws)) empty in
        let l = length-take (40 * records_ahead ws) (drop 72 ws) in
        let d = length-drop 72 ws in
        let r = valid_records start ws valid in
        let k : min (40 * records_ahead ws) (length (drop 72 ws)) ≡ 40 * records_ahead ws = min-eq_left (omega (arith, d, size, r)) in
        omega (arith, e, z, l, k)

    pub settled_none : area_settled start n ws m ≡ ws
    unfolding area_settled with_waiting
    settled_none =
        ap (λ (vs : List Wait). with_waiting vs ws) next_none
        ∙ run_none (with_word (with_word ws 0 0) 4 0) 72
        ∙ ap (λ (s : List ℕ). with_word s 4 0) (ap (with_word ws 0) (sym empty) ∙ written_back ws 0 4 bytes (omega (arith, size)))
        ∙ ap (with_word ws 4) (sym no_records) ∙ written_back ws 4 4 bytes (omega (arith, size))

-- ---- a frame of no samples: none of those that wait falls, and each own one of kind 9 waits
module _ (start : ℕ) (ws : List ℕ) (valid : area_valid start ws ≡ true) where
  pub none_falls : (i : ℕ) → i < waiting_count ws → stays start 0 (wait_at ws i) ≡ true
  none_falls i h = le-leb (start + 0) _ (let p = (valid_position start ws valid i h).0 in omega (arith, p))

pub all_come : (m : List ℕ) (i : ℕ) → is_far m (update_at m i) ≡ true → comes 0 m i ≡ true
all_come m i e = ap (λ (b : Bool). b && leb 0 (offset m (update_at m i))) e ∙ le-leb 0 _ (omega arith)
