-- What is read from an area into which waits were written: how many they are, their positions and records, in bytes. Assumes nothing.
use mathlib.Core.Path.{◌≡◌, refl, sym, ap, ◌∙◌, subst}
use mathlib.Core.Bool.{Bool, true, false}
use mathlib.Core.List.{List, [], ◌∷◌, ◌++◌}
use Prim.Native.Nat.{ℕ, zero, suc, ◌+◌, ◌-◌, ◌*◌, ◌/◌, ◌^◌, ◌≤◌, ◌<◌}
use native.Mathlib.Nat.{min-le_left}
use native.Mathlib.Omega.{arith}
use lib.Dec.{ltb, lit<}
use lib.ListN.{get_or, length, take, drop, get_or-append}
use lib.Seq.{length-take-le, get_or-append-add}
use borrow.Author.Tests.{ltb-true, ltb-false}
use Rattle.std.proofs.lemmas.List.{drop_at, take_at, length-take, get_or-take, get_or-drop, get_or_past}
use Rattle.words.specs.Words.{Bytes, long, with_word, with_long}
use Rattle.words.proofs.Theorems.{reads_back, reads_before, number_keeps, number_bytes, length_kept}
use Rattle.waits.specs.Area.{Wait, area_bytes, waiting_count, records_ahead, position_ahead, kept_records}
use Rattle.waits.specs.Settled.{all_records, with_positions, with_run, with_waiting}
use Rattle.waits.proofs.Runs.{run_keeps, length_run}
use Rattle.waits.proofs.LaidFrom.{length_positions, positions_keep}
use Rattle.waits.proofs.Joined.{AllOf, wait_in}

-- ---- bytes
pub two_bytes : (xs ys : List ℕ) → Bytes xs → Bytes ys → Bytes (xs ++ ys)
two_bytes xs ys f g i = by (ltb i (length xs)) refl
  where
    by : (b : Bool) → ltb i (length xs) ≡ b → get_or (xs ++ ys) i 0 < 256
    by true e = subst (λ (v : ℕ). v < 256) (sym (get_or-append xs ys 0 i (ltb-true i (length xs) e))) (f i)
    by false e =
        let h : length xs ≤ i = ltb-false i (length xs) e in
        let w : i ≡ length xs + (i - length xs) = omega (arith, h) in
        subst (λ (v : ℕ). v < 256) (sym (ap (λ (k : ℕ). get_or (xs ++ ys) k 0) w ∙ get_or-append-add xs ys (i - length xs) 0)) (g (i - length xs))

pub all_bytes : (vs : List Wait) → AllOf (λ v. Bytes v.records) vs → Bytes (all_records vs)
all_bytes [] f = λ i. lit< tt
all_bytes (v ∷ vs) f = two_bytes v.records (all_records vs) f.0 (all_bytes vs f.1)

positions_bytes : (X : List ℕ) (k : ℕ) (vs : List Wait) → Bytes X → Bytes (with_positions X k vs)
positions_bytes X k [] h = h
positions_bytes X k (v ∷ vs) h = positions_bytes (with_long X (8 + 8 * k) v.position) (suc k) vs (number_bytes X (8 + 8 * k) 8 v.position h)

length_most : (n : ℕ) (s : List ℕ) → length (take n s) ≤ n
length_most n s = let e = length-take n s in let m = min-le_left n (length s) in omega (arith, e, m)

take_bytes : (n : ℕ) (s : List ℕ) → Bytes s → Bytes (take n s)
take_bytes n s f i = by (ltb i n) refl
  where
    past : n ≤ i → get_or (take n s) i 0 ≡ 0
    past h = get_or_past (take n s) i 0 (let l = length_most n s in omega (arith, h, l))

    by : (b : Bool) → ltb i n ≡ b → get_or (take n s) i 0 < 256
    by true e = subst (λ (v : ℕ). v < 256) (sym (get_or-take n s i 0 (ltb-true i n e))) (f i)
    by false e = subst (λ (v : ℕ). v < 256) (sym (past (ltb-false i n e))) (lit< tt)

drop_bytes : (n : ℕ) (s : List ℕ) → Bytes s → Bytes (drop n s)
drop_bytes n s f i = subst (λ (v : ℕ). v < 256) (sym (get_or-drop n s i 0)) (f (n + i))

run_bytes : (Y xs : List ℕ) (at : ℕ) → Bytes Y → Bytes xs → Bytes (with_run Y at xs)
run_bytes Y xs at f g = two_bytes (take at Y) (xs ++ drop (at + length xs) Y) (take_bytes at Y f) (two_bytes xs (drop (at + length xs) Y) g (drop_bytes (at + length xs) Y f))

pub kept_bytes : (ws : List ℕ) → Bytes ws → Bytes (kept_records ws)
kept_bytes ws f = take_bytes (40 * records_ahead ws) (drop 72 ws) (drop_bytes 72 ws f)

-- ---- positions
position_in : (X : List ℕ) (k j : ℕ) (vs : List Wait) → AllOf (λ v. v.position < 256 ^ 8) vs → j < length vs → 8 + 8 * (k + length vs) ≤ length X
    → long (with_positions X k vs) (8 + 8 * (k + j)) ≡ (wait_in vs j).position
position_in X k j [] f h l = absurd (omega (arith, h))
position_in X k zero (v ∷ vs) f h l =
    let Y = with_long X (8 + 8 * k) v.position in
    ap (long (with_positions Y (suc k) vs)) (let e : 8 + 8 * (k + 0) ≡ 8 + 8 * k = omega arith in e)
    ∙ reads_before (positions_keep Y (suc k) vs) (8 + 8 * k) 8 (omega arith) ∙ reads_back X (8 + 8 * k) 8 v.position (omega (arith, l)) f.0
position_in X k (suc j) (v ∷ vs) f h l =
    let Y = with_long X (8 + 8 * k) v.position in
    ap (long (with_positions Y (suc k) vs)) (let e : 8 + 8 * (k + suc j) ≡ 8 + 8 * (suc k + j) = omega arith in e)
    ∙ position_in Y (suc k) j vs f.1 (omega (arith, h)) (let e = length_kept X (8 + 8 * k) 8 v.position in omega (arith, e, l))

-- ---- the area
module _ (vs : List Wait) (ws : List ℕ) (size : length ws ≡ area_bytes) (few : length vs ≤ 8) (fit : length (all_records vs) ≤ 48000) where
  abbrev records : ℕ
  records = length (all_records vs) / 40

  abbrev headed : List ℕ
  headed = with_word (with_word ws 0 (length vs)) 4 records

  abbrev placed : List ℕ
  placed = with_positions headed 0 vs

  length_headed : length headed ≡ 48072
  length_headed = length_kept (with_word ws 0 (length vs)) 4 4 records ∙ length_kept ws 0 4 (length vs) ∙ size

  length_placed : length placed ≡ 48072
  length_placed = length_positions headed 0 vs ∙ length_headed

  room : 72 + length (all_records vs) ≤ length placed
  room = let e = length_placed in omega (arith, e, fit)

  start : 72 ≤ length placed
  start = let e = length_placed in omega (arith, e)

  pub written_length : length (with_waiting vs ws) ≡ area_bytes
  unfolding with_waiting
  written_length = length_run placed (all_records vs) 72 room ∙ length_placed

  pub written_bytes : Bytes ws → Bytes (all_records vs) → Bytes (with_waiting vs ws)
  unfolding with_waiting
  written_bytes f g =
      run_bytes placed (all_records vs) 72
      (positions_bytes headed 0 vs (number_bytes (with_word ws 0 (length vs)) 4 4 records (number_bytes ws 0 4 (length vs) f))) g

  pub written_count : waiting_count (with_waiting vs ws) ≡ length vs
  unfolding with_waiting
  written_count =
      reads_before (run_keeps placed (all_records vs) 72 start) 0 4 (omega arith) ∙ reads_before (positions_keep headed 0 vs) 0 4 (omega arith)
      ∙ reads_before (number_keeps (with_word ws 0 (length vs)) 4 4 records) 0 4 (omega arith)
      ∙ reads_back ws 0 4 (length vs) (omega (arith, size)) (small (length vs) (omega (arith, few)))
    where
      small : (n : ℕ) → n < 4294967296 → n < 256 ^ 4
      small n h = h

  pub written_records : records_ahead (with_waiting vs ws) ≡ records
  unfolding with_waiting
  written_records =
      reads_before (run_keeps placed (all_records vs) 72 start) 4 4 (omega arith) ∙ reads_before (positions_keep headed 0 vs) 4 4 (omega arith)
      ∙ reads_back (with_word ws 0 (length vs)) 4 4 records (let e = length_kept ws 0 4 (length vs) in omega (arith, e, size)) (small records (omega (arith, fit)))
    where
      small : (n : ℕ) → n < 4294967296 → n < 256 ^ 4
      small n h = h

  pub written_position : AllOf (λ v. v.position < 256 ^ 8) vs → (j : ℕ) → j < length vs → position_ahead (with_waiting vs ws) j ≡ (wait_in vs j).position
  unfolding with_waiting
  written_position f j h =
      reads_before (run_keeps placed (all_records vs) 72 start) (8 + 8 * j) 8 (omega (arith, h, few))
      ∙ ap (long placed) (let e : 8 + 8 * j ≡ 8 + 8 * (0 + j) = omega arith in e) ∙ position_in headed 0 j vs f h (let e = length_headed in omega (arith, e, few))

  pub written_kept : 40 * records ≡ length (all_records vs) → kept_records (with_waiting vs ws) ≡ all_records vs
  unfolding with_waiting
  written_kept w =
      ap (λ (k : ℕ). take (40 * k) (drop 72 (with_waiting vs ws))) written_records
      ∙ ap (take (40 * records)) (drop_at (take 72 placed) (all_records vs ++ drop (72 + length (all_records vs)) placed) 72 (length-take-le 72 placed start))
      ∙ take_at (all_records vs) (drop (72 + length (all_records vs)) placed) (40 * records) (sym w)
