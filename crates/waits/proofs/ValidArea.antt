-- What an area within its ranges is. Assumes nothing.
use Rattle.std.proofs.Common.{◌≡◌, ℕ, ◌+◌, ◌*◌, ◌<◌, ◌≤◌, Bool, true, false, ◌&&◌, leb, ltb, List, length, drop, ap, ◌∙◌, leb-true, ltb-true, ltb-false, refl, arith}
use lib.ListN.{length-drop}
use lib.Seq.{length-take-le}
use Rattle.fields.proofs.Theorems.{and_left, and_right, not_true, all_at}
use Rattle.records.specs.Laid.{update_at, is_updates, laid_out, count}
use Rattle.records.specs.LayoutAnswers.{IsLayout}
use Rattle.records.specs.ValuesInRange.{all_fit}
use Rattle.records.specs.declared.sent.Layout.{Layout}
use Rattle.records.proofs.Theorems.{found, whole_list, n_updates, updates_rise}
use Rattle.waits.specs.Area.{waiting_count, records_ahead, position_ahead, kept_records}
use Rattle.waits.specs.ValidAreas.{positions_ahead, all_far, area_valid}

abbrev pub lies_ahead : ℕ → List ℕ → ℕ → Bool
lies_ahead position ws i = leb position (position_ahead ws i) && ltb (position_ahead ws i) 1103806595072

module _ (position : ℕ) (ws : List ℕ) (valid : area_valid position ws ≡ true) where
  four : (leb (waiting_count ws) 8 && leb (records_ahead ws) 1200 && positions_ahead position ws && all_far ws) ≡ true
  unfolding area_valid
  four = and_left _ (all_fit (kept_records ws)) valid

  three : (leb (waiting_count ws) 8 && leb (records_ahead ws) 1200 && positions_ahead position ws) ≡ true
  three = and_left _ (all_far ws) four

  two : (leb (waiting_count ws) 8 && leb (records_ahead ws) 1200) ≡ true
  two = and_left _ (positions_ahead position ws) three

  pub few : waiting_count ws ≤ 8
  few = leb-true _ _ (and_left (leb (waiting_count ws) 8) _ two)

  pub few_records : records_ahead ws ≤ 1200
  few_records = leb-true _ _ (and_right (leb (waiting_count ws) 8) _ two)

  pub fitting : all_fit (kept_records ws) ≡ true
  unfolding area_valid
  fitting = and_right (leb (waiting_count ws) 8 && leb (records_ahead ws) 1200 && positions_ahead position ws && all_far ws) _ valid

  pub updates : is_updates (kept_records ws) (waiting_count ws) ≡ true
  updates = and_left (is_updates (kept_records ws) (waiting_count ws)) _ (and_right (leb (waiting_count ws) 8 && leb (records_ahead ws) 1200 && positions_ahead position ws) _ four)

  laid_counted : (laid_out (kept_records ws) ≡ true) × (count (kept_records ws) ≡ waiting_count ws)
  laid_counted = n_updates (kept_records ws) (waiting_count ws) (let l = few in omega (arith, l)) updates

  pub kept_laid : laid_out (kept_records ws) ≡ true
  kept_laid = laid_counted.0

  pub kept_count : count (kept_records ws) ≡ waiting_count ws
  kept_count = laid_counted.1

  -- update i lies ahead
  module _ (i : ℕ) (one : i < waiting_count ws) where
    both : lies_ahead position ws i ≡ true
    both = all_at (lies_ahead position ws) (waiting_count ws) i one (and_right (leb (waiting_count ws) 8 && leb (records_ahead ws) 1200) _ three)

    pub not_before : position ≤ position_ahead ws i
    not_before = leb-true _ _ (and_left (leb position (position_ahead ws i)) _ both)

    pub below_end : position_ahead ws i < 1103806595072
    below_end = ltb-true _ _ (and_right (leb position (position_ahead ws i)) _ both)

  pub length_kept_records : length ws ≡ 48072 → length (kept_records ws) ≡ 40 * records_ahead ws
  length_kept_records e = let l = few_records in let d = length-drop 72 ws in length-take-le (40 * records_ahead ws) (drop 72 ws) (omega (arith, l, d, e))

-- a list that is not laid out, or has another count, is no n updates
pub not_laid_updates : (m : List ℕ) (n : ℕ) → n ≤ 16 → laid_out m ≡ false → is_updates m n ≡ false
not_laid_updates m n few e = not_true _ (λ t. let q = (n_updates m n few t).0 in let z : ◌≡◌ {A = ℕ} 0 1 = cc in omega arith)

pub other_count : (m : List ℕ) (n k : ℕ) → n ≤ 16 → k ≡ count m → (k ≡ n → ⊥) → is_updates m n ≡ false
other_count m n k few q f = not_true _ (λ t. f (q ∙ (n_updates m n few t).1))

-- an update ends within its list, behind where it begins
module _ (m : List ℕ) (l : Layout) (laid : IsLayout m l) (i : ℕ) (one : i < l.count) where
  pub update_ends : 40 * update_at m (i + 1) ≤ length m
  update_ends =
      let w = whole_list m (count m) (found m laid.laid) in
      let c = laid.counted in
      by (ltb (i + 1) (count m)) refl w c
    where
      by : (b : Bool) → ltb (i + 1) (count m) ≡ b → 40 * update_at m (count m) ≡ length m → l.count ≡ count m → 40 * update_at m (i + 1) ≤ length m
      by true e w c = let r = updates_rise m (i + 1) (count m) (ltb-true _ _ e) in omega (arith, r, w)
      by false e w c =
          let f = ltb-false (i + 1) (count m) e in
          let q : update_at m (i + 1) ≡ update_at m (count m) = ap (update_at m) (let n : i + 1 ≡ count m = omega (arith, f, c, one) in n) in
          omega (arith, q, w)

  pub update_begins : update_at m i < update_at m (i + 1)
  update_begins = updates_rise m i (i + 1) (omega arith)

  pub update_stands : 40 * update_at m i + 40 ≤ length m
  update_stands = let a = update_begins in let b = update_ends in omega (arith, a, b)
