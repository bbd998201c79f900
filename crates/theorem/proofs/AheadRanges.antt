-- R-12: what waits lies in its ranges at a stream position (`Ahead`), and refusals 5 and 6 let its records pass (`Kept`). Assumes nothing.
use Prim.Native.Nat.{ℕ, zero, ◌*◌, ◌≤◌}
use mathlib.Core.Path.{◌≡◌, refl, sym, ◌∙◌, subst}
use mathlib.Core.Bool.{true}
use mathlib.Core.List.{List, []}
use native.Mathlib.Omega.{arith}
use borrow.Author.Tests.{leb-true, eqb-true}
use lib.Dec.{leb}
use lib.ListN.{length, take, drop, replicate, length-replicate}
use Rattle.words.specs.Words.{Bytes}
use Rattle.fields.specs.RecordBytes.{all}
use Rattle.fields.proofs.All.{and_left, and_right}
use Rattle.records.specs.Laid.{is_whole_update, update_at, is_updates, laid_out, count}
use Rattle.records.specs.ValuesInRange.{in_range, all_fit}
use Rattle.records.proofs.Updates.{laid_out_is, counted}
use Rattle.waits.specs.Area.{most_waiting, records_at, area_bytes, waiting_count, records_ahead, kept_records}
use Rattle.waits.specs.ValidAreas.{all_far, area_valid}
use Rattle.store.proofs.Decoded.{bytes_take, bytes_drop}
use Rattle.theorem.proofs.ZeroBytes.{zero_bytes, zero_number}

pub record Ahead (n : ℕ) (ws : List ℕ) : Type 0 where
  pub long : length ws ≡ area_bytes
  pub bytes : Bytes ws
  pub valid : area_valid n ws ≡ true

pub record Kept (ws : List ℕ) : Type 0 where
  pub long : length ws ≡ area_bytes
  pub bytes : Bytes ws
  pub laid : laid_out (kept_records ws) ≡ true
  pub counted : count (kept_records ws) ≡ waiting_count ws
  pub range : in_range (kept_records ws) ≡ true

pub kept_bytes : (ws : List ℕ) → Bytes ws → Bytes (kept_records ws)
kept_bytes ws b = bytes_take (40 * records_ahead ws) (drop records_at ws) (bytes_drop records_at ws b)

-- ---- the records of a valid area

pub record LaidAhead (ws : List ℕ) : Type 0 where
  pub laid : laid_out (kept_records ws) ≡ true
  pub counted : count (kept_records ws) ≡ waiting_count ws
  pub fit : all_fit (kept_records ws) ≡ true

pub laid_ahead : (n : ℕ) (ws : List ℕ) → Ahead n ws → LaidAhead ws
unfolding area_valid is_updates
laid_ahead n ws a =
    let m = kept_records ws in
    let k = waiting_count ws in
    let far : all_far ws ≡ true = and_right _ _ (and_left _ _ a.valid) in
    let updates : is_updates m k ≡ true = and_left _ _ far in
    let few : k ≤ most_waiting = leb-true k most_waiting (and_left _ _ (and_left _ _ (and_left _ _ (and_left _ _ a.valid)))) in
    let passed : all (λ i. is_whole_update m (update_at m i)) k ≡ true = and_left _ _ updates in
    let end : 40 * update_at m k ≡ length m = eqb-true _ _ (and_right _ _ updates) in
    record {
      laid = laid_out_is m k (omega arith) passed end;
      counted = counted m k (omega arith) passed end;
      fit = and_right _ (all_fit m) a.valid;
    }

-- ---- an area in which none waits

module _ (ws : List ℕ) (none : waiting_count ws ≡ 0) (no_records : records_ahead ws ≡ 0) where
  empty_valid : (n : ℕ) → area_valid n ws ≡ true
  unfolding area_valid is_updates update_at all all_fit
  empty_valid n = rw (none, no_records) refl

  empty_kept : length ws ≡ area_bytes → Bytes ws → Kept ws
  unfolding update_at all in_range
  empty_kept l b =
      let e : kept_records ws ≡ [] = rw no_records refl in
      record {
        long = l;
        bytes = b;
        laid = subst (λ (m : List ℕ). laid_out m ≡ true) (sym e) (laid_out_is [] 0 (omega arith) refl refl);
        counted = subst (λ (m : List ℕ). count m ≡ waiting_count ws) (sym e) (counted [] 0 (omega arith) refl refl ∙ sym none);
        range = subst (λ (m : List ℕ). in_range m ≡ true) (sym e) refl;
      }

pub ahead_none : Ahead 0 (replicate area_bytes 0)
ahead_none = record {
  long = length-replicate {A = ℕ} area_bytes 0;
  bytes = zero_bytes area_bytes;
  valid = empty_valid (replicate area_bytes 0) (zero_number area_bytes 0 4) (zero_number area_bytes 4 4) 0;
}

pub kept_none : Kept (replicate area_bytes 0)
kept_none = empty_kept (replicate area_bytes 0) (zero_number area_bytes 0 4) (zero_number area_bytes 4 4) (length-replicate {A = ℕ} area_bytes 0) (zero_bytes area_bytes)
