-- After a frame that is accepted the area is within its ranges again, and has what `waits_next` says. Assumes nothing.
use mathlib.Core.Path.{◌≡◌, refl, sym, ap, ap₂, ◌∙◌, subst}
use mathlib.Core.Bool.{Bool, true, false, ◌&&◌, cond}
use mathlib.Core.List.{List, [], ◌∷◌}
use mathlib.Core.Logic.{inl, inr}
use Prim.Native.Nat.{ℕ, suc, ◌+◌, ◌-◌, ◌*◌, ◌^◌, ◌≤◌, ◌<◌}
use native.Mathlib.Omega.{arith}
use lib.Dec.{leb, ltb}
use lib.ListN.{length}
use borrow.Author.Tests.{leb-true, leb-false, ltb-true, ltb-false, le-leb, lt-ltb}
use Rattle.words.specs.Words.{Bytes, word, half}
use Rattle.words.proofs.Theorems.{number_small}
use Rattle.fields.specs.Update.{is_far, offset}
use Rattle.fields.proofs.All.{and_left, and_right, all_at, all_true}
use Rattle.records.specs.Runs.{each}
use Rattle.records.specs.Falls.{no_sample, offset_in}
use Rattle.records.specs.Laid.{update_at, is_updates, laid_out, count}
use Rattle.records.specs.ValuesInRange.{record_in_range, in_range, record_fits, all_fit}
use Rattle.records.proofs.Reached.{found}
use Rattle.records.proofs.Updates.{n_updates}
use Rattle.records.proofs.Fits.{in_range_fits}
use Rattle.waits.specs.Area.{Wait, area_bytes, waiting_count, records_ahead, position_ahead, kept_records, records_of, wait_at, waits_of}
use Rattle.waits.specs.Settled.{falls_at, comes, waits_next, all_records, fits, area_settled}
use Rattle.waits.specs.ValidAreas.{area_valid, positions_ahead, all_far, end_of_positions}
use Rattle.waits.specs.KeptOrFallen.{FallsOrStays, FallsOrWaits, KeptOrFallen}
use Rattle.waits.proofs.Alike.{fits_like, in_range_like}
use Rattle.waits.proofs.Pieces.{One, one_of, piece_fits, piece_in_range, piece_far, piece_bytes}
use Rattle.waits.proofs.Joined.{AllOf, wait_in, one_in, records_back, far_back, all_pass}
use Rattle.waits.proofs.Written.{all_bytes, written_bytes, written_position, kept_bytes}
use Rattle.waits.proofs.Settling.{of_weaker, of_next, of_pieces, ones, few, short, list, kept_is, count_is, records_are, size_is}

both : {a b : Bool} → a ≡ true → b ≡ true → a && b ≡ true
both x y = cc

-- ---- what an area within its ranges says
module _ (position : ℕ) (ws : List ℕ) (valid : area_valid position ws ≡ true) where
  four : (leb (waiting_count ws) 8 && leb (records_ahead ws) 1200 && positions_ahead position ws && all_far ws) ≡ true
  unfolding area_valid
  four = and_left (leb (waiting_count ws) 8 && leb (records_ahead ws) 1200 && positions_ahead position ws && all_far ws) _ valid

  pub valid_fits : all_fit (kept_records ws) ≡ true
  unfolding area_valid
  valid_fits = and_right (leb (waiting_count ws) 8 && leb (records_ahead ws) 1200 && positions_ahead position ws && all_far ws) _ valid

  far : all_far ws ≡ true
  far = and_right (leb (waiting_count ws) 8 && leb (records_ahead ws) 1200 && positions_ahead position ws) _ four

  pub valid_updates : is_updates (kept_records ws) (waiting_count ws) ≡ true
  valid_updates = and_left (is_updates (kept_records ws) (waiting_count ws)) _ far

  pub valid_far : (i : ℕ) → i < waiting_count ws → is_far (kept_records ws) (update_at (kept_records ws) i) ≡ true
  valid_far i h = all_at (λ i. is_far (kept_records ws) (update_at (kept_records ws) i)) (waiting_count ws) i h (and_right (is_updates (kept_records ws) (waiting_count ws)) _ far)

  pub valid_position : (i : ℕ) → i < waiting_count ws → (position ≤ position_ahead ws i) × (position_ahead ws i < end_of_positions)
  valid_position i h =
      let p : positions_ahead position ws ≡ true =
      and_right (leb (waiting_count ws) 8 && leb (records_ahead ws) 1200) _ (and_left (leb (waiting_count ws) 8 && leb
      (records_ahead ws) 1200 && positions_ahead position ws) _ four) in
      let e = all_at (λ i. leb position (position_ahead ws i) && ltb (position_ahead ws i) end_of_positions) (waiting_count ws) i h p in
      (leb-true _ _ (and_left (leb position (position_ahead ws i)) _ e), ltb-true _ _ (and_right (leb position (position_ahead ws i)) _ e))

  pub valid_records : records_ahead ws ≤ 1200
  valid_records =
      leb-true _ _ (and_right (leb (waiting_count ws) 8) _
      (and_left (leb (waiting_count ws) 8 && leb (records_ahead ws) 1200) _ (and_left (leb (waiting_count ws) 8 && leb
      (records_ahead ws) 1200 && positions_ahead position ws) _ four)))

  pub valid_few : waiting_count ws ≤ 8
  valid_few =
      leb-true _ _ (and_left (leb (waiting_count ws) 8) _
      (and_left (leb (waiting_count ws) 8 && leb (records_ahead ws) 1200) _ (and_left (leb (waiting_count ws) 8 && leb
      (records_ahead ws) 1200 && positions_ahead position ws) _ four)))

-- ---- where an own update lies that comes
comes_far : (n : ℕ) (m : List ℕ) (i : ℕ) → comes n m i ≡ true → (is_far m (update_at m i) ≡ true) × (n ≤ offset m (update_at m i))
comes_far n m i e = (and_left (is_far m (update_at m i)) _ e, leb-true _ _ (and_right (is_far m (update_at m i)) _ e))

far_offset : (m : List ℕ) (u : ℕ) → Bytes m → is_far m u ≡ true → offset m u < 4294967296
far_offset m u b e =
    subst (λ (v : ℕ). v < 4294967296) (sym (ap (λ (f : Bool). cond f (word m (40 * u + 28)) (half m (40 * u + 2))) e)) (small (number_small m (40 * u + 28) 4 b))
  where
    small : {k : ℕ} → k < 256 ^ 4 → k < 4294967296
    small h = h

each_is : (f : ℕ → Wait) (vs : List Wait) → ((i : ℕ) → i < length vs → f i ≡ wait_in vs i) → each f (length vs) ≡ vs
unfolding each
each_is f [] h = refl
each_is f (v ∷ vs) h = ap₂ (λ (w : Wait) (us : List Wait). w ∷ us) (h 0 (omega arith)) (each_is (λ k. f (suc k)) vs (λ i l. h (suc i) (omega (arith, l))))

same_wait : {p q : ℕ} {r s : List ℕ} → p ≡ q → r ≡ s → ◌≡◌ {A = Wait} (record { position = p; records = r }) (record { position = q; records = s })
same_wait a b = cc

module _ (start n : ℕ) (ws m : List ℕ) (near : start + n ≤ 1099511627776) (size : length ws ≡ area_bytes) (bytes : Bytes ws) (valid : area_valid start ws ≡ true)
    (given : Bytes m) (laid : laid_out m ≡ true) (ranges : in_range m ≡ true) (fit : fits start n ws m ≡ true) where
  abbrev kept : is_updates (kept_records ws) (waiting_count ws) ≡ true
  kept = valid_updates start ws valid

  abbrev vs : List Wait
  vs = waits_next start n ws m

  abbrev after : List ℕ
  after = area_settled start n ws m

  -- positions
  abbrev Inside : Wait → Type 0
  Inside v = (start + n ≤ v.position) × (v.position < end_of_positions)

  inside : AllOf Inside vs
  inside =
      of_next start n ws m Inside
      (λ i h s. (leb-true _ _ s, (valid_position start ws valid i h).1))
      (λ i h c.
      let f = comes_far n m i c in
      let o = far_offset m (update_at m i) given f.0 in
      let g = f.1 in
      (omega (arith, g), omega (arith, near, o)))

  position_is : (j : ℕ) → j < length vs → position_ahead after j ≡ (wait_in vs j).position
  unfolding area_settled
  position_is = written_position vs ws size (few start n ws m kept laid size fit) (short start n ws m kept laid size fit) (of_weaker Inside (λ v. v.position < 256 ^ 8) vs
      (λ v p. wide p.1) inside)
    where
      wide : {k : ℕ} → k < end_of_positions → k < 256 ^ 8
      wide {k} h = big (omega (arith, h))
        where
          big : k < 18446744073709551616 → k < 256 ^ 8
          big h = h

  -- bytes
  bytes_after : Bytes after
  unfolding area_settled
  bytes_after =
      written_bytes vs ws size (few start n ws m kept laid size fit) (short start n ws m kept laid size fit) bytes
      (all_bytes vs (of_pieces start n ws m kept laid Bytes (λ i h. piece_bytes (kept_records ws) (waiting_count ws) i h kept (kept_bytes ws bytes)) (λ i h. piece_bytes m
      (count m) i h (found m laid) given)))

  -- records
  far_pieces : AllOf (λ v. is_far v.records 0 ≡ true) vs
  far_pieces =
      of_next start n ws m (λ v. is_far v.records 0 ≡ true)
      (λ i h s. piece_far (kept_records ws) (waiting_count ws) i h kept ∙ valid_far start ws valid i h)
      (λ i h c. piece_far m (count m) i h (found m laid) ∙ (comes_far n m i c).0)

  fits_after : all_fit (all_records vs) ≡ true
  unfolding all_fit
  fits_after =
      all_pass record_fits fits_like vs
      (of_pieces start n ws m kept laid (λ p. One p × (all_fit p ≡ true))
      (λ i h. (one_of (kept_records ws) (waiting_count ws) i h kept, piece_fits (kept_records ws) (waiting_count ws) i h kept (valid_fits start ws valid)))
      (λ i h. (one_of m (count m) i h (found m laid), piece_fits m (count m) i h (found m laid) (in_range_fits m ranges))))

  valid_after : area_valid (start + n) after ≡ true
  unfolding area_valid
  valid_after =
      both (both (both (both
      (le-leb (waiting_count after) 8 (let e = count_is start n ws m kept laid size fit in let f = few start n ws m kept laid size fit in omega (arith, e, f)))
      (le-leb (records_ahead after) 1200 (let e = records_are start n ws m kept laid size fit in let f = short start n ws m kept laid size fit in omega (arith, e, f))))
      (all_true (λ i. leb (start + n) (position_ahead after i) && ltb (position_ahead after i) end_of_positions) (waiting_count after) (λ i h. at i (there i h))))
      (both (ap₂ is_updates (kept_is start n ws m kept laid size fit) (count_is start n ws m kept laid size fit) ∙ list start n ws m kept laid size fit)
      (all_true (λ i. is_far (kept_records after) (update_at (kept_records after) i)) (waiting_count after)
      (λ i h. ap (λ (s : List ℕ). is_far s (update_at s i)) (kept_is start n ws m kept laid size fit) ∙ far_back vs (ones start n ws m kept laid) i (there i h)
      ∙ one_in (λ v. is_far v.records 0 ≡ true) vs i far_pieces (there i h)))))
      (ap all_fit (kept_is start n ws m kept laid size fit) ∙ fits_after)
    where
      there : (i : ℕ) → i < waiting_count after → i < length vs
      there i h = let e = count_is start n ws m kept laid size fit in omega (arith, h, e)

      at : (i : ℕ) → i < length vs → (leb (start + n) (position_ahead after i) && ltb (position_ahead after i) end_of_positions) ≡ true
      at i h =
          let p = one_in Inside vs i inside h in
          ap (λ (k : ℕ). leb (start + n) k && ltb k end_of_positions) (position_is i h) ∙ both (le-leb _ _ p.0) (lt-ltb _ _ p.1)

  pub ahead_settle : (length after ≡ area_bytes) × Bytes after × (area_valid (start + n) after ≡ true)
  ahead_settle = (size_is start n ws m kept laid size fit, bytes_after, valid_after)

  -- ---- kept or fallen
  falls_or_stays : (i : ℕ) → i < waiting_count ws → FallsOrStays start n ws i
  unfolding falls_at
  falls_or_stays i h = by (ltb (position_ahead ws i) (start + n)) (leb (start + n) (position_ahead ws i)) refl refl
    where
      by : (b c : Bool) → ltb (position_ahead ws i) (start + n) ≡ b → leb (start + n) (position_ahead ws i) ≡ c → FallsOrStays start n ws i
      by true true e f = absurd (let a = ltb-true _ _ e in let b = leb-true _ _ f in omega (arith, a, b))
      by false false e f = absurd (let a = ltb-false _ _ e in let b = leb-false _ _ f in omega (arith, a, b))
      by true false e f =
          let a = ltb-true _ _ e in
          let p = (valid_position start ws valid i h).0 in
          let q : falls_at start n ws i ≡ position_ahead ws i - start = ap (λ (b : Bool). cond b (position_ahead ws i - start) no_sample) e in
          inl (omega (arith, q, a, p), omega (arith, q, p), f)
      by false true e f = inr (leb-true _ _ f, ap (λ (b : Bool). cond b (position_ahead ws i - start) no_sample) e, f)

  falls_or_waits : (i : ℕ) → i < count m → FallsOrWaits n m i
  unfolding offset_in
  falls_or_waits i h = by (comes n m i) refl
    where
      by : (b : Bool) → comes n m i ≡ b → FallsOrWaits n m i
      by true e = inr ((comes_far n m i e).1, ap (λ (b : Bool). cond b no_sample (offset m (update_at m i))) e, e)
      by false e = inl (ap (λ (b : Bool). cond b no_sample (offset m (update_at m i))) e, e)

  pub kept_or_fallen : KeptOrFallen start n ws m
  unfolding waits_of waits_next
  kept_or_fallen = record {
    waiting = falls_or_stays;
    own = falls_or_waits;
    next =
        ap (each (wait_at after)) (count_is start n ws m kept laid size fit)
        ∙ each_is (wait_at after) vs (λ i h. same_wait (position_is i h)
        (ap (λ (s : List ℕ). records_of s i) (kept_is start n ws m kept laid size fit) ∙ records_back vs (ones start n ws m kept laid) i h));
  }

-- ---- records that refusals 5 and 6 let pass stay such records
module _ (start n : ℕ) (ws m : List ℕ) (size : length ws ≡ area_bytes) (bytes : Bytes ws) (kept_laid : laid_out (kept_records ws) ≡ true)
    (counted : count (kept_records ws) ≡ waiting_count ws) (kept_ranges : in_range (kept_records ws) ≡ true) (given : Bytes m) (laid : laid_out m ≡ true)
    (ranges : in_range m ≡ true)
    (fit : fits start n ws m ≡ true) where
  abbrev own : is_updates (kept_records ws) (waiting_count ws) ≡ true
  own = ap (is_updates (kept_records ws)) (sym counted) ∙ found (kept_records ws) kept_laid

  abbrev next : List Wait
  next = waits_next start n ws m

  abbrev settled : List ℕ
  settled = area_settled start n ws m

  next_bytes : Bytes settled
  unfolding area_settled
  next_bytes =
      written_bytes next ws size (few start n ws m own laid size fit) (short start n ws m own laid size fit) bytes
      (all_bytes next (of_pieces start n ws m own laid Bytes (λ i h. piece_bytes (kept_records ws) (waiting_count ws) i h own (kept_bytes ws bytes)) (λ i h. piece_bytes m
      (count m) i h (found m laid) given)))

  next_ranges : in_range (all_records next) ≡ true
  unfolding in_range
  next_ranges =
      all_pass record_in_range in_range_like next
      (of_pieces start n ws m own laid (λ p. One p × (in_range p ≡ true))
      (λ i h. (one_of (kept_records ws) (waiting_count ws) i h own, piece_in_range (kept_records ws) (waiting_count ws) i h own kept_ranges))
      (λ i h. (one_of m (count m) i h (found m laid), piece_in_range m (count m) i h (found m laid) ranges)))

  next_laid : (laid_out (all_records next) ≡ true) × (count (all_records next) ≡ length next)
  next_laid = n_updates (all_records next) (length next) (let f = few start n ws m own laid size fit in omega (arith, f)) (list start n ws m own laid size fit)

  pub kept_settle : (length settled ≡ area_bytes) × Bytes settled × (laid_out (kept_records settled) ≡ true) × (count (kept_records settled) ≡ waiting_count settled)
      × (in_range (kept_records settled) ≡ true)
  kept_settle =
      let e = kept_is start n ws m own laid size fit in (
        size_is start n ws m own laid size fit,
        next_bytes,
        ap laid_out e ∙ next_laid.0,
        ap count e ∙ next_laid.1
            ∙ sym (count_is start n ws m own laid size fit),
        ap in_range e ∙ next_ranges,
      )
