-- What waits after a frame: those that stay and the own ones that come, written into the area. Assumes nothing.
use mathlib.Core.Path.{◌≡◌, refl}
use mathlib.Core.Bool.{Bool, true, false, cond}
use mathlib.Core.List.{List, [], ◌∷◌, ◌++◌}
use Prim.Native.Nat.{ℕ, zero, suc, ◌+◌, ◌*◌, ◌/◌, ◌≤◌, ◌<◌}
use native.Mathlib.Omega.{arith}
use lib.Dec.{leb}
use lib.ListN.{length}
use borrow.Author.Tests.{leb-true}
use Rattle.fields.proofs.All.{and_left, and_right}
use Rattle.records.specs.Runs.{each}
use Rattle.records.specs.Laid.{is_updates, laid_out, count}
use Rattle.records.proofs.Reached.{found}
use Rattle.records.proofs.Updates.{whole_list}
use Rattle.waits.specs.Area.{Wait, area_bytes, waiting_count, records_ahead, kept_records, records_of, wait_at, waits_of}
use Rattle.waits.specs.Settled.{stays, staying, comes, come_at, coming, waits_next, all_records, fits, area_settled}
use Rattle.waits.proofs.Pieces.{One, one_of}
use Rattle.waits.proofs.Joined.{AllOf, joined_updates}
use Rattle.waits.proofs.Written.{written_length, written_count, written_records, written_kept}

-- ---- of each of those that wait afterwards
of_each : (P : Wait → Type 0) (f : ℕ → Wait) (n : ℕ) → ((i : ℕ) → i < n → P (f i)) → AllOf P (each f n)
unfolding each
of_each P f zero h = tt
of_each P f (suc n) h = (h 0 (omega arith), of_each P (λ k. f (suc k)) n (λ i l. h (suc i) (omega (arith, l))))

of_both : (P : Wait → Type 0) (vs us : List Wait) → AllOf P vs → AllOf P us → AllOf P (vs ++ us)
of_both P [] us f g = g
of_both P (v ∷ vs) us f g = (f.0, of_both P vs us f.1 g)

pub of_weaker : (P Q : Wait → Type 0) (vs : List Wait) → ((v : Wait) → P v → Q v) → AllOf P vs → AllOf Q vs
of_weaker P Q [] h f = tt
of_weaker P Q (v ∷ vs) h f = (h v f.0, of_weaker P Q vs h f.1)

module _ (start n : ℕ) where
  of_staying : (P : Wait → Type 0) (vs : List Wait) → AllOf (λ v. stays start n v ≡ true → P v) vs → AllOf P (staying start n vs)
  of_staying P [] f = tt
  of_staying P (v ∷ vs) f = by (stays start n v) f.0 (of_staying P vs f.1)
    where
      by : (b : Bool) → (b ≡ true → P v) → AllOf P (staying start n vs) → AllOf P (cond b (v ∷ staying start n vs) (staying start n vs))
      by true g r = (g refl, r)
      by false g r = r

  of_coming : (P : Wait → Type 0) (m : List ℕ) (k i : ℕ) → ((j : ℕ) → i ≤ j → j < i + k → comes n m j ≡ true → P (come_at start m j)) → AllOf P (coming start n m k i)
  unfolding coming
  of_coming P m zero i f = tt
  of_coming P m (suc k) i f = by (comes n m i) (f i (omega arith) (omega arith)) (of_coming P m k (suc i) (λ j a b. f j (omega (arith, a)) (omega (arith, b))))
    where
      by : (b : Bool) → (b ≡ true → P (come_at start m i)) → AllOf P (coming start n m k (suc i))
          → AllOf P (cond b (come_at start m i ∷ coming start n m k (suc i)) (coming start n m k (suc i)))
      by true g r = (g refl, r)
      by false g r = r

  module _ (ws m : List ℕ) where
    pub of_next : (P : Wait → Type 0) → ((i : ℕ) → i < waiting_count ws → stays start n (wait_at ws i) ≡ true → P (wait_at ws i))
        → ((i : ℕ) → i < count m → comes n m i ≡ true → P (come_at start m i)) → AllOf P (waits_next start n ws m)
    unfolding waits_next waits_of
    of_next P f g =
        of_both P (staying start n (waits_of ws)) (coming start n m (count m) 0)
        (of_staying P (waits_of ws) (of_each (λ v. stays start n v ≡ true → P v) (wait_at ws) (waiting_count ws) f))
        (of_coming P m (count m) 0 (λ j a b. g j (omega (arith, b))))

    -- ---- of their records
    module _ (kept : is_updates (kept_records ws) (waiting_count ws) ≡ true) (laid : laid_out m ≡ true) where
      pub of_pieces : (Q : List ℕ → Type 0) → ((i : ℕ) → i < waiting_count ws → Q (records_of (kept_records ws) i)) → ((i : ℕ) → i < count m → Q (records_of m i))
          → AllOf (λ v. Q v.records) (waits_next start n ws m)
      of_pieces Q f g = of_next (λ v. Q v.records) (λ i h s. f i h) (λ i h s. g i h)

      pub ones : AllOf (λ v. One v.records) (waits_next start n ws m)
      ones = of_pieces One (λ i h. one_of (kept_records ws) (waiting_count ws) i h kept) (λ i h. one_of m (count m) i h (found m laid))

      -- ---- the area
      module _ (size : length ws ≡ area_bytes) (fit : fits start n ws m ≡ true) where
        abbrev vs : List Wait
        vs = waits_next start n ws m

        pub few : length vs ≤ 8
        unfolding fits
        few = leb-true _ _ (and_left (leb (length vs) 8) _ fit)

        pub short : length (all_records vs) ≤ 48000
        unfolding fits
        short = leb-true _ _ (and_right (leb (length vs) 8) _ fit)

        pub list : is_updates (all_records vs) (length vs) ≡ true
        list = joined_updates vs ones

        whole : 40 * (length (all_records vs) / 40) ≡ length (all_records vs)
        whole = let e = whole_list (all_records vs) (length vs) list in omega (arith, e)

        pub kept_is : kept_records (area_settled start n ws m) ≡ all_records vs
        unfolding area_settled
        kept_is = written_kept vs ws size few short whole

        pub count_is : waiting_count (area_settled start n ws m) ≡ length vs
        unfolding area_settled
        count_is = written_count vs ws size few short

        pub records_are : records_ahead (area_settled start n ws m) ≡ length (all_records vs) / 40
        unfolding area_settled
        records_are = written_records vs ws size few short

        pub size_is : length (area_settled start n ws m) ≡ area_bytes
        unfolding area_settled
        size_is = written_length vs ws size few short
