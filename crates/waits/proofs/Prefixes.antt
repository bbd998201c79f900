-- Which wait after a frame, update by update. Assumes nothing.
use Rattle.std.proofs.Common.{◌≡◌, ℕ, zero, suc, ◌+◌, ◌-◌, ◌*◌, ◌≤◌, Bool, true, false, cond, List, [], ◌∷◌, ◌++◌, length, drop, refl, ap, ◌∙◌, length-append, append-nil, add-one, arith}
use lib.ListN.{length-take}
use Rattle.records.specs.Runs.{each}
use Rattle.records.specs.Laid.{update_at}
use Rattle.waits.specs.Area.{Wait, records_of}
use Rattle.waits.specs.Settled.{stays, staying, comes, come_at, coming, all_records}
use Rattle.waits.proofs.LaidFrom.{length_records}

pub each_more : {A : Type 0} (f : ℕ → A) (n : ℕ) → each f (suc n) ≡ each f n ++ (f n ∷ [])
unfolding each
each_more f zero = refl
each_more f (suc n) = ap (λ xs. f 0 ∷ xs) (each_more (λ k. f (suc k)) n)

module _ (start n : ℕ) where
  staying_append : (xs ys : List Wait) → staying start n (xs ++ ys) ≡ staying start n xs ++ staying start n ys
  staying_append [] ys = refl
  staying_append (x ∷ xs) ys = by (stays start n x) (staying start n (xs ++ ys)) (staying start n xs) (staying start n ys) (staying_append xs ys)
    where
      by : (b : Bool) (s t u : List Wait) → s ≡ t ++ u → cond b (x ∷ s) s ≡ cond b (x ∷ t) t ++ u
      by true s t u e = ap (λ (l : List Wait). x ∷ l) e
      by false s t u e = e

  -- update i stays, or falls
  module _ (f : ℕ → Wait) (i : ℕ) where
    pub one_stays : stays start n (f i) ≡ true → staying start n (each f (i + 1)) ≡ staying start n (each f i) ++ (f i ∷ [])
    one_stays e =
        ap (λ (k : ℕ). staying start n (each f k)) (add-one i)
        ∙ ap (staying start n) (each_more f i)
        ∙ staying_append (each f i) (f i ∷ [])
        ∙ ap (λ (b : Bool). staying start n (each f i) ++ cond b (f i ∷ []) []) e

    pub one_falls : stays start n (f i) ≡ false → staying start n (each f (i + 1)) ≡ staying start n (each f i)
    one_falls e =
        ap (λ (k : ℕ). staying start n (each f k)) (add-one i)
        ∙ ap (staying start n) (each_more f i)
        ∙ staying_append (each f i) (f i ∷ [])
        ∙ ap (λ (b : Bool). staying start n (each f i) ++ cond b (f i ∷ []) []) e
        ∙ append-nil (staying start n (each f i))

  module _ (m : List ℕ) where
    -- the first a of a + b, then the b others
    pub coming_split : (a b i : ℕ) → coming start n m (a + b) i ≡ coming start n m a i ++ coming start n m b (i + a)
    unfolding coming
    coming_split zero b i =
        ap (λ (k : ℕ). coming start n m k i) (let e : 0 + b ≡ b = omega arith in e) ∙ ap (coming start n m b) (let e : i ≡ i + 0 = omega arith in e)
    coming_split (suc a) b i =
        ap (λ (k : ℕ). coming start n m k i) (let e : suc a + b ≡ suc (a + b) = omega arith in e)
        ∙ by (comes n m i) (coming start n m (a + b) (suc i)) (coming start n m a (suc i)) (coming start n m b (i + suc a)) (coming_split a b (suc i) ∙ ap (λ (k : ℕ). coming start n m a (suc i) ++ coming start n m b k) (let e : suc i + a ≡ i + suc a = omega arith in e))
      where
        by : (c : Bool) (s t u : List Wait) → s ≡ t ++ u → cond c (come_at start m i ∷ s) s ≡ cond c (come_at start m i ∷ t) t ++ u
        by true s t u e = ap (λ (l : List Wait). come_at start m i ∷ l) e
        by false s t u e = e

    coming_one : (i : ℕ) → coming start n m (i + 1) 0 ≡ coming start n m i 0 ++ cond (comes n m i) (come_at start m i ∷ []) []
    unfolding coming
    coming_one i =
        coming_split i 1 0 ∙ ap (λ (k : ℕ). coming start n m i 0 ++ cond (comes n m k) (come_at start m k ∷ []) []) (let e : 0 + i ≡ i = omega arith in e)

    pub one_comes : (i : ℕ) → comes n m i ≡ true → coming start n m (i + 1) 0 ≡ coming start n m i 0 ++ (come_at start m i ∷ [])
    one_comes i e = coming_one i ∙ ap (λ (b : Bool). coming start n m i 0 ++ cond b (come_at start m i ∷ []) []) e

    pub none_comes : (i : ℕ) → comes n m i ≡ false → coming start n m (i + 1) 0 ≡ coming start n m i 0
    none_comes i e =
        coming_one i ∙ ap (λ (b : Bool). coming start n m i 0 ++ cond b (come_at start m i ∷ []) []) e ∙ append-nil (coming start n m i 0)

    -- the first a are no more than all, and have no more records
    module _ (a all : ℕ) (h : a ≤ all) where
      rest : coming start n m all 0 ≡ coming start n m a 0 ++ coming start n m (all - a) (0 + a)
      rest = ap (λ (k : ℕ). coming start n m k 0) (let e : all ≡ a + (all - a) = omega arith in e) ∙ coming_split a (all - a) 0

      pub coming_fewer : length (coming start n m a 0) ≤ length (coming start n m all 0)
      coming_fewer = let e = ap length rest ∙ length-append (coming start n m a 0) (coming start n m (all - a) (0 + a)) in omega (arith, e)

      pub coming_smaller : length (all_records (coming start n m a 0)) ≤ length (all_records (coming start n m all 0))
      coming_smaller =
          let e = ap (λ (l : List Wait). length (all_records l)) rest ∙ length_records (coming start n m a 0) (coming start n m (all - a) (0 + a)) in omega (arith, e)

-- an update's records are no more than its layout says
pub length_update : (m : List ℕ) (i : ℕ) → length (records_of m i) ≤ 40 * (update_at m (i + 1) - update_at m i)
length_update m i =
    let k = 40 * (update_at m (suc i) - update_at m i) in
    let e = length-take k (drop (40 * update_at m i) m) in
    rw (add-one i) (omega (arith, e))
