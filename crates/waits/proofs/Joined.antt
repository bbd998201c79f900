-- Updates that are put one behind the other are a list of updates, and each is read back from it. Assumes nothing.
use mathlib.Core.Path.{◌≡◌, refl, sym, ap, ◌∙◌}
use mathlib.Core.Bool.{Bool, true, false, ◌&&◌}
use mathlib.Core.List.{List, [], ◌∷◌, ◌++◌}
use Prim.Native.Nat.{ℕ, zero, suc, ◌+◌, ◌-◌, ◌*◌, ◌/◌, ◌≤◌, ◌<◌, min}
use native.Mathlib.Nat.{min-eq_left}
use native.Mathlib.Omega.{arith}
use lib.Dec.{ltb}
use lib.ListN.{get_or, length, drop}
use borrow.Author.Tests.{eq-eqb, ltb-true, ltb-false}
use Rattle.std.proofs.lemmas.List.{get_or-take, get_or-drop, length-take, length-drop, length-append, get_or-append-add, ext_get_or}
use Rattle.std.proofs.Math.ListN.{get_or-append}
use Rattle.fields.specs.RecordBytes.{all}
use Rattle.fields.specs.Update.{is_far, elements}
use Rattle.fields.proofs.All.{all_at, all_true}
use Rattle.records.specs.Laid.{is_whole_update, update_end, update_at, is_updates}
use Rattle.waits.specs.Area.{Wait, records_of}
use Rattle.waits.specs.Settled.{all_records}
use Rattle.waits.proofs.Alike.{Like, far_like}
use Rattle.waits.proofs.Moved.{Region, after_first, update_moved, update_end_moved}
use Rattle.waits.proofs.Pieces.{One}

-- ---- of each of a list
abbrev pub AllOf : (Wait → Type 0) → List Wait → Type 0
AllOf P [] = Unit {0}
AllOf P (v ∷ vs) = P v × AllOf P vs

abbrev pub wait_in : List Wait → ℕ → Wait
wait_in vs i = get_or vs i (record { position = 0; records = [] })

pub one_in : (P : Wait → Type 0) (vs : List Wait) (i : ℕ) → AllOf P vs → i < length vs → P (wait_in vs i)
one_in P [] i a h = absurd (omega (arith, h))
one_in P (v ∷ vs) zero a h = a.0
one_in P (v ∷ vs) (suc i) a h = one_in P vs i a.1 (omega (arith, h))

-- ---- the byte at which the records of the i-th begin
pub before : List Wait → ℕ → ℕ
before [] i = 0
before (v ∷ vs) zero = 0
before (v ∷ vs) (suc i) = length v.records + before vs i

before_none : (vs : List Wait) → before vs 0 ≡ 0
unfolding before
before_none [] = refl
before_none (v ∷ vs) = refl

before_next : (vs : List Wait) (i : ℕ) → i < length vs → before vs (suc i) ≡ before vs i + length (wait_in vs i).records
unfolding before
before_next [] i h = absurd (omega (arith, h))
before_next (v ∷ vs) zero h = let e = before_none vs in omega (arith, e)
before_next (v ∷ vs) (suc i) h = let e = before_next vs i (omega (arith, h)) in omega (arith, e)

before_all : (vs : List Wait) → before vs (length vs) ≡ length (all_records vs)
unfolding before
before_all [] = refl
before_all (v ∷ vs) = let e = before_all vs in let f = length-append v.records (all_records vs) in omega (arith, e, f)

before_most : (vs : List Wait) (i : ℕ) → before vs i ≤ length (all_records vs)
unfolding before
before_most [] i = omega arith
before_most (v ∷ vs) zero = omega arith
before_most (v ∷ vs) (suc i) = let e = before_most vs i in let f = length-append v.records (all_records vs) in omega (arith, e, f)

byte_in : (vs : List Wait) (i j : ℕ) → i < length vs → j < length (wait_in vs i).records → get_or (all_records vs) (before vs i + j) 0 ≡ get_or (wait_in vs i).records j 0
unfolding before
byte_in [] i j h l = absurd (omega (arith, h))
byte_in (v ∷ vs) zero j h l = ap (λ (k : ℕ). get_or (v.records ++ all_records vs) k 0) (let e : 0 + j ≡ j = omega arith in e) ∙ get_or-append v.records (all_records vs) 0 j l
byte_in (v ∷ vs) (suc i) j h l =
    ap (λ (k : ℕ). get_or (v.records ++ all_records vs) k 0) (let e : length v.records + before vs i + j ≡ length v.records + (before vs i + j) = omega arith in e)
    ∙ get_or-append-add v.records (all_records vs) (before vs i + j) 0 ∙ byte_in vs i j (omega (arith, h)) l

-- ---- the list
module _ (vs : List Wait) (ones : AllOf (λ v. One v.records) vs) where
  abbrev joined : List ℕ
  joined = all_records vs

  abbrev piece : ℕ → List ℕ
  piece i = (wait_in vs i).records

  one : (i : ℕ) → i < length vs → One (piece i)
  one i h = one_in (λ v. One v.records) vs i ones h

  region : (i u : ℕ) → i < length vs → 40 * u ≡ before vs i → Region (piece i) 0 (update_end (piece i) 0) joined u
  region i u h e a b l k q j t =
      ap (λ (x : ℕ). get_or joined x 0) (let r : 40 * b + j ≡ before vs i + (40 * a + j) = omega (arith, q, e) in r)
      ∙ byte_in vs i (40 * a + j) h (let w = (one i h).end in omega (arith, k, t, w))

  end_there : (i u : ℕ) → i < length vs → 40 * u ≡ before vs i → update_end (piece i) 0 + u ≡ update_end joined u
  end_there i u h e =
      let q = update_end_moved (piece i) joined 0 (update_end (piece i) 0) u (region i u h e) 0 u (omega arith) (omega arith) (omega arith) in
      omega (arith, q)

  pub starts : (i : ℕ) → i ≤ length vs → 40 * update_at joined i ≡ before vs i
  unfolding update_at
  starts zero h = sym (before_none vs)
  starts (suc i) h =
      let l : i < length vs = omega (arith, h) in
      let e = starts i (omega (arith, l)) in
      let q = end_there i (update_at joined i) l e in
      let w = (one i l).end in
      let n = before_next vs i l in
      omega (arith, e, q, w, n)

  pub joined_updates : is_updates joined (length vs) ≡ true
  unfolding is_updates
  joined_updates =
      both
      (all_true (λ i. is_whole_update joined (update_at joined i)) (length vs) (λ i h.
      update_moved (piece i) joined 0 (update_end (piece i) 0) (update_at joined i) (region i (update_at joined i) h (starts i (omega (arith, h)))) 0 (update_at joined i)
      (omega arith) (omega arith) (omega arith) ∙ (one i h).whole))
      (eq-eqb _ _ (starts (length vs) (omega arith) ∙ before_all vs))
    where
      both : {a b : Bool} → a ≡ true → b ≡ true → a && b ≡ true
      both x y = cc

  module _ (i : ℕ) (h : i < length vs) where
    abbrev from : ℕ
    from = update_at joined i

    abbrev to : ℕ
    to = update_at joined (suc i)

    size : 40 * (to - from) ≡ length (piece i)
    size =
        let a = starts i (omega (arith, h)) in
        let b = starts (suc i) (omega (arith, h)) in
        let n = before_next vs i h in
        omega (arith, a, b, n)

    within : 40 * to ≤ length joined
    within = let b = starts (suc i) (omega (arith, h)) in let c = before_most vs (suc i) in omega (arith, b, c)

    pub records_back : records_of joined i ≡ piece i
    records_back =
        ext_get_or 0 (records_of joined i) (piece i) same (λ j l.
        get_or-take (40 * (to - from)) (drop (40 * from) joined) j 0 (let s = same in let z = size in omega (arith, l, s, z))
        ∙ get_or-drop (40 * from) joined j 0
        ∙ ap (λ (k : ℕ). get_or joined k 0) (let a = starts i (omega (arith, h)) in let r : 40 * from + j ≡ before vs i + j = omega (arith, a) in r)
        ∙ byte_in vs i j h (let s = same in omega (arith, l, s)))
      where
        same : length (records_of joined i) ≡ length (piece i)
        same =
            length-take (40 * (to - from)) (drop (40 * from) joined) ∙ ap (min (40 * (to - from))) (length-drop (40 * from) joined)
            ∙ min-eq_left (let a = within in omega (arith, a)) ∙ size

    pub far_back : is_far joined from ≡ is_far (piece i) 0
    far_back =
        far_like (piece i) joined 0 from
        (region i from h (starts i (omega (arith, h))) 0 from (omega arith) (let l = after_first (piece i) 0 (elements (piece i) 0) in omega (arith, l)) (omega arith))

-- ---- a test of every record holds of the list, where it holds of each update
module _ (test : List ℕ → ℕ → Bool) (like : (m y : List ℕ) (a b : ℕ) → Like m a y b → test y b ≡ test m a) where
  abbrev passes : List ℕ → Type 0
  passes m = all (test m) (length m / 40) ≡ true

  two_pass : (k : ℕ) (p q : List ℕ) → 40 * k ≡ length p → passes p → passes q → passes (p ++ q)
  two_pass k p q e f g = all_true (test (p ++ q)) (length (p ++ q) / 40) (λ r l. by (ltb r k) r refl l)
    where
      by : (b : Bool) (r : ℕ) → ltb r k ≡ b → r < length (p ++ q) / 40 → test (p ++ q) r ≡ true
      by true r t l =
          let h : r < k = ltb-true r k t in
          like p (p ++ q) r r (λ j i. get_or-append p q 0 (40 * r + j) (omega (arith, h, i, e))) ∙ all_at (test p) (length p / 40) r (omega (arith, h, e)) f
      by false r t l =
          let h : k ≤ r = ltb-false r k t in
          let n = length-append p q in
          like q (p ++ q) (r - k) r
          (λ j i. ap (λ (x : ℕ). get_or (p ++ q) x 0) (let w : 40 * r + j ≡ length p + (40 * (r - k) + j) = omega (arith, h, e) in w) ∙ get_or-append-add p q (40 * (r - k) + j) 0)
          ∙ all_at (test q) (length q / 40) (r - k) (omega (arith, h, l, n, e)) g

  pub all_pass : (vs : List Wait) → AllOf (λ v. One v.records × passes v.records) vs → passes (all_records vs)
  unfolding all
  all_pass [] f = refl
  all_pass (v ∷ vs) f = two_pass (update_end v.records 0) v.records (all_records vs) f.0.0.end f.0.1 (all_pass vs f.1)
