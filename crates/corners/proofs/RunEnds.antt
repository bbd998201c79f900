-- The ends of the runs: worked out from the last speaker back, they are the ends of the runs of equal coordinates. So the sorted arrays can be walked. Assumes nothing.
use mathlib.Core.Path.{◌≡◌, refl, sym, subst, ◌∙◌}
use mathlib.Core.Logic.{inl, inr}
use mathlib.Core.Bool.{Bool, true, false, not, ◌&&◌, cond}
use Prim.Native.Nat.{ℕ, suc, zero, ◌+◌, ◌-◌, ◌≤◌, ◌<◌}
use native.Mathlib.Nat.{le_trans, le_of_eq, eq-or-lt_of_le, lt_of_lt_of_le, lt_of_le_of_lt, le_antisymm}
use native.Mathlib.Omega.{arith}
use lib.Dec.{T, T_not, ltb, ltb→lt, nltb→le}
use lib.Ieee.{Float, le, eq}
use Rattle.ieee.specs.Units.{F32}
use Rattle.ieee.proofs.Compare.{le→, →eq}
use Rattle.vectors.specs.declared.Vec3.{Vec3}
use Rattle.corners.specs.EqualRuns.{Runs}
use Rattle.corners.specs.SpeakerOrder.{RunEnds}
use Rattle.corners.specs.Walkable.{Walkable}
use Rattle.corners.proofs.Rising.{le_self, through, eq_le}
use Rattle.corners.proofs.Lexical.{Fine, Lex, lex_y, lex_z, lex_left, lex_apart}

-- the run at j
pub record RunAt (c : ℕ → Float) (bound e : ℕ → ℕ) (j : ℕ) : Type 0 where
  pub further : j < e j
  pub inside : e j ≤ bound j
  pub equal : (k : ℕ) → j ≤ k → k < e j → T (le (c k) (c j))
  pub beyond : (k : ℕ) → e j ≤ k → k < bound j → T (le (c k) (c j)) → ⊥
  pub next : j + 1 < e j → e (j + 1) ≡ e j

module _ (c : ℕ → Float) (bound e : ℕ → ℕ) (n : ℕ) (fine : (i : ℕ) → i < n → F32 (c i)) (some : (i : ℕ) → i < n → i < bound i) (to : (i : ℕ) → i < n → bound i ≤ n)
    (same : (i : ℕ) → i < n → i + 1 < bound i → bound (i + 1) ≡ bound i) (rising : (j k : ℕ) → j < n → j ≤ k → k < bound j → T (le (c j) (c k))) (r : RunEnds c bound n e) where
  -- the next coordinate is equal
  goes_on : (j : ℕ) → j < n → j + 1 < bound j → T (eq (c (j + 1)) (c j)) → e j ≡ e (j + 1) → RunAt c bound e (j + 1) → RunAt c bound e j
  goes_on j jn jb t q i = record {
    further = omega (arith, i.further);
    inside = le_trans (le_of_eq q) (le_trans i.inside (le_of_eq (same j jn jb)));
    equal = λ k jk ke. elim (eq-or-lt_of_le jk) [
      | inl z ↦ subst (λ (x : ℕ). T (le (c x) (c j))) z (le_self (c j) (fine j jn))
      | inr z ↦ let kn = in_run k ke in through (c k) (c (j + 1)) (c j) (fine k kn) (fine (j + 1) nn) (fine j jn).fit (i.equal k (omega arith) (lt_of_lt_of_le ke (le_of_eq q)))
          (eq_le (c (j + 1)) (c j) t)
    ];
    beyond = λ k ek kb u. i.beyond k (le_trans (le_of_eq (sym q)) ek) (lt_of_lt_of_le kb (le_of_eq (sym (same j jn jb))))
        (through (c k) (c j) (c (j + 1)) (fine k (lt_of_lt_of_le kb (to j jn))) (fine j jn) (fine (j + 1) nn).fit u (rising j (j + 1) jn (omega arith) jb));
    next = λ h. sym q;
  }
    where
      nn : j + 1 < n
      nn = lt_of_lt_of_le jb (to j jn)

      in_run : (k : ℕ) → k < e j → k < n
      in_run k ke = lt_of_lt_of_le ke (le_trans (le_of_eq q) (le_trans i.inside (to (j + 1) nn)))

  -- it is not, or there is none in bounds
  stops : (j : ℕ) → j < n → (j + 1 < bound j → T (not (eq (c (j + 1)) (c j)))) → e j ≡ j + 1 → RunAt c bound e j
  stops j jn t q = record {
    further = omega arith;
    inside = let h = some j jn in omega arith;
    equal = λ k jk ke. let z : j ≡ k = le_antisymm jk (omega arith) in subst (λ (x : ℕ). T (le (c x) (c j))) z (le_self (c j) (fine j jn));
    beyond = λ k ek kb u. other k (omega arith) kb u;
    next = λ h. absurd (omega arith);
  }
    where
      other : (k : ℕ) → j + 1 ≤ k → k < bound j → T (le (c k) (c j)) → ⊥
      other k ek kb u =
          let jb : j + 1 < bound j = lt_of_le_of_lt ek kb in
          let nn : j + 1 < n = lt_of_lt_of_le jb (to j jn) in
          let kn : k < n = lt_of_lt_of_le kb (to j jn) in
          let f = fine (j + 1) nn in
          let g = fine j jn in
          let down = through (c (j + 1)) (c k) (c j) f (fine k kn) g.fit (rising (j + 1) k nn ek (lt_of_lt_of_le kb (le_of_eq (sym (same j jn jb))))) u in
          let up = rising j (j + 1) jn (omega arith) jb in
          T_not (eq (c (j + 1)) (c j)) (t jb) (→eq (c (j + 1)) (c j) f g (le_antisymm (le→ (c (j + 1)) (c j) f g down) (le→ (c j) (c (j + 1)) g f up)))

  run_step : (j : ℕ) → j < n → (j + 1 < n → RunAt c bound e (j + 1)) → RunAt c bound e j
  run_step j jn ih = go (ltb (j + 1) (bound j)) (eq (c (j + 1)) (c j)) (ltb→lt (j + 1) (bound j)) (nltb→le (j + 1) (bound j)) (λ t. t) (λ t. t) (r j jn)
    where
      go : (b d : Bool) → (T b → j + 1 < bound j) → (T (not b) → bound j ≤ j + 1) → (T d → T (eq (c (j + 1)) (c j))) → (T (not d) → T (not (eq (c (j + 1)) (c j)))) →
          e j ≡ cond (b && d) (e (j + 1)) (j + 1) → RunAt c bound e j
      go true true h h' k k' q = goes_on j jn (h tt) (k tt) q (ih (lt_of_lt_of_le (h tt) (to j jn)))
      go true false h h' k k' q = stops j jn (λ z. k' tt) q
      go false d h h' k k' q = stops j jn (λ z. absurd (let o = h' tt in omega arith)) q

  run_from : (d j : ℕ) → n ≤ j + d → j < n → RunAt c bound e j
  run_from zero j h q = absurd (omega arith)
  run_from (suc d) j h q = run_step j q (λ z. run_from d (j + 1) (omega arith) z)

  pub run_at : (j : ℕ) → j < n → RunAt c bound e j
  run_at j q = run_from n j (omega arith) q

  -- all of a run have the same end
  pub one_end : (d i : ℕ) → i < n → i + d < e i → e (i + d) ≡ e i
  one_end zero i q h = let z : i ≡ i + 0 = omega arith in subst (λ (x : ℕ). e x ≡ e i) z refl
  one_end (suc d) i q h =
      let z = one_end d i q (omega arith) in
      let a = run_at i q in
      let b = to i q in
      let m : i + d < n = omega (arith, a.inside) in
      subst (λ (x : ℕ). e x ≡ e i) (next_one i d) ((run_at (i + d) m).next (omega arith) ∙ z)
    where
      next_one : (i d : ℕ) → i + d + 1 ≡ i + suc d
      next_one i d = omega arith

  pub same_end : (i j : ℕ) → i < n → i ≤ j → j < e i → e j ≡ e i
  same_end i j q ij je = subst (λ (x : ℕ). e x ≡ e i) (back i j ij) (one_end (j - i) i q (subst (λ (x : ℕ). x < e i) (sym (back i j ij)) je))
    where
      back : (i j : ℕ) → i ≤ j → i + (j - i) ≡ j
      back i j h = omega arith

-- ---- sorted arrays can be walked
module _ (x y z : ℕ → Float) (layers bound : ℕ → ℕ) (n : ℕ) (top : (i : ℕ) → i < n → bound i ≡ n)
    (fine : (i : ℕ) → i < n → Fine (record { x = x i; y = y i; z = z i }))
    (rising : (i j : ℕ) → i < j → j < n → Lex (record { x = x i; y = y i; z = z i }) (record { x = x j; y = y j; z = z j }))
    (l : RunEnds y bound n layers) where
  abbrev place : ℕ → Vec3
  place i = record { x = x i; y = y i; z = z i }

  y_rising : (j k : ℕ) → j ≤ k → k < n → T (le (y j) (y k))
  y_rising j k jk kn = elim (eq-or-lt_of_le jk) [
    | inl e ↦ subst (λ (i : ℕ). T (le (y j) (y i))) e (le_self (y j) (fine j (lt_of_le_of_lt jk kn)).y)
    | inr h ↦ lex_y (place j) (place k) (fine j (lt_of_le_of_lt jk kn)) (fine k kn) (rising j k h kn)
  ]

  layer_run : (j : ℕ) → j < n → RunAt y bound layers j
  layer_run = run_at y bound layers n (λ i q. (fine i q).y) (λ i q. subst (λ (k : ℕ). i < k) (sym (top i q)) q) (λ i q. le_of_eq (top i q))
      (λ i q h. top (i + 1) (lt_of_lt_of_le h (le_of_eq (top i q))) ∙ sym (top i q)) (λ j k q jk kb. y_rising j k jk (lt_of_lt_of_le kb (le_of_eq (top j q)))) l

  pub layer_most : (j : ℕ) → j < n → layers j ≤ n
  layer_most j q = le_trans (layer_run j q).inside (le_of_eq (top j q))

  same_layer : (i j : ℕ) → i < n → i ≤ j → j < layers i → layers j ≡ layers i
  same_layer = same_end y bound layers n (λ i q. (fine i q).y) (λ i q. subst (λ (k : ℕ). i < k) (sym (top i q)) q) (λ i q. le_of_eq (top i q))
      (λ i q h. top (i + 1) (lt_of_lt_of_le h (le_of_eq (top i q))) ∙ sym (top i q)) (λ j k q jk kb. y_rising j k jk (lt_of_lt_of_le kb (le_of_eq (top j q)))) l

  z_rising : (j k : ℕ) → j < n → j ≤ k → k < layers j → T (le (z j) (z k))
  z_rising j k jn jk kl = let kn = lt_of_lt_of_le kl (layer_most j jn) in elim (eq-or-lt_of_le jk) [
    | inl e ↦ subst (λ (i : ℕ). T (le (z j) (z i))) e (le_self (z j) (fine j jn).z)
    | inr h ↦ lex_z (place j) (place k) (fine j jn) (fine k kn) (rising j k h kn) ((layer_run j jn).equal k jk kl)
  ]

  layers_are : Runs y layers 0 n
  layers_are = record {
    fine = λ i o q. (fine i q).y;
    rising = λ i j o ij jn. y_rising i j ij jn;
    further = λ i o q. (layer_run i q).further;
    inside = λ i o q. layer_most i q;
    equal = λ i j o ij je q. (layer_run i q).equal j ij je;
    beyond = λ i j o ej q jn. (layer_run i q).beyond j ej (lt_of_lt_of_le jn (le_of_eq (sym (top i q))));
  }

  module _ (rows : ℕ → ℕ) (r : RunEnds z layers n rows) where
    row_run : (j : ℕ) → j < n → RunAt z layers rows j
    row_run = run_at z layers rows n (λ i q. (fine i q).z) (λ i q. (layer_run i q).further) layer_most (λ i q. (layer_run i q).next) z_rising r

    same_row : (i j : ℕ) → i < n → i ≤ j → j < rows i → rows j ≡ rows i
    same_row = same_end z layers rows n (λ i q. (fine i q).z) (λ i q. (layer_run i q).further) layer_most (λ i q. (layer_run i q).next) z_rising r

    row_most : (j : ℕ) → j < n → rows j ≤ n
    row_most j q = le_trans (row_run j q).inside (layer_most j q)

    rows_are : (i : ℕ) → i < n → Runs z rows i (layers i)
    rows_are i q = record {
      fine = λ j ij jl. (fine j (inside jl)).z;
      rising = λ j k ij jk kl. let jl = lt_of_le_of_lt jk kl in z_rising j k (inside jl) jk (lt_of_lt_of_le kl (le_of_eq (sym (same_layer i j q ij jl))));
      further = λ j ij jl. (row_run j (inside jl)).further;
      inside = λ j ij jl. le_trans (row_run j (inside jl)).inside (le_of_eq (same_layer i j q ij jl));
      equal = λ j k ij jk ke jl. (row_run j (inside jl)).equal k jk ke;
      beyond = λ j k ij ek jl kl. (row_run j (inside jl)).beyond k ek (lt_of_lt_of_le kl (le_of_eq (sym (same_layer i j q ij jl))));
    }
      where
        inside : {j : ℕ} → j < layers i → j < n
        inside h = lt_of_lt_of_le h (layer_most i q)

    sides_are : (i : ℕ) → i < n → Runs x (λ j. j + 1) i (rows i)
    sides_are i q = record {
      fine = λ j ij jr. (fine j (inside jr)).x;
      rising = λ j k ij jk kr. elim (eq-or-lt_of_le jk) [
        | inl e ↦ subst (λ (m : ℕ). T (le (x j) (x m))) e (le_self (x j) (fine j (inside (lt_of_le_of_lt jk kr))).x)
        | inr h ↦ let jr = lt_of_le_of_lt jk kr in
            lex_left (place j) (place k) (fine j (inside jr)) (fine k (inside kr)) (rising j k h (inside kr)) (by_y j k ij jk jr kr) (by_z j k ij jk jr kr)
      ];
      further = λ j ij jr. omega arith;
      inside = λ j ij jr. omega arith;
      equal = λ j k ij jk ke jr. let e : j ≡ k = le_antisymm jk (omega arith) in subst (λ (m : ℕ). T (le (x m) (x j))) e (le_self (x j) (fine j (inside jr)).x);
      beyond = λ j k ij ek jr kr. let jk : j ≤ k = omega arith in
          lex_apart (place j) (place k) (fine j (inside jr)) (fine k (inside kr)) (rising j k (omega arith) (inside kr)) (by_y j k ij jk jr kr) (by_z j k ij jk jr kr);
    }
      where
        inside : {j : ℕ} → j < rows i → j < n
        inside h = lt_of_lt_of_le h (row_most i q)

        by_z : (j k : ℕ) → i ≤ j → j ≤ k → j < rows i → k < rows i → T (le (z k) (z j))
        by_z j k ij jk jr kr = (row_run j (inside jr)).equal k jk (lt_of_lt_of_le kr (le_of_eq (sym (same_row i j q ij jr))))

        by_y : (j k : ℕ) → i ≤ j → j ≤ k → j < rows i → k < rows i → T (le (y k) (y j))
        by_y j k ij jk jr kr = (layer_run j (inside jr)).equal k jk (lt_of_lt_of_le kr (le_trans (le_of_eq (sym (same_row i j q ij jr))) (row_run j (inside jr)).inside))

    pub walkable : 0 < n → n ≤ 12 → Walkable x y z layers rows n
    walkable some few = record { some = some; few = few; layers = layers_are; rows = rows_are; sides = sides_are }
