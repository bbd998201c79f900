-- Lists of terms: what is left where those of coefficient 0 are passed over. Assumes nothing.
use mathlib.Core.Path.{◌≡◌, refl, sym, ap, ◌∙◌, subst, subst⁻¹}
use mathlib.Core.Logic.{◌⊎◌, inl, inr}
use mathlib.Core.Bool.{Bool, true, false, not, ◌&&◌, cond}
use mathlib.Core.List.Memᴰ
use mathlib.Core.List.{List, [], ◌∷◌, map, Memᴰ}
use Prim.Native.Nat.{ℕ, ◌+◌, ◌*◌, ◌≤◌, zero-le}
use native.Mathlib.Nat.{le_refl}
use lib.ListN.{length}
use native.Mathlib.Omega.{arith}
use lib.Dec.{T, T_not, not_T, eqb, eqb→eq, eqb_refl}
use lib.Ieee.{Float, eq, ne}
use lib.Ieee.Fits.{and_i, and_l, and_r}
use Rattle.ieee.proofs.Constants.{zero_f32, zero_mag}
use Rattle.ieee.specs.Units.{F32, mag}
use Rattle.ieee.proofs.Compare.{eq→}
use Rattle.ieee.proofs.Signed.{one_sided, mag_is}
use Rattle.vectors.specs.declared.Vec3.{Vec3}
use Rattle.corners.specs.Choice.{Corner, differ, 0·0}
use Rattle.corners.specs.Table.{distinct}
use Rattle.panning.specs.Terms.{Term, term, audible, on_channel}
use Rattle.panning.specs.Coefficients.{Each, square_sum, squares}
use Rattle.corners.proofs.Tables.{other, others}

pub audible→ : (ts : List Term) {t : Term} → Memᴰ t (audible ts) → Memᴰ t ts
unfolding audible
audible→ [] m = m
audible→ (u ∷ ts) {t} m = go (ne u.coefficient 0·0) (audible→ ts) m
  where
    go : (b : Bool) → (Memᴰ t (audible ts) → Memᴰ t ts) → Memᴰ t (cond b (u ∷ audible ts) (audible ts)) → Memᴰ t (u ∷ ts)
    go true r m = elim (Memᴰ.cases_cons m) [ inl e ↦ Memᴰ.head e | inr n ↦ Memᴰ.tail (r n) ]
    go false r m = Memᴰ.tail (r m)

pub audible_none : (ts : List Term) → Each (λ t. T (eq t.coefficient 0·0)) ts → audible ts ≡ []
unfolding audible ne
audible_none [] h = refl
audible_none (t ∷ ts) h = go (eq t.coefficient 0·0) (h t (Memᴰ.head refl)) (audible_none ts (λ u m. h u (Memᴰ.tail m)))
  where
    go : (b : Bool) → T b → audible ts ≡ [] → cond (not b) (t ∷ audible ts) (audible ts) ≡ []
    go true z e = e
    go false z e = absurd z

pub map_in : {A : Type 0} (f : A → Term) (l : List A) {t : Term} → Memᴰ t (map f l) → (a : A) × Memᴰ a l × (t ≡ f a)
map_in f [] m = absurd (Memᴰ.not-nil m)
map_in f (a ∷ l) m = elim (Memᴰ.cases_cons m) [
  | inl e ↦ (a, Memᴰ.head refl, e)
  | inr n ↦ let i = map_in f l n in (i.0, Memᴰ.tail i.1, i.2)
]

-- ---- squares
zero_size : (x : Float) → F32 x → T (eq x 0·0) → mag x ≡ 0
zero_size x f h =
    let e = eq→ x 0·0 f zero_f32 h in
    let z = zero_mag in
    elim (one_sided x) [
      | inl p ↦ omega (arith, e, p, mag_is x, z)
      | inr n ↦ omega (arith, e, n, mag_is x, z)
    ]

-- the squares of all the terms
unfoldable pub all_squares : List Term → ℕ
all_squares [] = 0
all_squares (t ∷ ts) = mag t.coefficient * mag t.coefficient + all_squares ts

pub square_audible : (ts : List Term) → Each (λ t. F32 t.coefficient) ts → all_squares (audible ts) ≡ all_squares ts
unfolding audible all_squares ne
square_audible [] h = refl
square_audible (t ∷ ts) h = go (eq t.coefficient 0·0) (λ z. z) (square_audible ts (λ u m. h u (Memᴰ.tail m)))
  where
    go : (b : Bool) → (T b → T (eq t.coefficient 0·0)) → all_squares (audible ts) ≡ all_squares ts
        → all_squares (cond (not b) (t ∷ audible ts) (audible ts)) ≡ mag t.coefficient * mag t.coefficient + all_squares ts
    go true z e = let m = zero_size t.coefficient (h t (Memᴰ.head refl)) (z tt) in omega (arith, e, ap (λ (n : ℕ). n * mag t.coefficient) m)
    go false z e = ap (λ (n : ℕ). mag t.coefficient * mag t.coefficient + n) e

-- ---- channel by channel: each term is on one of the speakers, so that the sums are the same
square : Term → ℕ
square t = mag t.coefficient * mag t.coefficient

hits : Term → List ℕ → ℕ
hits t [] = 0
hits t (c ∷ l) = cond (eqb c t.channel) (square t) 0 + hits t l

squares_nil : (l : List ℕ) → squares l [] ≡ 0
unfolding squares square_sum on_channel
squares_nil [] = refl
squares_nil (c ∷ l) = omega (arith, squares_nil l)

squares_cons : (t : Term) (ts : List Term) (l : List ℕ) → squares l (t ∷ ts) ≡ hits t l + squares l ts
unfolding squares square_sum on_channel hits square
squares_cons t ts [] = refl
squares_cons t ts (c ∷ l) = omega (arith, squares_cons t ts l, go (eqb c t.channel))
  where
    go : (b : Bool) → square_sum (cond b (t.coefficient ∷ on_channel c ts) (on_channel c ts)) ≡ cond b (mag t.coefficient * mag t.coefficient) 0 + square_sum (on_channel c ts)
    go true = refl
    go false = omega arith

missed : (t : Term) (l : List ℕ) → ((c : ℕ) → Memᴰ c l → c ≡ t.channel → ⊥) → hits t l ≡ 0
unfolding hits
missed t [] h = refl
missed t (c ∷ l) h = omega (arith, missed t l (λ j m. h j (Memᴰ.tail m)), go (eqb c t.channel) (λ e. h c (Memᴰ.head refl) (eqb→eq c t.channel e)))
  where
    go : (b : Bool) → (T b → ⊥) → cond b (square t) 0 ≡ 0
    go true n = absurd (n tt)
    go false n = refl

hit : (sp : ℕ → Vec3) (t : Term) (l : List ℕ) → T (distinct sp l) → Memᴰ t.channel l → hits t l ≡ square t
unfolding hits
hit sp t [] d m = absurd (Memᴰ.not-nil m)
hit sp t (c ∷ l) d m = elim (Memᴰ.cases_cons m) [
  | inl e ↦ omega (arith, here (eqb c t.channel) (subst (λ (n : ℕ). T (eqb c n)) (sym e) (eqb_refl c)), missed t l (λ j n i. other sp c l d n (sym e ∙ sym i)))
  | inr n ↦ omega (arith, there (eqb c t.channel) (λ e. other sp c l d n (eqb→eq c t.channel e)), hit sp t l (others sp c l d) n)
]
  where
    here : (b : Bool) → T b → cond b (square t) 0 ≡ square t
    here true e = refl
    here false e = absurd e

    there : (b : Bool) → (T b → ⊥) → cond b (square t) 0 ≡ 0
    there true e = absurd (e tt)
    there false e = refl

pub by_channel : (sp : ℕ → Vec3) (l : List ℕ) → T (distinct sp l) → (ts : List Term) → Each (λ t. Memᴰ t.channel l) ts → squares l ts ≡ all_squares ts
unfolding all_squares square
by_channel sp l d [] h = squares_nil l
by_channel sp l d (t ∷ ts) h = omega (arith, squares_cons t ts l, hit sp t l d (h t (Memᴰ.head refl)), by_channel sp l d ts (λ u m. h u (Memᴰ.tail m)))

-- ---- no channel twice
-- none of the terms is on channel k; no two are on one channel
unfoldable pub absent : ℕ → List Term → Bool
absent k [] = true
absent k (t ∷ ts) = not (eqb k t.channel) && absent k ts

unfoldable pub apart : List Term → Bool
unfolding absent
apart [] = true
apart (t ∷ ts) = absent t.channel ts && apart ts

pub absent_none : (k : ℕ) (ts : List Term) → T (absent k ts) → on_channel k ts ≡ []
unfolding absent on_channel
absent_none k [] h = refl
absent_none k (t ∷ ts) h = go (eqb k t.channel) (and_l (not (eqb k t.channel)) (absent k ts) h) (absent_none k ts (and_r (not (eqb k t.channel)) (absent k ts) h))
  where
    go : (b : Bool) → T (not b) → on_channel k ts ≡ [] → cond b (t.coefficient ∷ on_channel k ts) (on_channel k ts) ≡ []
    go true n e = absurd n
    go false n e = e

pub absent_of : (k : ℕ) (ts : List Term) → Each (λ t. T (not (eqb k t.channel))) ts → T (absent k ts)
unfolding absent
absent_of k [] h = tt
absent_of k (t ∷ ts) h = and_i (not (eqb k t.channel)) (absent k ts) (h t (Memᴰ.head refl)) (absent_of k ts (λ u m. h u (Memᴰ.tail m)))

pub apart_once : (ts : List Term) → T (apart ts) → (c : ℕ) → length (on_channel c ts) ≤ 1
unfolding apart on_channel
apart_once [] h c = zero-le
apart_once (t ∷ ts) h c = go (eqb c t.channel) (eqb→eq c t.channel) (apart_once ts (and_r (absent t.channel ts) (apart ts) h) c)
  where
    go : (b : Bool) → (T b → c ≡ t.channel) → length (on_channel c ts) ≤ 1 → length (cond b (t.coefficient ∷ on_channel c ts) (on_channel c ts)) ≤ 1
    go true e r =
        let n = absent_none t.channel ts (and_l (absent t.channel ts) (apart ts) h) in
        subst⁻¹ (λ (xs : List Float). length (t.coefficient ∷ xs) ≤ 1) (ap (λ (k : ℕ). on_channel k ts) (e tt) ∙ n) (le_refl 1)
    go false e r = r

-- two corners that are one channel, of which one has the coefficient 0
unfoldable pub differs : Corner → List Corner → Bool
differs c [] = true
differs c (d ∷ cs) = differ c d && differs c cs

unfoldable pub Differ : List Corner → Bool
Differ [] = true
Differ (c ∷ cs) = differs c cs && Differ cs

module _ (ch : Corner → ℕ) (x : Corner → Float) (once : (c d : Corner) → T (differ c d) → ch c ≡ ch d → T (eq (x c) 0·0) ⊎ T (eq (x d) 0·0)) where
  abbrev pub of : Corner → Term
  of c = term (ch c) (x c)

  absent_rest : (c : Corner) → T (not (eq (x c) 0·0)) → (cs : List Corner) → T (differs c cs) → T (absent (ch c) (audible (map of cs)))
  unfolding differs audible absent ne
  absent_rest c n [] h = tt
  absent_rest c n (d ∷ cs) h = go (eq (x d) 0·0) (λ z. z) (absent_rest c n cs (and_r (differ c d) (differs c cs) h))
    where
      go : (b : Bool) → (T (not b) → T (not (eq (x d) 0·0))) → T (absent (ch c) (audible (map of cs)))
          → T (absent (ch c) (cond (not b) (of d ∷ audible (map of cs)) (audible (map of cs))))
      go true z r = r
      go false z r =
          and_i (not (eqb (ch c) (ch d))) (absent (ch c) (audible (map of cs)))
          (not_T (eqb (ch c) (ch d)) (λ e. elim (once c d (and_l (differ c d) (differs c cs) h) (eqb→eq (ch c) (ch d) e)) [
            | inl w ↦ T_not (eq (x c) 0·0) n w
            | inr w ↦ T_not
                (eq (x d) 0·0) (z tt) w
          ])) r

  pub apart_audible : (cs : List Corner) → T (Differ cs) → T (apart (audible (map of cs)))
  unfolding Differ audible apart ne
  apart_audible [] h = tt
  apart_audible (c ∷ cs) h = go (eq (x c) 0·0) (λ z. z) (apart_audible cs (and_r (differs c cs) (Differ cs) h))
    where
      go : (b : Bool) → (T (not b) → T (not (eq (x c) 0·0))) → T (apart (audible (map of cs))) → T (apart (cond (not b) (of c ∷ audible (map of cs)) (audible (map of cs))))
      go true z r = r
      go false z r = and_i (absent (ch c) (audible (map of cs))) (apart (audible (map of cs))) (absent_rest c (z tt) cs (and_l (differs c cs) (Differ cs) h)) r
