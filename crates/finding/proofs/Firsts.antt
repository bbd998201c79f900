-- What is found is the first: of a walk, and of the three walks of the grid. Assumes nothing.
use mathlib.Core.Path.{◌≡◌, refl, sym, ap, ◌∙◌, subst}
use mathlib.Core.Logic.{inl, inr}
use Prim.Native.Nat.{ℕ, zero, suc, ◌+◌, ◌≤◌, ◌<◌}
use native.Mathlib.Nat.{eq-or-lt_of_le}
use native.Mathlib.Omega.{arith}
use Rattle.std.specs.Prelude.{Option, Some, None}
use Rattle.std.specs.Option.{option_or}
use Rattle.vectors.specs.declared.Vec3.{Vec3}
use Rattle.finding.specs.Search.{first_place}

-- ---- a walk from i over n places
pub record FoundIn (f : ℕ → Option Vec3) (n i : ℕ) (p : Vec3) : Type 0 where
  pub k : ℕ
  pub from : i ≤ k
  pub to : k < i + n
  pub is : f k ≡ Some p
  pub before : (j : ℕ) → i ≤ j → j < k → f j ≡ None

abbrev pub NoneIn : (ℕ → Option Vec3) → ℕ → ℕ → Type 0
NoneIn f n i = (k : ℕ) → i ≤ k → k < i + n → f k ≡ None

pub some_is_some : {p q : Vec3} → Some p ≡ Some q → p ≡ q
some_is_some {p} e = ap (λ (o : Option Vec3). option_or_place o) e
  where
    option_or_place : Option Vec3 → Vec3
    option_or_place None = p
    option_or_place (Some q) = q

pub none_is_not : {p : Vec3} → ◌≡◌ {A = Option Vec3} None (Some p) → ⊥
none_is_not e = subst here e tt
  where
    here : Option Vec3 → Type 0
    here None = Unit {0}
    here (Some p) = ⊥

-- what is found further on is found from here, where nothing is here
later : (f : ℕ → Option Vec3) (n i : ℕ) (p : Vec3) → f i ≡ None → FoundIn f n (suc i) p → FoundIn f (suc n) i p
later f n i p d r = record {
  k = r.k;
  from = let a = r.from in omega (arith, a);
  to = let b = r.to in omega (arith, b);
  is = r.is;
  before = λ j x y. elim (eq-or-lt_of_le x) [ inl e ↦ subst (λ (m : ℕ). f m ≡ None) e d | inr l ↦ r.before j l y ];
}

pub found_in : (f : ℕ → Option Vec3) (n i : ℕ) (p : Vec3) → first_place f n i ≡ Some p → FoundIn f n i p
unfolding first_place
found_in f zero i p e = absurd (none_is_not e)
found_in f (suc n) i p e = go (f i) refl e (found_in f n (suc i) p)
  where
    go : (o : Option Vec3) → f i ≡ o → option_or o (first_place f n (suc i)) ≡ Some p → (first_place f n (suc i) ≡ Some p → FoundIn f n (suc i) p) → FoundIn f (suc n) i p
    go (Some q) d e r = record { k = i; from = omega arith; to = omega arith; is = d ∙ e; before = λ j a b. absurd (omega (arith, a, b)) }
    go None d e r = later f n i p d (r e)

pub in_found : (f : ℕ → Option Vec3) (n i : ℕ) (p : Vec3) → FoundIn f n i p → first_place f n i ≡ Some p
unfolding first_place
in_found f zero i p r = absurd (let a = r.from in let b = r.to in omega (arith, a, b))
in_found f (suc n) i p r = elim (eq-or-lt_of_le r.from) [
  | inl e ↦ ap (λ (o : Option Vec3). option_or o (first_place f n (suc i))) (ap f e ∙ r.is)
  | inr l ↦ ap (λ (o : Option Vec3). option_or o (first_place f n (suc i))) (r.before i (let a : i ≤ i = omega arith in a) l)
      ∙ in_found f n (suc i) p (record { k = r.k; from = l; to = let b = r.to in omega (arith, b); is = r.is; before = λ j x y. r.before j (omega (arith, x)) y })
]

pub none_in : (f : ℕ → Option Vec3) (n i : ℕ) → first_place f n i ≡ None → NoneIn f n i
unfolding first_place
none_in f zero i e k x y = absurd (omega (arith, x, y))
none_in f (suc n) i e k x y = go (f i) refl e (none_in f n (suc i))
  where
    go : (o : Option Vec3) → f i ≡ o → option_or o (first_place f n (suc i)) ≡ None → (first_place f n (suc i) ≡ None → NoneIn f n (suc i)) → f k ≡ None
    go (Some q) d e r = absurd (none_is_not (sym e))
    go None d e r = elim (eq-or-lt_of_le x) [ inl h ↦ subst (λ (m : ℕ). f m ≡ None) h d | inr l ↦ r e k l (omega (arith, y)) ]

pub in_none : (f : ℕ → Option Vec3) (n i : ℕ) → NoneIn f n i → first_place f n i ≡ None
unfolding first_place
in_none f zero i h = refl
in_none f (suc n) i h =
    ap (λ (o : Option Vec3). option_or o (first_place f n (suc i))) (h i (omega arith) (omega arith)) ∙ in_none f n (suc i) (λ k x y. h k (omega (arith, x)) (omega (arith, y)))
