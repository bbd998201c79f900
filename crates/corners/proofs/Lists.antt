-- Members of the lists that the choice makes. Assumes nothing.
use mathlib.Core.Path.{◌≡◌, refl, sym, subst}
use mathlib.Core.Logic.{◌⊎◌, inl, inr}
use mathlib.Core.Bool.{Bool, true, false, cond}
use Prim.Native.Nat.{ℕ}
use mathlib.Core.List.Memᴰ
use mathlib.Core.List.{List, [], ◌∷◌, Memᴰ}
use lib.Dec.{T}
use lib.Ieee.Fits.{and_i, and_l, and_r}
use Rattle.corners.specs.Choice.{keep, every_of, or_list, first}
use Rattle.corners.specs.Table.{occupied}

abbrev pub In : ℕ → List ℕ → Type 0
In s l = Memᴰ s l

abbrev pub Some : List ℕ → Type 0
Some l = (s : ℕ) × In s l

abbrev pub Each : (ℕ → Type 0) → List ℕ → Type 0
Each P l = (s : ℕ) → In s l → P s

pub keep→ : (f : ℕ → Bool) (l : List ℕ) {a : ℕ} → In a (keep f l) → In a l × T (f a)
unfolding keep
keep→ f [] m = absurd (Memᴰ.not-nil m)
keep→ f (s ∷ l) {a} m = go (f s) (λ t. t) (keep→ f l) m
  where
    later : In a l × T (f a) → In a (s ∷ l) × T (f a)
    later r = (Memᴰ.tail r.0, r.1)

    go : (b : Bool) → (T b → T (f s)) → (In a (keep f l) → In a l × T (f a)) → In a (cond b (s ∷ keep f l) (keep f l)) → In a (s ∷ l) × T (f a)
    go true h r m = elim (Memᴰ.cases_cons m) [
      | inl e ↦ (Memᴰ.head e, subst (λ (x : ℕ). T (f x)) (sym e) (h tt))
      | inr n ↦ later (r n)
    ]
    go false h r m = later (r m)

pub →keep : (f : ℕ → Bool) (l : List ℕ) {a : ℕ} → In a l → T (f a) → In a (keep f l)
unfolding keep
→keep f [] m t = absurd (Memᴰ.not-nil m)
→keep f (s ∷ l) {a} m t = elim (Memᴰ.cases_cons m) [
  | inl e ↦ here e (f s) (subst (λ (x : ℕ). T (f x)) e t)
  | inr n ↦ there (f s) (→keep f l n t)
]
  where
    here : a ≡ s → (b : Bool) → T b → In a (cond b (s ∷ keep f l) (keep f l))
    here e true h = Memᴰ.head e
    here e false h = absurd h

    there : (b : Bool) → In a (keep f l) → In a (cond b (s ∷ keep f l) (keep f l))
    there true n = Memᴰ.tail n
    there false n = n

pub every→ : (f : ℕ → Bool) (l : List ℕ) → T (every_of f l) → Each (λ s. T (f s)) l
unfolding every_of
every→ f [] t a m = absurd (Memᴰ.not-nil m)
every→ f (s ∷ l) t a m = elim (Memᴰ.cases_cons m) [
  | inl e ↦ subst (λ (x : ℕ). T (f x)) (sym e) (and_l (f s) (every_of f l) t)
  | inr n ↦ every→ f l (and_r (f s) (every_of f l) t) a n
]

pub →every : (f : ℕ → Bool) (l : List ℕ) → Each (λ s. T (f s)) l → T (every_of f l)
unfolding every_of
→every f [] h = tt
→every f (s ∷ l) h = and_i (f s) (every_of f l) (h s (Memᴰ.head refl)) (→every f l (λ a m. h a (Memᴰ.tail m)))

pub first_in : (l : List ℕ) → Some l → In (first l) l
unfolding first
first_in [] m = absurd (Memᴰ.not-nil m.1)
first_in (s ∷ l) m = Memᴰ.head refl

pub or_else→ : (k l : List ℕ) {a : ℕ} → In a (or_list k l) → In a k ⊎ In a l
unfolding or_list
or_else→ [] l m = inr m
or_else→ (s ∷ k) l m = inl m

pub or_else_some : (k l : List ℕ) → Some l → Some (or_list k l)
unfolding or_list
or_else_some [] l m = m
or_else_some (s ∷ k) l m = (s, Memᴰ.head refl)

-- two lists, not both empty, each filled by the other: they are the same, or each is as it was
pub record Filled (P Q : ℕ → Type 0) (low high : List ℕ) : Type 0 where
  pub low_some : Some low
  pub high_some : Some high
  pub apart : (low ≡ high) ⊎ (Each P low × Each Q high)

pub filled : (P Q : ℕ → Type 0) (b a : List ℕ) → Some b ⊎ Some a → Each P b → Each Q a → Filled P Q (or_list b a) (or_list a b)
unfolding or_list
filled P Q [] [] h p q = absurd (elim h [ inl m ↦ Memᴰ.not-nil m.1 | inr m ↦ Memᴰ.not-nil m.1 ])
filled P Q [] (t ∷ a) h p q = record { low_some = (t, Memᴰ.head refl); high_some = (t, Memᴰ.head refl); apart = inl refl }
filled P Q (s ∷ b) [] h p q = record { low_some = (s, Memᴰ.head refl); high_some = (s, Memᴰ.head refl); apart = inl refl }
filled P Q (s ∷ b) (t ∷ a) h p q = record { low_some = (s, Memᴰ.head refl); high_some = (t, Memᴰ.head refl); apart = inr (p, q) }

pub some_of : (l : List ℕ) → T (occupied l) → Some l
some_of [] t = absurd t
some_of (k ∷ l) t = (k, Memᴰ.head refl)
