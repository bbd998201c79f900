-- The ends along one axis, for speakers with finite coordinates: both exist, and they are the same, or they lie on the two sides of the position. Assumes nothing.
use mathlib.Core.Path.{◌≡◌, refl, sym, subst}
use mathlib.Core.Logic.{◌⊎◌, inl, inr}
use mathlib.Core.Bool.{Bool, true, false, not}
use mathlib.Core.List.Memᴰ
use mathlib.Core.List.{List, [], ◌∷◌}
use Prim.Native.Nat.{ℕ, ◌+◌, ◌≤◌, ◌<◌}
use native.Mathlib.Nat.{le_refl, le_of_lt, le_of_eq, le_antisymm}
use native.Mathlib.Omega.{arith}
use lib.Dec.{T, leb, leb→le, nleb→lt}
use lib.Ieee.{Float, binary32, fits, le, eq}
use Rattle.ieee.specs.Units.{F32, P, N}
use Rattle.ieee.proofs.Compare.{le→, →le, →eq, eq→}
use Rattle.corners.proofs.Rising.{eq_finite}
use Rattle.corners.specs.Choice.{keep, every_of, first, or_list, ge, outermost, below, above, end}
use Rattle.corners.proofs.Lists.{In, Some, Each, keep→, →keep, every→, →every, first_in, or_else→, Filled, filled}

-- ---- `le` and `ge` order the finite values
pub record Order (r : Float → Float → Bool) : Type 0 where
  pub self : (x : Float) → F32 x → T (r x x)
  pub total : (x y : Float) → F32 x → F32 y → T (r x y) ⊎ T (r y x)
  pub trans : (x y z : Float) → F32 x → F32 y → F32 z → T (r x y) → T (r y z) → T (r x z)
  pub both : (x y : Float) → F32 x → F32 y → T (r x y) → T (r y x) → T (eq x y)
  pub same : (x y : Float) → F32 x → F32 y → T (eq x y) → T (r x y) × T (r y x)

le_self : (x : Float) → F32 x → T (le x x)
le_self x f = →le x x f f (le_refl (P x + N x))

le_total : (x y : Float) → F32 x → F32 y → T (le x y) ⊎ T (le y x)
le_total x y f g = go (leb (P x + N y) (P y + N x)) (leb→le (P x + N y) (P y + N x)) (nleb→lt (P x + N y) (P y + N x))
  where
    go : (b : Bool) → (T b → P x + N y ≤ P y + N x) → (T (not b) → P y + N x < P x + N y) → T (le x y) ⊎ T (le y x)
    go true h k = inl (→le x y f g (h tt))
    go false h k = inr (→le y x g f (le_of_lt (k tt)))

le_through : (x y z : Float) → F32 x → F32 y → F32 z → T (le x y) → T (le y z) → T (le x z)
le_through x y z f g h p q = →le x z f h (join (P x) (N x) (P y) (N y) (P z) (N z) (le→ x y f g p) (le→ y z g h q))
  where
    join : (a a' b b' c c' : ℕ) → a + b' ≤ b + a' → b + c' ≤ c + b' → a + c' ≤ c + a'
    join a a' b b' c c' h k = omega arith

le_both : (x y : Float) → F32 x → F32 y → T (le x y) → T (le y x) → T (eq x y)
le_both x y f g p q = →eq x y f g (le_antisymm (le→ x y f g p) (le→ y x g f q))

le_same : (x y : Float) → F32 x → F32 y → T (eq x y) → T (le x y) × T (le y x)
le_same x y f g e = let i = eq→ x y f g e in (→le x y f g (le_of_eq i), →le y x g f (le_of_eq (sym i)))

le_order : Order le
le_order = record { self = le_self; total = le_total; trans = le_through; both = le_both; same = le_same }

ge_order : Order ge
ge_order = record {
  self = le_self;
  total = λ x y f g. le_total y x g f;
  trans = λ x y z f g h p q. le_through z y x h g f q p;
  both = λ x y f g p q. le_both x y f g q p;
  same = λ x y f g e. let i = le_same x y f g e in (i.1, i.0);
}

-- ---- the last in an order exists
module _ (r : Float → Float → Bool) (o : Order r) (c : ℕ → Float) where
  greatest : (l : List ℕ) → Each (λ s. F32 (c s)) l → Some l → (m : ℕ) × In m l × Each (λ t. T (r (c t) (c m))) l
  greatest [] f m = absurd (Memᴰ.not-nil m.1)
  greatest (s ∷ []) f m = (
    s,
    Memᴰ.head refl,
    λ t n. elim (Memᴰ.cases_cons n) [
      | inl e ↦ subst (λ (x : ℕ). T (r (c x) (c s))) (sym e) (o.self (c s) (f s (Memᴰ.head refl)))
      | inr k ↦ absurd (Memᴰ.not-nil k)
    ],
  )
  greatest (s ∷ t ∷ l) f m = pick (greatest (t ∷ l) (λ a n. f a (Memᴰ.tail n)) (t, Memᴰ.head refl))
    where
      pick : (m : ℕ) × In m (t ∷ l) × Each (λ u. T (r (c u) (c m))) (t ∷ l) → (m : ℕ) × In m (s ∷ t ∷ l) × Each (λ u. T (r (c u) (c m))) (s ∷ t ∷ l)
      pick g =
          let fs = f s (Memᴰ.head refl) in
          let fg = f g.0 (Memᴰ.tail g.1) in
          elim (o.total (c s) (c g.0) fs fg) [
            | inl h ↦ (
              g.0,
              Memᴰ.tail g.1,
              λ u n. elim (Memᴰ.cases_cons n) [
                | inl e ↦ subst (λ (x : ℕ). T (r (c x) (c g.0))) (sym e) h
                | inr k ↦ g.2 u k
              ],
            )
            | inr h ↦ (
              s,
              Memᴰ.head refl,
              λ u n. elim (Memᴰ.cases_cons n) [
                | inl e ↦ subst (λ (x : ℕ). T (r (c x) (c s))) (sym e) (o.self (c s) fs)
                | inr k ↦ o.trans (c u) (c g.0) (c s) (f u n) fg fs (g.2 u k) h
              ],
            )
          ]

  last_some : (l : List ℕ) → Each (λ s. F32 (c s)) l → Some l → Some (outermost r c l)
  unfolding outermost
  last_some l f m =
      let g = greatest l f m in
      (g.0, →keep (λ s. every_of (λ t. r (c t) (c s)) l) l g.1 (→every (λ t. r (c t) (c g.0)) l g.2))

last→ : (r : Float → Float → Bool) (c : ℕ → Float) (l : List ℕ) {a : ℕ} → In a (outermost r c l) → In a l × Each (λ t. T (r (c t) (c a))) l
unfolding outermost
last→ r c l {a} m =
    let k = keep→ (λ s. every_of (λ t. r (c t) (c s)) l) l m in
    (k.0, every→ (λ t. r (c t) (c a)) l k.1)

-- ---- the ends about v
module _ (c : ℕ → Float) (v : Float) (l : List ℕ) where
  below→ : {a : ℕ} → In a (below c v l) → In a l × T (le (c a) v)
  unfolding below
  below→ m = keep→ (λ s. le (c s) v) l (last→ le c (keep (λ s. le (c s) v) l) m).0

  above→ : {a : ℕ} → In a (above c v l) → In a l × T (not (le (c a) v))
  unfolding above
  above→ m = keep→ (λ s. not (le (c s) v)) l (last→ ge c (keep (λ s. not (le (c s) v)) l) m).0

  -- no speaker up to v is nearer
  below_last : {a t : ℕ} → In a (below c v l) → In t l → T (le (c t) v) → T (le (c t) (c a))
  unfolding below
  below_last {a} {t} m n h = (last→ le c (keep (λ s. le (c s) v) l) m).1 t (→keep (λ s. le (c s) v) l n h)

  pub end→ : (b : Bool) {a : ℕ} → In a (end b c v l) → In a l
  unfolding end
  end→ false m = elim (or_else→ (below c v l) (above c v l) m) [ inl n ↦ (below→ n).0 | inr n ↦ (above→ n).0 ]
  end→ true m = elim (or_else→ (above c v l) (below c v l) m) [ inl n ↦ (above→ n).0 | inr n ↦ (below→ n).0 ]

  abbrev pub Ends : Type 0
  Ends = Filled (λ s. T (le (c s) v)) (λ s. T (not (le (c s) v))) (end false c v l) (end true c v l)

  pub ends : Each (λ s. F32 (c s)) l → Some l → Ends
  unfolding end below above
  ends f m = filled (λ s. T (le (c s) v)) (λ s. T (not (le (c s) v))) (below c v l) (above c v l) (one (le (c m.0) v) (λ t. t) (λ t. t)) (λ s n. (below→ n).1)
      (λ s n. (above→ n).1)
    where
      kept : (g : ℕ → Bool) → T (g m.0) → Some (keep g l)
      kept g t = (m.0, →keep g l m.1 t)

      fine : (g : ℕ → Bool) → Each (λ s. F32 (c s)) (keep g l)
      fine g s n = f s (keep→ g l n).0

      one : (b : Bool) → (T b → T (le (c m.0) v)) → (T (not b) → T (not (le (c m.0) v))) → Some (below c v l) ⊎ Some (above c v l)
      one true h k = inl (last_some le le_order c (keep (λ s. le (c s) v) l) (fine (λ s. le (c s) v)) (kept (λ s. le (c s) v) (h tt)))
      one false h k = inr (last_some ge ge_order c (keep (λ s. not (le (c s) v)) l) (fine (λ s. not (le (c s) v))) (kept (λ s. not (le (c s) v)) (k tt)))

-- ---- left and right of a row
or_else_left : (k l : List ℕ) {a : ℕ} → Some k → In a (or_list k l) → In a k
unfolding or_list
or_else_left [] l s m = absurd (Memᴰ.not-nil s.1)
or_else_left (t ∷ k) l s m = m

module _ (X : ℕ → Float) (v : Float) (g : T (fits binary32 v)) (l : List ℕ) (f : Each (λ k. F32 (X k)) l) (s : Some l) where
  -- a speaker r at v itself: the left one is level with it
  pub level_with : (r : ℕ) → In r l → T (eq (X r) v) → T (eq (X (first (end false X v l))) (X r))
  unfolding end below
  level_with r n e =
      let fr = f r n in
      let fv = eq_finite (X r) v fr g e in
      let le-rv : T (le (X r) v) = →le (X r) v fr fv (le_of_eq (eq→ (X r) v fr fv e)) in
      let k = keep (λ t. le (X t) v) l in
      let some : Some (below X v l) = last_some le le_order X k (λ t m. f t (keep→ (λ t. le (X t) v) l m).0) (r, →keep (λ t. le (X t) v) l n le-rv) in
      let m : In (first (end false X v l)) (below X v l) = or_else_left (below X v l) (above X v l) some (first_in (end false X v l) (ends X v l f s).low_some) in
      same (X (first (end false X v l))) (X r) v (f (first (end false X v l)) (below→ X v l m).0) fr fv (below→ X v l m).1 (below_last X v l m n le-rv) e
    where
      same : (a b v : Float) → F32 a → F32 b → F32 v → T (le a v) → T (le b a) → T (eq b v) → T (eq a b)
      same a b v fa fb fv h k e = →eq a b fa fb (close (P a) (N a) (P b) (N b) (P v) (N v) (le→ a v fa fv h) (le→ b a fb fa k) (eq→ b v fb fv e))
        where
          close : (a a' b b' v v' : ℕ) → a + v' ≤ v + a' → b + a' ≤ a + b' → b + v' ≡ v + b' → a + b' ≡ b + a'
          close a a' b b' v v' h k e = le_antisymm (omega arith) (omega arith)
