-- The channels of the routes. Assumes nothing.
use mathlib.Core.Path.{◌≡◌, refl, sym, ap, subst}
use mathlib.Core.Bool.{Bool, true, false, not, ◌&&◌, cond}
use mathlib.Core.List.{List, [], ◌∷◌}
use Prim.Native.Nat.{ℕ, zero, suc, ◌<◌}
use lib.Dec.{T, T_not, ltb, eqb, ltb→lt}
use lib.ListN.{get_or}
use lib.Ieee.Fits.{and_l, and_r}
use Rattle.beds.specs.declared.Route.{Route}
use Rattle.beds.specs.declared.Route.TheVariants.{Bass, Folded, Direct, Unsupported}
use Rattle.beds.specs.Routes.{routes, route_of, folded_unless, route_in}

-- a direct channel is one of the twelve, and not the bass channel
abbrev allowed : Route → Bool
allowed Bass = true
allowed Folded = true
allowed (Direct k) = ltb k 12 && not (eqb k 3)
allowed Unsupported = true

abbrev every : List Route → Bool
every [] = true
every (r ∷ rs) = allowed r && every rs

every_at : (rs : List Route) (n : ℕ) → T (every rs) → T (allowed (get_or rs n Unsupported))
every_at [] n t = tt
every_at (r ∷ rs) zero t = and_l (allowed r) (every rs) t
every_at (r ∷ rs) (suc n) t = every_at rs n (and_r (allowed r) (every rs) t)

direct_allowed : {k : ℕ} (r : Route) → T (allowed r) → r ≡ Direct k → (k < 12) × (k ≡ 3 → ⊥)
direct_allowed {k} r a e =
    let t : T (ltb k 12 && not (eqb k 3)) = subst (λ (s : Route). T (allowed s)) e a in
    (ltb→lt k 12 (and_l (ltb k 12) _ t), λ h. T_not (eqb k 3) (and_r (ltb k 12) _ t) (subst (λ (n : ℕ). T (eqb n 3)) (sym h) tt))

pub direct_channel : {k : ℕ} (code : ℕ) → route_of code ≡ Direct k → (k < 12) × (k ≡ 3 → ⊥)
unfolding route_of
direct_channel code e = direct_allowed (route_of code) (every_at routes code tt) e

-- and so in any hall
folded_allowed : (here : ℕ → Bool) (r : Route) → T (allowed r) → T (allowed (folded_unless here r))
folded_allowed here Bass a = tt
folded_allowed here Folded a = tt
folded_allowed here (Direct j) a = go (here j)
  where
    go : (b : Bool) → T (allowed (cond b (Direct j) Folded))
    go true = a
    go false = tt
folded_allowed here Unsupported a = tt

pub direct_in : {k : ℕ} (here : ℕ → Bool) (code : ℕ) → route_in here code ≡ Direct k → (k < 12) × (k ≡ 3 → ⊥)
unfolding route_of route_in
direct_in here code e = direct_allowed (route_in here code) (folded_allowed here (route_of code) (every_at routes code tt)) e

-- a hall that has all twelve channels routes each bed as document 01 does
pub route_all_here : (here : ℕ → Bool) → ((k : ℕ) → k < 12 → here k ≡ true) → (code : ℕ) → route_in here code ≡ route_of code
unfolding route_in
route_all_here here h code = go (route_of code) refl
  where
    go : (r : Route) → route_of code ≡ r → folded_unless here r ≡ r
    go Bass e = refl
    go Folded e = refl
    go (Direct k) e = ap (λ (b : Bool). cond b (Direct k) Folded) (h k (direct_channel code e).0)
    go Unsupported e = refl
