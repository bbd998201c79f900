-- The first that stops: what a refusal, or a test, that stops or does not leaves of those after it. Assumes nothing.
use Prim.Native.Nat.{ℕ, zero, suc, ◌+◌, ◌<◌, ◌≤◌}
use mathlib.Core.Path.{◌≡◌, refl, sym, ap, ◌∙◌}
use mathlib.Core.Bool.{Bool, true, false}
use mathlib.Core.Logic.{◌↔◌}
use mathlib.Core.List.{List, [], ◌∷◌}
use lib.Dec.{leb}
use lib.ListN.{length, get_or, drop, drop_of_length-le}
use lib.Seq.{drop-cons}
use native.Mathlib.Numerals.{add-one}
use native.Mathlib.Omega.{arith}
use borrow.Author.Tests.{ne_eqb, le-leb, leb-true}
use Rattle.std.specs.Prelude.{EachIndex, IsTrue, IsErrAnd, Result}
use Rattle.std.proofs.lemmas.Result.{err_from_is_err_and}
use Rattle.fields.proofs.All.{and_left, and_right}
use Rattle.beds.specs.Matching.{counted}
use Rattle.rules.specs.Refusals.{Found, clear, stop, ◌then◌, unless, every, bed_found, beds_found}
use Rattle.refusals.specs.RefusalNumbers.{stop_of, numbers_of, found_of}
use Rattle.refusals.specs.declared.Refusal.{Refusal}
use Rattle.refusals.specs.declared.Stop.{Stop}
use Rattle.refusals.specs.FirstFound.{is_none}

-- a test that the code makes and that fails, or does not
pub failed : {b r : Bool} → r ≡ b → r ≡ false → b ≡ false
failed e t = sym e ∙ t

pub passed : {b r : Bool} → r ≡ b → r ≡ true → b ≡ true
passed e t = sym e ∙ t

pub stops : (f x : Found) → is_none f ≡ false → (f then x) ≡ f
stops clear x e = absurd (let z : ◌≡◌ {A = ℕ} 0 1 = cc in omega arith)
stops (stop n a b) x e = refl

pub passes : (f x : Found) → is_none f ≡ true → (f then x) ≡ x
passes clear x e = refl
passes (stop n a b) x e = absurd (let z : ◌≡◌ {A = ℕ} 0 1 = cc in omega arith)

-- the first that stops is what is found
pub first_stops : (x y : Found) → (x ≡ clear → ⊥) → x ≡ (x then y)
first_stops clear y n = absurd (n refl)
first_stops (stop k a b) y n = refl

-- ---- a part f of a chain, and the rest x of it

module _ (f x all : Found) (rest : (f then x) ≡ all) where
  pub chain_stops : (r : Refusal) → stop_of r ≡ f → stop_of r ≡ all
  chain_stops r is = ap (λ (g : Found). g then x) is ∙ rest

  pub chain_passes : clear ≡ f → x ≡ all
  chain_passes is = ap (λ (g : Found). g then x) is ∙ rest

-- ---- what `?` hands on is the refusal e

pub handed_on : {A : Type 0} (r : Result A Refusal) (e : Refusal) {x : Found} → IsErrAnd r (λ y. y ≡ e) → stop_of e ≡ x → found_of r ≡ x
handed_on r e h is = let p = err_from_is_err_and r h in rw (p.1, p.2) is

-- ---- the beds in order

module _ (beds codes : List ℕ) where
  pub beds_step : (i : ℕ) → i < length beds →
      beds_found beds codes (drop i beds) ≡ (bed_found beds codes (get_or beds i 0) then beds_found beds codes (drop (i + 1) beds))
  beds_step i l = rw (drop-cons beds i 0, add-one)

  pub beds_end : (i : ℕ) → length beds ≤ i → beds_found beds codes (drop i beds) ≡ clear
  beds_end i l = rw drop_of_length-le

module _ (beds codes : List ℕ) (c : ℕ) where
  pub bed_missing : counted c codes ≡ 0 → stop 13 (counted c beds) 0 ≡ bed_found beds codes c
  bed_missing e = rw e

  pub bed_unsupported : (counted c codes ≡ 0 → ⊥) → c ≡ 6 → stop 14 c 0 ≡ bed_found beds codes c
  bed_unsupported h e = rw (ne_eqb (counted c codes) 0 h, e)

  pub bed_clear : (counted c codes ≡ 0 → ⊥) → (c ≡ 6 → ⊥) → clear ≡ bed_found beds codes c
  bed_clear h e = rw (ne_eqb (counted c codes) 0 h, ne_eqb c 6 e)

-- ---- one test of a chain

module _ (t : Bool) (n a b : ℕ) (x : Found) where
  pub unless_stops : t ≡ false → stop n a b ≡ (unless t n a b then x)
  unless_stops e = rw e

  pub unless_passes : t ≡ true → x ≡ (unless t n a b then x)
  unless_passes e = rw e

-- ---- a test along a list

module _ (f : ℕ → Bool) (s : List ℕ) (i : ℕ) (h : i < length s) where
  pub every_stops : f (get_or s i 0) ≡ false → every f (drop i s) ≡ false
  every_stops e = rw (drop-cons s i 0 h, e)

  pub every_goes_on : f (get_or s i 0) ≡ true → every f (drop i s) ≡ every f (drop (i + 1) s)
  every_goes_on e = rw (drop-cons s i 0 h, e, add-one)

-- ---- whether each of a list is listed

each_listed : (s : List ℕ) → EachIndex s (λ k. get_or s k 0 ≤ 17) → every (λ c. leb c 17) s ≡ true
each_listed [] h = refl
each_listed (x ∷ s) h = rw (le-leb x 17 (h 0 (omega arith))) (each_listed s (λ k l. h (suc k) (omega arith)))

listed_each : (s : List ℕ) → every (λ c. leb c 17) s ≡ true → EachIndex s (λ k. get_or s k 0 ≤ 17)
listed_each [] e k l = absurd (omega arith)
listed_each (x ∷ s) e zero l = leb-true x 17 (and_left (leb x 17) _ e)
listed_each (x ∷ s) e (suc k) l = listed_each s (and_right (leb x 17) _ e) k (omega arith)

pub all_listed : (s : List ℕ) (r : Bool) → (IsTrue r ↔ EachIndex s (λ k. get_or s k 0 ≤ 17)) → r ≡ every (λ c. leb c 17) s
all_listed s r h = same r (every (λ c. leb c 17) s) (λ e. each_listed s (h.0 e)) (λ e. h.1 (listed_each s e))
  where
    same : (a b : Bool) → (a ≡ true → b ≡ true) → (b ≡ true → a ≡ true) → a ≡ b
    same true b f g = sym (f refl)
    same false true f g = g refl
    same false false f g = refl

-- ---- the numbers of a refusal that is y
pub by_case : {x y : Refusal} {s : Stop} → x ≡ y → s ≡ numbers_of y → s ≡ numbers_of x
by_case e h = h ∙ ap numbers_of (sym e)
