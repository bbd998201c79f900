-- A push that no reason speaks against is accepted. Assumes nothing.
use Prim.Native.Nat.{ℕ, zero, suc, ◌+◌, ◌≤◌, ◌<◌}
use mathlib.Core.Path.{◌≡◌, refl, ap, ap₂, ◌∙◌}
use mathlib.Core.Logic.{⊎_elim}
use mathlib.Core.Bool.{Bool, true, false, cond, not, ◌||◌, or-true}
use mathlib.Core.List.{List, [], ◌∷◌}
use native.Mathlib.Omega.{arith}
use borrow.Author.Tests.{le-leb, eq-eqb, ne_eqb, eqb-true}
use lib.Dec.{eqb, lit<}
use lib.ListN.{length}
use Rattle.ieee.specs.Bounds.{All}
use Rattle.beds.specs.Matching.{counted}
use Rattle.rules.specs.Leaves.{Leaves, Shape, started}
use Rattle.rules.specs.Samples.{State}
use Rattle.rules.specs.Refusals.{Args, Found, clear, ◌then◌, unless, early, beds_found, never, Announced, objects_match, counts_at, shape_at, mixes, walk, none_sent, later}
use Rattle.rules.specs.Calls.{updates_in, announced, found}
use Rattle.rules.specs.Accepted.{Suits, Acceptable}
use Rattle.rules.proofs.Judged.{is_roomy, samples_fit}

-- ---- tests that find nothing
pub both_clear : {x y : Found} → x ≡ clear → y ≡ clear → (x then y) ≡ clear
both_clear p q = ap₂ ◌then◌ p q

pub passed : {t : Bool} (n a b : ℕ) → t ≡ true → unless t n a b ≡ clear
passed n a b e = ap (λ (t : Bool). unless t n a b) e

not_equal : (m n : ℕ) → (m ≡ n → ⊥) → not (eqb m n) ≡ true
not_equal m n h = ap not (ne_eqb m n h)

-- ---- 11, 13 and 14
module _ (us : List Announced) (objects : ℕ) (codes : List ℕ) where
  abbrev Fits : Shape → Type 0
  Fits = Suits objects codes

  beds_clear : (beds cs : List ℕ) → All (λ (c : ℕ). (counted c codes ≡ 0 → ⊥) × (c ≡ 6 → ⊥)) cs → beds_found beds codes cs ≡ clear
  beds_clear beds [] h = refl
  beds_clear beds (c ∷ cs) h =
      both_clear (both_clear (passed 13 (counted c beds) 0 (not_equal (counted c codes) 0 h.0.0)) (passed 14 c 0 (not_equal c 6 h.0.1))) (beds_clear beds cs h.1)

  matched : (s : Shape) → Fits s → objects_match us objects codes s ≡ clear
  matched s f = passed 11 s.objects objects (eq-eqb s.objects objects f.objects)

  -- where it is started
  abbrev Ready : Shape → Type 0
  Ready s = s.started ≡ true → Fits s

  mixes_clear : (s : Shape) → Ready s → mixes us objects codes s ≡ clear
  mixes_clear s f = go s.started refl
    where
      go : (b : Bool) → s.started ≡ b → cond b (beds_found s.beds codes s.beds) clear ≡ clear
      go true e = beds_clear s.beds s.beds (f e).beds
      go false e = refl

  first_clear : (s : Shape) → Ready s → cond s.started (objects_match us objects codes s) clear ≡ clear
  first_clear s f = go s.started refl
    where
      go : (b : Bool) → s.started ≡ b → cond b (objects_match us objects codes s) clear ≡ clear
      go true e = matched s (f e)
      go false e = refl

  -- each update that does not only wait
  abbrev AllFit : List Announced → Type 0
  AllFit vs = All (λ (u : Announced). (u.offset ≡ never → ⊥) → Fits u.shape) vs

  -- one at a sample does not
  falls : (o t : ℕ) → t < never → eqb o t ≡ true → o ≡ never → ⊥
  falls o t l e q = let h = eqb-true o t e in omega arith

  counts_clear : (t : ℕ) (vs : List Announced) → t < never → AllFit vs → counts_at us objects codes t vs ≡ clear
  counts_clear t [] l h = refl
  counts_clear t (u ∷ vs) l h = both_clear (go (eqb u.offset t) refl) (counts_clear t vs l h.1)
    where
      go : (b : Bool) → eqb u.offset t ≡ b → cond b (objects_match us objects codes u.shape) clear ≡ clear
      go true e = matched u.shape (h.0 (falls u.offset t l e))
      go false e = refl

  shape_ready : (t : ℕ) (vs : List Announced) (s : Shape) → t < never → AllFit vs → Ready s → Ready (shape_at us objects codes t vs s)
  shape_ready t [] s l h f = f
  shape_ready t (u ∷ vs) s l h f = shape_ready t vs (cond (eqb u.offset t) u.shape s) l h.1 (go (eqb u.offset t) refl)
    where
      go : (b : Bool) → eqb u.offset t ≡ b → Ready (cond b u.shape s)
      go true q e = h.0 (falls u.offset t l q)
      go false q e = f e

  module _ (all : AllFit us) where
    walk_clear : (n t : ℕ) (s : Shape) → t + n ≤ never → Ready s → walk us objects codes n t s ≡ clear
    walk_clear zero t s l f = refl
    walk_clear (suc n) t s l f =
        let here : t < never = omega arith in
        let next = shape_ready t us s here all f in
        both_clear (counts_clear t us here all)
        (both_clear (mixes_clear (shape_at us objects codes t us s) next) (walk_clear n (suc t) (shape_at us objects codes t us s) (omega arith) next))

    later_clear : (n rate old : ℕ) (s : Shape) → (eqb old 0 || eqb old rate) ≡ true → (s.started || not (none_sent us objects codes us)) ≡ true → not (eqb n 0) ≡ true → n ≤ never
        → Ready s → later us objects codes n rate old s ≡ clear
    later_clear n rate old s p q z l f =
        let here : 0 < never = lit< tt in
        let whole : 0 + n ≤ never = omega arith in
        both_clear (passed 9 old rate p)
        (both_clear (passed 10 0 0 q)
        (both_clear (counts_clear 0 us here all)
        (both_clear (passed 12 0 0 z) (both_clear (first_clear (shape_at us objects codes 0 us s) (shape_ready 0 us s here all f)) (walk_clear n 0 s whole f)))))

-- ---- a push
module _ (L : Leaves) (r : State L) (a : Args) (k : Acceptable L r a) where
  abbrev sent : List Announced
  sent = announced L (updates_in L r a)

  all_sent : (us : List L.Update) → All (λ (u : L.Update). (L.offset u ≡ never → ⊥) → Suits a.objects a.codes (L.sent u)) us
      → All (λ (u : Announced). (u.offset ≡ never → ⊥) → Suits a.objects a.codes u.shape) (announced L us)
  all_sent [] h = tt
  all_sent (u ∷ us) h = (h.0, all_sent us h.1)

  early_clear : early L r a ≡ clear
  early_clear =
      both_clear (passed 1 0 0 k.room)
      (both_clear (passed 2 0 0 k.sized)
      (both_clear (passed 3 0 0 k.listed)
      (both_clear (passed 4 0 0 (le-leb (r.clock.position + a.samples) 1099511627776 k.position))
      (both_clear (passed 5 0 0 k.laid_out) (both_clear (passed 6 0 0 k.in_range) (passed 8 0 0 k.passes))))))

  same_rate : (eqb r.rate 0 || eqb r.rate a.rate) ≡ true
  same_rate = ⊎_elim
      (λ (e : r.rate ≡ 0). ap (λ (b : Bool). b || eqb r.rate a.rate) (eq-eqb r.rate 0 e))
      (λ (e : r.rate ≡ a.rate). ap (λ (b : Bool). eqb r.rate 0 || b) (eq-eqb r.rate a.rate e) ∙ or-true (eqb r.rate 0))
      k.rate

  told : (started L r.meta || not (none_sent sent a.objects a.codes sent)) ≡ true
  told = ⊎_elim
      (λ (e : started L r.meta ≡ true). ap (λ (b : Bool). b || not (none_sent sent a.objects a.codes sent)) e)
      (λ (e : none_sent sent a.objects a.codes sent ≡ false). ap (λ (b : Bool). started L r.meta || not b) e ∙ or-true (started L r.meta))
      k.told

  few : a.samples ≤ never
  few = let w = is_roomy a.stride (length a.out) k.room in let h = w.most in let q = samples_fit a k.sized in omega arith

  pub accepts : found L r a ≡ clear
  accepts =
      both_clear early_clear
      (both_clear (passed 25 0 0 k.fits)
      (later_clear sent a.objects a.codes (all_sent (updates_in L r a) k.updates) a.samples a.rate r.rate (L.shape r.meta) same_rate told
      (not_equal a.samples 0 (λ e. let h = k.some in omega arith)) few k.present))
