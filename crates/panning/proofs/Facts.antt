-- The facts on panning, together: `Pans` holds of any table and any position. Assumes nothing.
use mathlib.Core.Path.{◌≡◌, refl, sym, ap, ◌∙◌, subst, subst⁻¹}
use mathlib.Core.Logic.{inl, inr}
use mathlib.Core.Bool.{Bool, true, false, not, cond}
use mathlib.Core.List.Memᴰ
use mathlib.Core.List.{List, [], ◌++◌, map, Memᴰ}
use Prim.Native.Nat.{ℕ, ◌*◌}
use native.Mathlib.Nat.{zero-mul}
use native.Mathlib.Omega.{arith}
use lib.Dec.{T}
use lib.Ieee.{Float, binary32, fits, mul, sub, le, eq, ne}
use lib.Ieee.Fits.{and_i}
use Rattle.ieee.proofs.Constants.{zero_f32, zero_mag, eight_f32, eight_P, one_f32, one_P}
use Rattle.ieee.specs.Units.{One, F32, mag, P}
use Rattle.ieee.specs.Nearest.{Root}
use Rattle.ieee.proofs.Compare.{→le, →eq, eq→}
use Rattle.ieee.proofs.Signed.{mag_is}
use Rattle.roots.specs.Root.{root}
use Rattle.roots.proofs.Theorems.{root_nearest}
use Rattle.vectors.specs.declared.Vec3.{Vec3}
use Rattle.panning.specs.declared.Panned.{Panned}
use Rattle.corners.specs.Choice.{Corner, corner, corners, 0·0, 1·0}
use Rattle.panning.specs.Terms.{up, ahead, across, part, row_weight, coefficient, inner_gain, extra, nothing, panned, Term, term, audible, paired, spread, corner_terms, terms}
use Rattle.corners.specs.Table.{Table, Position, 8·0, between}
use Rattle.panning.specs.Facts.{Pans}
use Rattle.panning.specs.Coefficients.{Each, squares, AddsUp}
use Rattle.panning.proofs.Tables.{Gain8, gain8, size1}
use Rattle.panning.proofs.SharesInUnit.{Part}
use Rattle.panning.proofs.Corners.{corner_in, up_part, ahead_part, across_part}
use Rattle.panning.proofs.Weighing.{Plus, weight, weights, part_plus}
use Rattle.panning.proofs.Once.{once}
use Rattle.panning.proofs.Sum.{root_zero, Eight, eight, add_up}
use Rattle.panning.proofs.Audible.{audible→, audible_none, map_in, all_squares, square_audible, by_channel, apart, apart_once, Differ, differs, apart_audible}
use Rattle.panning.proofs.Roots.{corner_rooted, corner_plus, extra_plus, inner_gain8}

part_between : (s : Float) → Part s → T (between 0·0 1·0 s)
unfolding between
part_between s h =
    let f = h.s_f32 in
    let p = one_P in
    let z = zero_mag in
    and_i (fits binary32 s) _ f.fit (and_i (le 0·0 s) (le s 1·0) (→le 0·0 s zero_f32 f (omega (arith, h.s_plus))) (→le s 1·0 f one_f32 (omega (arith, h.s_plus, h.s_most))))

plus_between : (s : Float) → Plus s (8 * One) → T (between 0·0 8·0 s)
unfolding between
plus_between s h =
    let f = h.f32 in
    let p = eight_P in
    let z = zero_mag in
    and_i (fits binary32 s) _ f.fit (and_i (le 0·0 s) (le s 8·0) (→le 0·0 s zero_f32 f (omega (arith, h.plus))) (→le s 8·0 f eight_f32 (omega (arith, h.plus, h.most))))

-- ---- the list of terms, for a gain that is not 0
module _ (sp : ℕ → Vec3) (l : List ℕ) (n : Float) (p : Vec3) (g s : Float) where
  abbrev heard : Panned
  heard = record { corners = map (corner sp l p) corners; coefficients = map (coefficient sp (corner sp l p) p (inner_gain g s)) corners; extra = extra n g s }

  by_gain : (Q : Panned → Type 0) → (T (eq g 0·0) → Q nothing) → Q heard → Q (panned sp l n p g s)
  unfolding panned
  by_gain Q none some = go (eq g 0·0) (λ z. z)
    where
      go : (b : Bool) → (T b → T (eq g 0·0)) → Q (cond b nothing heard)
      go true z = none (z tt)
      go false z = some

  no_gain : T (eq g 0·0) → panned sp l n p g s ≡ nothing
  unfolding panned
  no_gain z = go (eq g 0·0) z
    where
      go : (b : Bool) → T b → cond b nothing heard ≡ nothing
      go true z = refl
      go false z = absurd z

  abbrev of : Corner → Term
  of c = term (corner sp l p c) (coefficient sp (corner sp l p) p (inner_gain g s) c)

  corner_terms_is : corner_terms heard ≡ audible (map of corners)
  unfolding paired
  corner_terms_is = refl

nothing_corners : corner_terms nothing ≡ []
unfolding paired audible ne eq
nothing_corners = refl

spread_none : (l : List ℕ) (e : Float) → T (eq e 0·0) → audible (spread l e) ≡ []
spread_none l e z = audible_none (spread l e) (λ t m. let i = map_in (λ k. term k e) l m in subst (λ (u : Term). T (eq u.coefficient 0·0)) (sym i.2) z)

zero_zero : T (eq 0·0 0·0)
unfolding eq
zero_zero = tt

nothing_terms : (l : List ℕ) → terms l nothing ≡ []
nothing_terms l = ap (λ (ts : List Term). ts ++ corner_terms nothing) (spread_none l 0·0 zero_zero) ∙ nothing_corners

of_none : (Q : Term → Type 0) {ts : List Term} → ts ≡ [] → Each Q ts
of_none Q e t m = absurd (Memᴰ.not-nil (subst (λ (us : List Term). Memᴰ t us) e m))

-- every term of a list of both kinds
terms_each : (Q : Term → Type 0) (sp : ℕ → Vec3) (l : List ℕ) (n : Float) (p : Vec3) (g s : Float) → ((k : ℕ) → Memᴰ k l → Q (term k (extra n g s)))
    → ((c : Corner) → Q (of sp l n p g s c)) → Each Q (terms l (heard sp l n p g s))
terms_each Q sp l n p g s h k t m = elim (Memᴰ.append_cases (audible (spread l (extra n g s))) m) [
  | inl a ↦ let i = map_in (λ k. term k (extra n g s)) l (audible→ (spread l (extra n g s)) a) in subst Q (sym i.2) (h i.0 i.1)
  | inr a ↦ let i = map_in (of sp l n p g s) corners (audible→ (map (of sp l n p g s) corners) (subst (λ (ts : List Term). Memᴰ t ts) (corner_terms_is sp l n p g s) a)) in
      subst Q (sym i.2) (k i.0)
]

-- ---- size 0
no_extra : (n g s : Float) → T (eq s 0·0) → extra n g s ≡ 0·0
unfolding extra ne
no_extra n g s z = go (eq s 0·0) z
  where
    go : (b : Bool) → T b → cond (not b) (mul binary32 g (root (lib.Ieee.div binary32 s n))) 0·0 ≡ 0·0
    go true h = refl
    go false h = absurd h

inner_whole : (g s : Float) → T (eq s 0·0) → inner_gain g s ≡ g
unfolding inner_gain ne
inner_whole g s z = go (eq s 0·0) z
  where
    go : (b : Bool) → T b → cond (not b) (mul binary32 g (sub binary32 1·0 s)) g ≡ g
    go true h = refl
    go false h = absurd h

plain_terms : (sp : ℕ → Vec3) (l : List ℕ) (n : Float) (p : Vec3) (g s : Float) → T (eq s 0·0) → terms l (panned sp l n p g s) ≡ corner_terms (panned sp l n p g s)
plain_terms sp l n p g s z =
    by_gain sp l n p g s (λ r. terms l r ≡ corner_terms r) (λ h. nothing_terms l ∙ sym nothing_corners)
    (ap (λ (ts : List Term). ts ++ corner_terms (heard sp l n p g s)) (spread_none l (extra n g s) (subst (λ (e : Float). T (eq e 0·0)) (sym (no_extra n g s z)) zero_zero)))

-- ---- over a table
corners_differ : T (Differ corners)
unfolding Differ differs
corners_differ = tt

module _ (sp : ℕ → Vec3) (l : List ℕ) (t : Table sp l) (p : Vec3) (q : Position p) where
  module _ (g : Float) (G : Gain8 g) where
    abbrev x : Corner → Float
    x = coefficient sp (corner sp l p) p g

    silent : (c : Corner) → P (weight sp l p g c.top c.front c.right) ≡ 0 → T (eq (x c) 0·0)
    silent c z =
        let r = corner_rooted root_nearest sp l t p q g G c in
        let e : P (weight sp l p g c.top c.front c.right) * One ≡ 0 = ap (λ (k : ℕ). k * One) z ∙ zero-mul One in
        let i : P (x c) ≡ 0 = root_zero (P (x c)) (subst (λ (k : ℕ). Root (P (x c)) k) e r.root) in
        →eq (x c) 0·0 r.f32 zero_f32 (omega (arith, i, r.plus, zero_mag))

    apart_corners : T (apart (audible (map (λ c. term (corner sp l p c) (x c)) corners)))
    apart_corners =
        apart_audible (corner sp l p) x (λ c d n e. elim (once sp l t p q g G c d n e) [ inl z ↦ inl (silent c z) | inr z ↦ inr (silent d z) ]) corners corners_differ

    M : Bool → Bool → Bool → ℕ
    M b c d = mag (x (record { top = b; front = c; right = d }))

    eight_corners : Eight (P g) (λ b. P (part b (up sp (corner sp l p) p))) (λ b c. P (part c (ahead sp (corner sp l p) p b)))
        (λ b c d. P (part d (across sp (corner sp l p) p b c))) M
    unfolding row_weight M
    eight_corners = record {
      layers = (up_part sp l t p q).whole;
      rows = λ b. (ahead_part sp l t p q b).whole;
      sides = λ b c. (across_part sp l t p q b c).whole;
      most = λ b c d. (part_plus d (across sp (corner sp l p) p b c) (across_part sp l t p q b c)).most;
      gain = G.most;
      coefs = λ b c d.
          let w = weights sp l t p q g G b c d in
          let r = corner_rooted root_nearest sp l t p q g G (record { top = b; front = c; right = d }) in
          let k : Corner = record { top = b; front = c; right = d } in
          record {
            p = P (mul binary32 (part c (ahead sp (corner sp l p) p b)) (part b (up sp (corner sp l p) p)));
            q = P (row_weight sp (corner sp l p) p g b c);
            v = P (weight sp l p g b c d);
            p_is = w.first.is;
            q_is = w.second.is;
            v_is = w.third.is;
            root = subst (λ (m : ℕ). Root m (P (weight sp l p g b c d) * One)) (let e = mag_is (x k) in let z = r.plus in omega (arith, e, z)) r.root;
          };
    }

    corner_squares : all_squares (audible (map (λ c. term (corner sp l p c) (x c)) corners)) ≡ eight (λ b c d. M b c d * M b c d)
    unfolding all_squares M
    corner_squares =
        square_audible (map (λ c. term (corner sp l p c) (x c)) corners) (λ u m. let i = map_in (λ c. term (corner sp l p c) (x c)) corners m in
        subst (λ (v : Term). F32 v.coefficient) (sym i.2) (corner_rooted root_nearest sp l t p q g G i.0).f32)
        ∙ omega arith

  corner_named : (n g s : Float) → Each (λ u. Memᴰ u.channel l) (corner_terms (panned sp l n p g s))
  unfolding paired
  corner_named n g s = by_gain sp l n p g s (λ r. Each (λ u. Memᴰ u.channel l) (corner_terms r)) (λ z. of_none (λ u. Memᴰ u.channel l) nothing_corners)
      (λ u m. let i = map_in (of sp l n p g s) corners (audible→ (map (of sp l n p g s) corners) m) in
      subst⁻¹ (λ (v : Term). Memᴰ v.channel l) i.2 (corner_in sp l t p i.0.top i.0.front i.0.right))

  corner_energy : (n g s : Float) → T (between 0·0 8·0 g) → T (eq s 0·0) → AddsUp (all_squares (corner_terms (panned sp l n p g s))) g
  unfolding all_squares paired
  corner_energy n g s h z =
      by_gain sp l n p g s (λ r. AddsUp (all_squares (corner_terms r)) g) none
      (subst⁻¹ (λ (i : Float). AddsUp (all_squares (audible (map (λ c. term (corner sp l p c) (coefficient sp (corner sp l p) p i c)) corners))) g) (inner_whole g s z)
      (subst⁻¹ (λ (m : ℕ). AddsUp m g) (corner_squares g (gain8 g h)) (add_up (eight_corners g (gain8 g h)))))
    where
      none : T (eq g 0·0) → AddsUp (all_squares (corner_terms nothing)) g
      none e =
          let G = gain8 g h in
          let i = eq→ g 0·0 G.f32 zero_f32 e in
          let j : P g ≡ 0 = omega (arith, i, G.plus, zero_mag) in
          let k : P g * One ≡ 0 = ap (λ (m : ℕ). m * One) j ∙ zero-mul One in
          subst⁻¹ (λ (ts : List Term). AddsUp (all_squares ts) g) nothing_corners (record { above = omega arith; below = omega (arith, k) })

  pub pans : (n : Float) → F32 n → T (le 1·0 n) → Pans sp l n p
  unfolding apart paired
  pans n f o = record {
    corners = λ c. corner_in sp l t p c.top c.front c.right;
    up = part_between _ (up_part sp l t p q);
    ahead = λ b. part_between _ (ahead_part sp l t p q b);
    across = λ b c. part_between _ (across_part sp l t p q b c);
    named = λ g s. by_gain sp l n p g s (λ r. Each (λ u. Memᴰ u.channel l) (terms l r)) (λ z. of_none (λ u. Memᴰ u.channel l) (nothing_terms l))
        (terms_each (λ u. Memᴰ u.channel l) sp l n p g s (λ k m. m) (λ c. corner_in sp l t p c.top c.front c.right));
    none = λ g s z. ap (terms l) (no_gain sp l n p g s z) ∙ nothing_terms l;
    bounded = λ g s G S.
        let a = gain8 g G in
        let b = size1 s S in
        by_gain sp l n p g s (λ r. Each (λ u. T (between 0·0 8·0 u.coefficient)) (terms l r)) (λ z. of_none (λ u. T (between 0·0 8·0 u.coefficient)) (nothing_terms l))
        (terms_each (λ u. T (between 0·0 8·0 u.coefficient)) sp l n p g s (λ k m. plus_between _ (extra_plus root_nearest n g s f o a b))
        (λ c. plus_between _ (corner_plus root_nearest sp l t p q (inner_gain g s) (inner_gain8 g s a b) c)));
    once = λ g s G S. apart_once (corner_terms (panned sp l n p g s)) (by_gain sp l n p g s (λ r. T (apart (corner_terms r)))
        (λ z. subst (λ (ts : List Term). T (apart ts)) (sym nothing_corners) tt) (apart_corners (inner_gain g s) (inner_gain8 g s (gain8 g G) (size1 s S))));
    plain = λ g s. plain_terms sp l n p g s;
    energy = λ g s G z.
        subst⁻¹ (λ (ts : List Term). AddsUp (squares l ts) g) (plain_terms sp l n p g s z)
        (subst⁻¹ (λ (m : ℕ). AddsUp m g) (by_channel sp l t.distinct (corner_terms (panned sp l n p g s)) (corner_named n g s)) (corner_energy n g s G z));
  }
