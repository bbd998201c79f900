-- The tables that are accepted: they fit in each layout, the built-in one is one of them, and the code's places are the table's, bit for bit. Assumes nothing.
use mathlib.Core.Path.{◌≡◌, refl, sym, ap, ◌∙◌, subst, fun_ext}
use mathlib.Core.Bool.{Bool, true, not}
use mathlib.Core.List.{List, [], ◌∷◌}
use mathlib.Core.Logic.{inl, inr}
use Prim.Native.Nat.{ℕ, suc, ◌+◌, ◌*◌, ◌^◌, ◌≤◌, ◌<◌}
use native.Mathlib.Omega.{arith}
use lib.Dec.{T, eqb}
use lib.ListN.{length, get_or-eq_default}
use lib.Ieee.{Float, nan, inf, fin, binary32, fits, is_nan, lt, le, eq, of_bits, to_bits}
use lib.Ieee.Bits.{to_bits-of_bits, is_true}
use lib.Ieee.Fits.{and_i, and_l, and_r}
use lib.Ieee.Scale.{finite}
use Rattle.words.specs.Words.{Words}
use Rattle.ieee.specs.Units.{F32}
use Rattle.vectors.specs.declared.Vec3.{Vec3}
use Rattle.corners.specs.Choice.{keep, every_of}
use Rattle.corners.specs.Axes.{place_among}
use Rattle.corners.specs.Table.{Table, between, placed_inside}
use Rattle.panning.specs.Speakers.{positions714, full_range}
use Rattle.panning.specs.Setup.{table_float, table_place, all_channels, all_inside, all_apart, table_right, table_of, table_places, built_in_table, HallFits}
use Rattle.corners.proofs.Lists.{keep→, every→, →every}
use Rattle.corners.proofs.Lined.{channel_in}
use Rattle.corners.proofs.Rising.{less_or_not}
use Rattle.corners.proofs.Tables.{all_tame}
use Rattle.panning.proofs.Setup.{fitting, places_back}

truly : {b : Bool} → b ≡ true → T b
truly e = subst T (sym e) tt

-- ---- an accepted table is one that may be panned over

pub right_parts : (t : List ℕ) → table_right t ≡ true → (all_inside (table_place t) ≡ true) × (all_apart (table_place t) ≡ true)
right_parts t e =
    let a = all_inside (table_place t) in
    let b = all_apart (table_place t) in
    (is_true a (and_l a b (truly e)), is_true b (and_r a b (truly e)))

module _ (sp : ℕ → Vec3) (a : all_inside sp ≡ true) where
  inside : T (every_of (λ k. placed_inside (sp k)) all_channels)
  unfolding all_inside
  inside = truly a

  pub table_among : all_apart sp ≡ true → Table sp full_range
  unfolding all_apart keep
  table_among d =
      let full : ℕ → Bool = λ k. not (eqb 3 k) in
      let f : ℕ → Bool = λ k. placed_inside (sp k) in
      record { some = tt; placed = →every f (keep full all_channels) (λ k m. every→ f all_channels inside k (keep→ full all_channels m).0); distinct = truly d }

  -- each of its coordinates is finite
  placed_f32 : (k : ℕ) → k < 12 → F32 (sp k).x × F32 (sp k).y × F32 (sp k).z
  placed_f32 k h = let v = all_tame sp all_channels inside k (channel_in k h) in (v.x.f32, v.y.f32, v.z.f32)

pub right_fits : {n : ℕ} {t : List ℕ} → n ≤ 3 → table_right t ≡ true → HallFits (record { layout = n; table = t })
right_fits {n} {t} h e = let r = right_parts t e in record { layout = h; table = table_among (table_place t) r.0 r.1 }

pub built_in_right : table_right built_in_table ≡ true
unfolding all_inside all_apart between table_place table_of positions714 of_bits to_bits fits lt le eq
built_in_right = refl

-- ---- the code's places and the table's words

-- a table of three words more has its channels one further on
next_place : (a b c : ℕ) (t : List ℕ) (k : ℕ) → table_place (a ∷ b ∷ c ∷ t) (suc k) ≡ table_place t k
unfolding table_place
next_place a b c t k =
    let e : 3 * suc k ≡ suc (suc (suc (3 * k))) = omega arith in
    let f : 3 * suc k + 1 ≡ suc (suc (suc (3 * k + 1))) = omega arith in
    let g : 3 * suc k + 2 ≡ suc (suc (suc (3 * k + 2))) = omega arith in
    let u = a ∷ b ∷ c ∷ t in
    λ i. record { x = table_float u (e i); y = table_float u (f i); z = table_float u (g i) }

past_end : (t : List ℕ) (i : ℕ) → length t ≤ i → table_float t i ≡ nan
unfolding of_bits
past_end t i h = ap (of_bits binary32) (get_or-eq_default t 0x7fc00000 h)

-- twelve places that are those of a table's channels are its places
pub read_places : (vs : List Vec3) (t : List ℕ) → length vs ≡ 12 → length t ≡ 36 → ((k : ℕ) → k < 12 → place_among vs k ≡ table_place t k) →
    place_among vs ≡ table_place t
unfolding table_place
read_places vs t m n h = fun_ext (λ k. elim (less_or_not k 12) [
  | inl l ↦ h k l
  | inr l ↦
      let x = past_end t (3 * k) (omega (arith, n)) in
      let y = past_end t (3 * k + 1) (omega (arith, n)) in
      let z = past_end t (3 * k + 2) (omega (arith, n)) in
      get_or-eq_default vs (record { x = nan; y = nan; z = nan }) (omega (arith, m)) ∙ sym (λ i. record { x = x i; y = y i; z = z i })
])

number : (x : Float) → T (finite x) → T (not (is_nan x))
unfolding is_nan
number nan f = absurd f
number (inf s) f = absurd f
number (fin s m e) f = tt

-- a word of a finite f32 is that f32's
word_back : (w : ℕ) (x : Float) → x ≡ of_bits binary32 w → F32 x → w < 2 ^ 32 → to_bits binary32 x ≡ w
word_back w x e f h =
    ap (to_bits binary32) e ∙ to_bits-of_bits binary32 w h (subst (λ (y : Float). T (not (is_nan y))) e (number x f.fine))

abbrev Finite3 : Vec3 → Type 0
Finite3 v = F32 v.x × F32 v.y × F32 v.z

fitting_of : (vs : List Vec3) → ((k : ℕ) → k < length vs → Finite3 (place_among vs k)) → T (fitting vs)
fitting_of [] h = tt
fitting_of (v ∷ vs) h =
    let f = h 0 (omega arith) in
    and_i (fits binary32 v.x) _ f.0.fit (and_i (fits binary32 v.y) _ f.1.fit (and_i (fits binary32 v.z) (fitting vs) f.2.fit
    (fitting_of vs (λ k l. h (suc k) (omega arith)))))

table_of_places : (vs : List Vec3) (t : List ℕ) → length t ≡ 3 * length vs → Words t →
    ((k : ℕ) → k < length vs → (place_among vs k ≡ table_place t k) × Finite3 (place_among vs k)) → table_of vs ≡ t
unfolding table_of table_place
table_of_places [] [] n w h = refl
table_of_places [] (a ∷ t) n w h = absurd (omega arith)
table_of_places (v ∷ vs) [] n w h = absurd (omega arith)
table_of_places (v ∷ vs) (a ∷ []) n w h = absurd (omega arith)
table_of_places (v ∷ vs) (a ∷ b ∷ []) n w h = absurd (omega arith)
table_of_places (v ∷ vs) (a ∷ b ∷ c ∷ t) n w h =
    let g = h 0 (omega arith) in
    let x = word_back a v.x (ap (λ (u : Vec3). u.x) g.0) g.1.0 w.0 in
    let y = word_back b v.y (ap (λ (u : Vec3). u.y) g.0) g.1.1 w.1.0 in
    let z = word_back c v.z (ap (λ (u : Vec3). u.z) g.0) g.1.2 w.1.1.0 in
    let r = table_of_places vs t (omega arith) w.1.1.1 (λ k l. let g = h (suc k) (omega arith) in (g.0 ∙ next_place a b c t k, g.1)) in
    λ i. x i ∷ y i ∷ z i ∷ r i

-- the words of an accepted table are those of the places that it holds
pub table_back : (t : List ℕ) → length t ≡ 36 → Words t → table_right t ≡ true → (vs : List Vec3) → length vs ≡ 12 → place_among vs ≡ table_place t → table_of vs ≡ t
table_back t n w e vs m s =
    table_of_places vs t (omega arith) w (λ k l. (
      ap (λ (sp : ℕ → Vec3). sp k) s,
      subst (λ (sp : ℕ → Vec3). Finite3 (sp k)) (sym s) (placed_f32 (table_place t) (right_parts t e).0 k (omega arith)),
    ))

-- and a table of accepted places has them
pub accepted_places : (vs : List Vec3) → length vs ≡ 12 → all_inside (place_among vs) ≡ true → table_places vs ≡ place_among vs
accepted_places vs m a = places_back vs (fitting_of vs (λ k l. placed_f32 (place_among vs) a k (omega arith)))
