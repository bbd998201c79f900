-- Panning in a hall: the facts hold in every hall that fits, each term is on a speaker that is there, and the halls with the built-in table fit. Assumes nothing.
use mathlib.Core.Path.{◌≡◌, refl, sym, ap, ◌∙◌, subst, fun_ext}
use mathlib.Core.Bool.{Bool, true, false, not, ◌&&◌}
use mathlib.Core.List.{List, [], ◌∷◌, Memᴰ}
use Prim.Native.Nat.{ℕ, zero, suc, ◌+◌, ◌*◌, ◌%◌, ◌≤◌, ◌<◌}
use native.Mathlib.Omega.{arith}
use borrow.Author.Tests.{lt-ltb}
use lib.Dec.{T, T_not, eqb, eqb→eq, ltb, ltb→lt}
use lib.IntN.{pos}
use lib.ListN.{length, get_or, set}
use lib.Ieee.{Float, nan, binary32, fits, lt, le, eq, of_bits, of_int}
use lib.Ieee.Bits.{of_bits-to_bits}
use lib.Ieee.Fits.{and_l, and_r}
use Rattle.ieee.specs.Units.{F32}
use Rattle.vectors.specs.declared.Vec3.{Vec3}
use Rattle.corners.specs.Choice.{keep, every_of, corner, 1·0}
use Rattle.panning.specs.Coefficients.{8·0, Each}
use Rattle.corners.specs.Axes.{place_among}
use Rattle.corners.specs.SpeakerOrder.{speakers_of}
use Rattle.corners.specs.Table.{Table, Position, occupied}
use Rattle.panning.specs.Terms.{on_channel}
use Rattle.panning.specs.Speakers.{positions714, hall714, full_range, 12·0}
use Rattle.panning.specs.Setup.{Setup, table_float, table_place, place_in, present, speakers_in, 10·0, 6·0, divisor_in, SpeakerOf, LayoutIs, marks_of, table_of, table_places, hall_with}
use Rattle.panning.specs.Setup.{HallFits, terms_in}
use Rattle.panning.specs.Facts.{Pans}
use Rattle.corners.proofs.Lists.{keep→, every→}
use Rattle.panning.proofs.Facts.{pans}
use Rattle.panning.proofs.Speakers.{hall714_table, fewer}
use Rattle.panning.proofs.Audible.{absent_none, absent_of}

-- ---- the four layouts

by_layout : (Q : ℕ → Type 0) → Q 0 → Q 1 → Q 2 → Q 3 → (n : ℕ) → n ≤ 3 → Q n
by_layout Q a b c d zero h = a
by_layout Q a b c d (suc zero) h = b
by_layout Q a b c d (suc (suc zero)) h = c
by_layout Q a b c d (suc (suc (suc zero))) h = d
by_layout Q a b c d (suc (suc (suc (suc n)))) h = absurd (omega arith)

-- 7.1.4, 5.1.4, 7.1.0 and 5.1.0
pub layouts : LayoutIs 0 full_range 12·0 × LayoutIs 1 (0 ∷ 1 ∷ 2 ∷ 6 ∷ 7 ∷ 8 ∷ 9 ∷ 10 ∷ 11 ∷ []) 10·0
    × LayoutIs 2 (0 ∷ 1 ∷ 2 ∷ 4 ∷ 5 ∷ 6 ∷ 7 ∷ []) 8·0 × LayoutIs 3 (0 ∷ 1 ∷ 2 ∷ 6 ∷ 7 ∷ []) 6·0
unfolding speakers_in divisor_in present keep every_of
layouts = (
  record { speakers = refl; divisor = refl },
  record { speakers = refl; divisor = refl },
  record { speakers = refl; divisor = refl },
  record { speakers = refl; divisor = refl },
)

-- the divisor counts the channels, the bass channel too
abbrev pub channels_in : ℕ → List ℕ
channels_in n = keep (present n) (0 ∷ 1 ∷ 2 ∷ 3 ∷ 4 ∷ 5 ∷ 6 ∷ 7 ∷ 8 ∷ 9 ∷ 10 ∷ 11 ∷ [])

pub divisor_counts : (n : ℕ) → n ≤ 3 → divisor_in n ≡ of_int binary32 (pos (length (channels_in n)))
unfolding divisor_in present keep every_of of_int
divisor_counts n h = by_layout (λ n. divisor_in n ≡ of_int binary32 (pos (length (channels_in n)))) refl refl refl refl n h

-- each has the front left and the bass channel, and the first all twelve
pub front_present : (n : ℕ) → n ≤ 3 → T (present n 0)
unfolding present every_of
front_present n h = by_layout (λ n. T (present n 0)) tt tt tt tt n h

pub bass_present : (n : ℕ) → n ≤ 3 → T (present n 3)
unfolding present every_of
bass_present n h = by_layout (λ n. T (present n 3)) tt tt tt tt n h

pub all_present : (k : ℕ) → k < 12 → present 0 k ≡ true
unfolding present every_of
all_present k h = ap (λ (b : Bool). true && (b && true)) (lt-ltb k 12 h)

no_channel : (n k : ℕ) → 12 ≤ k → present n k ≡ false
unfolding present
no_channel n k h = none (ltb n 4) (ltb k 12) _ (λ t. let l = ltb→lt k 12 t in omega (arith, l))
  where
    none : (a b c : Bool) → (T b → ⊥) → a && (b && c) ≡ false
    none true true c n = absurd (n tt)
    none true false c n = refl
    none false b c n = refl

-- the marks are those of the layout
pub mark_is : (n c : ℕ) → get_or (marks_of n) c false ≡ present n c
unfolding present
mark_is n zero = refl
mark_is n (suc zero) = refl
mark_is n (suc (suc zero)) = refl
mark_is n (suc (suc (suc zero))) = refl
mark_is n (suc (suc (suc (suc zero)))) = refl
mark_is n (suc (suc (suc (suc (suc zero))))) = refl
mark_is n (suc (suc (suc (suc (suc (suc zero)))))) = refl
mark_is n (suc (suc (suc (suc (suc (suc (suc zero))))))) = refl
mark_is n (suc (suc (suc (suc (suc (suc (suc (suc zero)))))))) = refl
mark_is n (suc (suc (suc (suc (suc (suc (suc (suc (suc zero))))))))) = refl
mark_is n (suc (suc (suc (suc (suc (suc (suc (suc (suc (suc zero)))))))))) = refl
mark_is n (suc (suc (suc (suc (suc (suc (suc (suc (suc (suc (suc zero))))))))))) = refl
mark_is n (suc (suc (suc (suc (suc (suc (suc (suc (suc (suc (suc (suc c)))))))))))) =
    sym (no_channel n (suc (suc (suc (suc (suc (suc (suc (suc (suc (suc (suc (suc c)))))))))))) (omega arith))

-- so the code writes them, by whether there are the rear pair and the top
abbrev pub marked : Bool → Bool → List Bool
marked rear top = true ∷ true ∷ true ∷ true ∷ rear ∷ rear ∷ true ∷ true ∷ top ∷ top ∷ top ∷ top ∷ []

pub marks_are : (n : ℕ) → n ≤ 3 → marked (eqb (n % 2) 0) (ltb n 2) ≡ marks_of n
unfolding present every_of
marks_are n h = by_layout (λ n. marked (eqb (n % 2) 0) (ltb n 2) ≡ marks_of n) refl refl refl refl n h

pub divisor_is : (n : ℕ) → n ≤ 3 → get_or (12·0 ∷ 10·0 ∷ 8·0 ∷ 6·0 ∷ []) n nan ≡ divisor_in n
unfolding divisor_in
divisor_is n h = by_layout (λ n. get_or (12·0 ∷ 10·0 ∷ 8·0 ∷ 6·0 ∷ []) n nan ≡ divisor_in n) refl refl refl refl n h

-- ---- the facts on panning

some_speaker : (n : ℕ) → n ≤ 3 → T (occupied (speakers_in n))
unfolding speakers_in present keep every_of
some_speaker n h = by_layout (λ n. T (occupied (speakers_in n))) tt tt tt tt n h

record Divides (d : Float) : Type 0 where
  f32 : F32 d
  one : T (le 1·0 d)

divides : (n : ℕ) → n ≤ 3 → Divides (divisor_in n)
unfolding divisor_in fits lt le eq
divides n h = by_layout (λ n. Divides (divisor_in n)) (record { f32 = record { fine = tt; fit = tt }; one = tt }) (record { f32 = record { fine = tt; fit = tt }; one = tt })
    (record { f32 = record { fine = tt; fit = tt }; one = tt }) (record { f32 = record { fine = tt; fit = tt }; one = tt }) n h

on_speaker : (n : ℕ) {k : ℕ} → Memᴰ k (speakers_in n) → SpeakerOf n k
unfolding speakers_in every_of
on_speaker n {k} m =
    let i = keep→ (present n) full_range m in
    (i.1, λ e. T_not (eqb 3 k) (every→ (λ j. not (eqb 3 j)) full_range tt k i.0) (subst (λ (j : ℕ). T (eqb 3 j)) (sym e) tt))

pub few_there : (n k : ℕ) → Memᴰ k (speakers_in n) → k < 12
unfolding speakers_in every_of
few_there n k m = ltb→lt k 12 (every→ (λ j. ltb j 12) full_range tt k (keep→ (present n) full_range m).0)

differ : (c k : ℕ) → (c ≡ k → ⊥) → T (not (eqb c k))
differ c k h = go (eqb c k) (λ t. h (eqb→eq c k t))
  where
    go : (b : Bool) → (T b → ⊥) → T (not b)
    go true n = n tt
    go false n = tt

-- the speakers of a layout are a part of the table
pub table_in : (sp : ℕ → Vec3) (n : ℕ) → n ≤ 3 → Table sp full_range → Table sp (speakers_in n)
unfolding speakers_in
table_in sp n h t = fewer sp (present n) full_range t (some_speaker n h)

pub pans_at : (sp : ℕ → Vec3) (n : ℕ) → n ≤ 3 → Table sp full_range → (p : Vec3) → Position p → Pans sp (speakers_in n) (divisor_in n) p
pans_at sp n h t p q = let d = divides n h in pans sp (speakers_in n) (table_in sp n h t) p q (divisor_in n) d.f32 d.one

-- what is sorted are the marked channels but the bass
pub full_range_marked : (n : ℕ) → n ≤ 3 → speakers_of (set (marks_of n) 3 false) ≡ speakers_in n
unfolding speakers_of speakers_in present keep every_of
full_range_marked n h = by_layout (λ n. speakers_of (set (marks_of n) 3 false) ≡ speakers_in n) refl refl refl refl n h

module _ (s : Setup) (f : HallFits s) (p : Vec3) (q : Position p) where
  pub pans_in : Pans (place_in s) (speakers_in s.layout) (divisor_in s.layout) p
  pans_in = pans_at (place_in s) s.layout f.layout f.table p q

  -- every term is on a speaker that is there
  pub only_present : (g z : Float) → Each (λ t. SpeakerOf s.layout t.channel) (terms_in s p g z)
  only_present g z t m = on_speaker s.layout (pans_in.named g z t m)

  -- so panning puts nothing into a channel that is none
  pub no_speaker : (c : ℕ) → (SpeakerOf s.layout c → ⊥) → (g z : Float) → on_channel c (terms_in s p g z) ≡ []
  no_speaker c n g z =
      absent_none c (terms_in s p g z)
      (absent_of c (terms_in s p g z) (λ t m. differ c t.channel (λ e. n (subst (SpeakerOf s.layout) (sym e) (only_present g z t m)))))

  pub no_bass : (g z : Float) → on_channel 3 (terms_in s p g z) ≡ []
  no_bass = no_speaker 3 (λ b. b.1 refl)

-- ---- the halls with the built-in table stand as document 01's

abbrev nowhere : Vec3
nowhere = record { x = nan; y = nan; z = nan }

abbrev pub fitting : List Vec3 → Bool
fitting [] = true
fitting (v ∷ vs) = fits binary32 v.x && (fits binary32 v.y && (fits binary32 v.z && fitting vs))

-- a table's places are those that it was made of
place_back : (vs : List Vec3) → T (fitting vs) → (k : ℕ) → table_places vs k ≡ get_or vs k nowhere
unfolding table_place table_of of_bits
place_back [] h k = refl
place_back (v ∷ vs) h k =
    let t = table_of (v ∷ vs) in
    let yz = and_r (fits binary32 v.x) (fits binary32 v.y && (fits binary32 v.z && fitting vs)) h in
    let z = and_r (fits binary32 v.y) (fits binary32 v.z && fitting vs) yz in
    elim k as (λ k. table_places (v ∷ vs) k ≡ get_or (v ∷ vs) k nowhere) [
      | zero ↦ λ i. record {
        x = of_bits-to_bits binary32 v.x (and_l (fits binary32 v.x) _ h) i;
        y = of_bits-to_bits binary32 v.y (and_l (fits binary32 v.y) _ yz) i;
        z = of_bits-to_bits binary32 v.z (and_l (fits binary32 v.z) (fitting vs) z) i;
      }
      | suc j ↦
          let e : 3 * suc j ≡ suc (suc (suc (3 * j))) = omega arith in
          let f : 3 * suc j + 1 ≡ suc (suc (suc (3 * j + 1))) = omega arith in
          let g : 3 * suc j + 2 ≡ suc (suc (suc (3 * j + 2))) = omega arith in
          (λ i. record { x = table_float t (e i); y = table_float t (f i); z = table_float t (g i) }) ∙ place_back vs (and_r (fits binary32 v.z) (fitting vs) z) j
    ]

pub places_back : (vs : List Vec3) → T (fitting vs) → table_places vs ≡ place_among vs
places_back vs h = fun_ext (place_back vs h)

-- the code's table, and where it has each channel
pub code_table : Table (place_among positions714) full_range
unfolding hall714
code_table = hall714_table

pub code_places : table_places positions714 ≡ place_among positions714
unfolding positions714 fits
code_places = places_back positions714 tt

pub built_in_places : (n : ℕ) → place_in (hall_with n) ≡ hall714
unfolding hall714 positions714 fits
built_in_places n = fun_ext (place_back positions714 tt)

pub hall_fits : (n : ℕ) → n ≤ 3 → HallFits (hall_with n)
hall_fits n h = record { layout = h; table = subst (λ (sp : ℕ → Vec3). Table sp full_range) (sym (built_in_places n)) hall714_table }

-- and the corners in that of layout 0 are found among the same speakers
pub corner_714 : {n : ℕ} {places : List Vec3} → n ≡ 0 → places ≡ positions714 → (p : Vec3) → corner hall714 full_range p ≡ corner (place_among places) (speakers_in n) p
unfolding hall714 speakers_in present keep every_of
corner_714 e f p = λ i. corner (place_among (sym f i)) (speakers_in (sym e i)) p
