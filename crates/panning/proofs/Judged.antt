-- `table_fault` goes through a table channel by channel: what is left of each list of channels from one on. Assumes nothing.
use mathlib.Core.Path.{◌≡◌, refl, sym, ap, ◌∙◌}
use mathlib.Core.Bool.{Bool, true, false, not, ◌&&◌}
use mathlib.Core.List.{List, [], ◌∷◌}
use Prim.Native.Nat.{ℕ, zero, suc, ◌+◌, ◌≤◌, ◌<◌}
use native.Mathlib.Omega.{arith}
use lib.Dec.{T, eqb, eqb→eq, leb}
use lib.Ieee.{Float, binary32, fits, le}
use lib.Ieee.Bits.{is_true}
use Rattle.vectors.specs.declared.Vec3.{Vec3}
use Rattle.corners.specs.Choice.{keep, every_of, 1·0}
use Rattle.corners.specs.Table.{minus_one, between, placed_inside, alike, distinct}
use Rattle.panning.specs.Speakers.{full_range}
use Rattle.panning.specs.Setup.{all_channels, all_inside, all_apart}
use Rattle.panning.specs.Fault.{stands_alone}

abbrev pub from : ℕ → List ℕ → List ℕ
from k l = keep (leb k) l

by_channel : (Q : ℕ → Type 0) → Q 0 → Q 1 → Q 2 → Q 3 → Q 4 → Q 5 → Q 6 → Q 7 → Q 8 → Q 9 → Q 10 → Q 11 → (k : ℕ) → k < 12 → Q k
by_channel Q a b c d e f g h i j l m zero n = a
by_channel Q a b c d e f g h i j l m (suc zero) n = b
by_channel Q a b c d e f g h i j l m (suc (suc zero)) n = c
by_channel Q a b c d e f g h i j l m (suc (suc (suc zero))) n = d
by_channel Q a b c d e f g h i j l m (suc (suc (suc (suc zero)))) n = e
by_channel Q a b c d e f g h i j l m (suc (suc (suc (suc (suc zero))))) n = f
by_channel Q a b c d e f g h i j l m (suc (suc (suc (suc (suc (suc zero)))))) n = g
by_channel Q a b c d e f g h i j l m (suc (suc (suc (suc (suc (suc (suc zero))))))) n = h
by_channel Q a b c d e f g h i j l m (suc (suc (suc (suc (suc (suc (suc (suc zero)))))))) n = i
by_channel Q a b c d e f g h i j l m (suc (suc (suc (suc (suc (suc (suc (suc (suc zero))))))))) n = j
by_channel Q a b c d e f g h i j l m (suc (suc (suc (suc (suc (suc (suc (suc (suc (suc zero)))))))))) n = l
by_channel Q a b c d e f g h i j l m (suc (suc (suc (suc (suc (suc (suc (suc (suc (suc (suc zero))))))))))) n = m
by_channel Q a b c d e f g h i j l m (suc (suc (suc (suc (suc (suc (suc (suc (suc (suc (suc (suc k)))))))))))) n = absurd (omega arith)

all_from : (k : ℕ) → k < 12 → from k all_channels ≡ k ∷ from (k + 1) all_channels
unfolding keep
all_from = by_channel (λ k. from k all_channels ≡ k ∷ from (k + 1) all_channels) refl refl refl refl refl refl refl refl refl refl refl refl

full_from : (k : ℕ) → k < 12 → (k ≡ 3 → ⊥) → from k full_range ≡ k ∷ from (k + 1) full_range
unfolding keep
full_from = by_channel (λ k. (k ≡ 3 → ⊥) → from k full_range ≡ k ∷ from (k + 1) full_range)
    (λ n. refl) (λ n. refl) (λ n. refl) (λ n. absurd (n refl)) (λ n. refl) (λ n. refl) (λ n. refl) (λ n. refl) (λ n. refl) (λ n. refl) (λ n. refl) (λ n. refl)

bass_past : (k : ℕ) → k ≡ 3 → from k full_range ≡ from (k + 1) full_range
unfolding keep
bass_past k e = ap (λ (k : ℕ). from k full_range) e ∙ sym (ap (λ (k : ℕ). from (k + 1) full_range) e)

none_past : (l : List ℕ) → from 12 l ≡ [] → (k : ℕ) → 12 ≤ k → k ≤ 12 → from k l ≡ []
none_past l n k g h = let e : k ≡ 12 = omega arith in ap (λ (k : ℕ). from k l) e ∙ n

pub between_is : (x : Float) → T (fits binary32 x) → (le minus_one x && le x 1·0) ≡ between minus_one 1·0 x
unfolding between
between_is x f = ap (λ (b : Bool). b && (le minus_one x && le x 1·0)) (sym (is_true (fits binary32 x) f))

module _ (sp : ℕ → Vec3) where
  -- ---- every channel inside
  abbrev pub InsideFrom : ℕ → Type 0
  InsideFrom k = all_inside sp ≡ every_of (λ k. placed_inside (sp k)) (from k all_channels)

  inside_next : (k : ℕ) → k < 12 → InsideFrom k → all_inside sp ≡ placed_inside (sp k) && every_of (λ k. placed_inside (sp k)) (from (k + 1) all_channels)
  unfolding every_of
  inside_next k h e = e ∙ ap (every_of (λ k. placed_inside (sp k))) (all_from k h)

  pub inside_start : InsideFrom 0
  unfolding all_inside every_of keep
  inside_start = refl

  pub not_inside : (k : ℕ) → k < 12 → InsideFrom k → placed_inside (sp k) ≡ false → false ≡ all_inside sp
  not_inside k h e n = sym (inside_next k h e ∙ ap (λ (b : Bool). b && every_of (λ k. placed_inside (sp k)) (from (k + 1) all_channels)) n)

  pub inside_on : (k : ℕ) → k < 12 → InsideFrom k → placed_inside (sp k) ≡ true → InsideFrom (k + 1)
  inside_on k h e y = inside_next k h e ∙ ap (λ (b : Bool). b && every_of (λ k. placed_inside (sp k)) (from (k + 1) all_channels)) y

  pub inside_end : (k : ℕ) → 12 ≤ k → k ≤ 12 → InsideFrom k → true ≡ all_inside sp
  unfolding every_of keep
  inside_end k g h e = sym (e ∙ ap (every_of (λ k. placed_inside (sp k))) (none_past all_channels refl k g h))

  -- ---- channel k apart from those after it
  module _ (k : ℕ) where
    abbrev far : ℕ → Bool
    far j = not (eqb k j) && not (alike (sp k) (sp j))

    abbrev pub AloneFrom : ℕ → Type 0
    AloneFrom j = stands_alone sp k ≡ every_of far (from j full_range)

    far_is : (j : ℕ) → k + 1 ≤ j → far j ≡ not (alike (sp k) (sp j))
    far_is j h = ap (λ (b : Bool). not b && not (alike (sp k) (sp j))) (not_equal (eqb k j) (λ t. let e = eqb→eq k j t in omega (arith, e)))
      where
        not_equal : (b : Bool) → (T b → ⊥) → b ≡ false
        not_equal true n = absurd (n tt)
        not_equal false n = refl

    alone_next : (j : ℕ) → k + 1 ≤ j → j < 12 → (j ≡ 3 → ⊥) → AloneFrom j → stands_alone sp k ≡ not (alike (sp k) (sp j)) && every_of far (from (j + 1) full_range)
    unfolding every_of
    alone_next j h l n e = e ∙ ap (every_of far) (full_from j l n) ∙ ap (λ (b : Bool). b && every_of far (from (j + 1) full_range)) (far_is j h)

    pub alone_start : AloneFrom (k + 1)
    unfolding stands_alone
    alone_start = refl

    pub not_alone : (j : ℕ) → k + 1 ≤ j → j < 12 → (j ≡ 3 → ⊥) → AloneFrom j → alike (sp k) (sp j) ≡ true → false ≡ stands_alone sp k
    not_alone j h l n e y = sym (alone_next j h l n e ∙ ap (λ (b : Bool). not b && every_of far (from (j + 1) full_range)) y)

    pub alone_on : (j : ℕ) → k + 1 ≤ j → j < 12 → (j ≡ 3 → ⊥) → AloneFrom j → alike (sp k) (sp j) ≡ false → AloneFrom (j + 1)
    alone_on j h l n e y = alone_next j h l n e ∙ ap (λ (b : Bool). not b && every_of far (from (j + 1) full_range)) y

    pub alone_bass : (j : ℕ) → j ≡ 3 → AloneFrom j → AloneFrom (j + 1)
    alone_bass j h e = e ∙ ap (every_of far) (bass_past j h)

    pub alone_end : (j : ℕ) → 12 ≤ j → j ≤ 12 → AloneFrom j → true ≡ stands_alone sp k
    unfolding every_of keep
    alone_end j g h e = sym (e ∙ ap (every_of far) (none_past full_range refl j g h))

  -- ---- every full-range channel apart from those after it
  abbrev pub ApartFrom : ℕ → Type 0
  ApartFrom k = all_apart sp ≡ distinct sp (from k full_range)

  apart_next : (k : ℕ) → k < 12 → (k ≡ 3 → ⊥) → ApartFrom k → all_apart sp ≡ stands_alone sp k && distinct sp (from (k + 1) full_range)
  unfolding distinct stands_alone
  apart_next k h n e = e ∙ ap (distinct sp) (full_from k h n)

  pub apart_start : ApartFrom 0
  unfolding all_apart distinct keep
  apart_start = refl

  pub not_apart : (k : ℕ) → k < 12 → (k ≡ 3 → ⊥) → ApartFrom k → stands_alone sp k ≡ false → false ≡ all_apart sp
  not_apart k h n e y = sym (apart_next k h n e ∙ ap (λ (b : Bool). b && distinct sp (from (k + 1) full_range)) y)

  pub apart_on : (k : ℕ) → k < 12 → (k ≡ 3 → ⊥) → ApartFrom k → stands_alone sp k ≡ true → ApartFrom (k + 1)
  apart_on k h n e y = apart_next k h n e ∙ ap (λ (b : Bool). b && distinct sp (from (k + 1) full_range)) y

  pub apart_bass : (k : ℕ) → k ≡ 3 → ApartFrom k → ApartFrom (k + 1)
  apart_bass k h e = e ∙ ap (distinct sp) (bass_past k h)

  pub apart_end : (k : ℕ) → 12 ≤ k → k ≤ 12 → ApartFrom k → true ≡ all_apart sp
  unfolding distinct keep
  apart_end k g h e = sym (e ∙ ap (distinct sp) (none_past full_range refl k g h))
