-- The set of the speakers that sound at a place: it is not empty, and has full-range speakers of the layout alone. So some masks are never found. Assumes nothing.
use mathlib.Core.Path.{◌≡◌, refl, sym, ap, ◌∙◌, subst}
use mathlib.Core.Bool.{Bool, true, false, cond}
use mathlib.Core.List.{List, [], ◌∷◌}
use mathlib.Core.List.Memᴰ
use Prim.Native.Nat.{ℕ, ◌+◌, ◌*◌, ◌^◌, ◌≤◌, ◌<◌}
use native.Mathlib.Nat.{not-le_of_lt}
use native.Mathlib.Omega.{arith}
use lib.Dec.{T, lit<, eqb, eqb→eq}
use lib.Ieee.{binary32, fits, le, eq}
use lib.Ieee.Fits.{div-fits}
use lib.Pow.{pow_pos}
use Rattle.std.specs.Prelude.{None}
use Rattle.vectors.specs.declared.Vec3.{Vec3}
use Rattle.ieee.specs.Units.{One, mag, P}
use Rattle.corners.specs.Choice.{0·0, 1·0}
use Rattle.corners.specs.Table.{Position, between}
use Rattle.panning.specs.Coefficients.{Each, square_sum, squares, AddsUp}
use Rattle.panning.specs.Terms.{Term, on_channel}
use Rattle.panning.specs.Setup.{Setup, HallFits, SpeakerOf, speakers_in, terms_in}
use Rattle.panning.specs.Sounding.{terms_bits}
use Rattle.panning.proofs.Theorems.{pans_in, only_present}
use Rattle.finding.specs.Grid.{Spot, spot_place, across_at, up_at}
use Rattle.finding.specs.Search.{has_one, channel_sounds, mask_at, search}
use Rattle.finding.specs.Found.{mask_bit, SetAt, NeverFound}
use Rattle.finding.proofs.Masks.{mask_is}
use Rattle.finding.proofs.Bits.{less, bit_is}
use Rattle.finding.proofs.Grids.{searched}

-- ---- a set that is empty has no term, and without terms nothing adds up to 1
no_terms : (ts : List Term) → terms_bits ts ≡ 0 → ts ≡ []
unfolding terms_bits
no_terms [] e = refl
no_terms (t ∷ ts) e = absurd (some (2 ^ t.channel) (terms_bits ts) (pow_pos t.channel) e)
  where
    some : (a b : ℕ) → 0 < a → a + b ≡ 0 → ⊥
    some a b p e = omega (arith, p, e)

no_squares : (l : List ℕ) → squares l [] ≡ 0
unfolding squares square_sum on_channel
no_squares [] = refl
no_squares (k ∷ l) = let e = no_squares l in omega (arith, e)

not_nothing : AddsUp 0 1·0 → ⊥
unfolding One mag
not_nothing h = absurd (far h.below)
  where
    far : 1048576 * (P 1·0 * One) ≤ 1048576 * 0 + (P 1·0 * One + 1048576 * (512 * One)) → ⊥
    far i = not-le_of_lt (lit< tt) i

-- what holds of the terms' channels holds of a channel that has a term
on_some : (Q : ℕ → Type 0) (c : ℕ) (ts : List Term) → Each (λ t. Q t.channel) ts → T (has_one (on_channel c ts)) → Q c
unfolding on_channel
on_some Q c [] r h = absurd h
on_some Q c (t ∷ ts) r h = go (eqb c t.channel) (eqb→eq c t.channel) h (on_some Q c ts (λ u m. r u (Memᴰ.tail m)))
  where
    go : (b : Bool) → (T b → c ≡ t.channel) → T (has_one (cond b (t.coefficient ∷ on_channel c ts) (on_channel c ts))) → (T (has_one (on_channel c ts)) → Q c) → Q c
    go true e h s = subst Q (sym (e tt)) (r t (Memᴰ.head refl))
    go false e h s = s h

module _ (h : Setup) (f : HallFits h) (p : Vec3) (q : Position p) where
  pub set_at : SetAt h p
  unfolding mask_at between fits le eq
  set_at = record {
    bits = λ c i. bit_is (channel_sounds h p) 12 0 c i ∙ ap (λ (k : ℕ). cond (channel_sounds h p k) 1 0) (let e : 0 + c ≡ c = omega arith in e);
    less = less (channel_sounds h p) 12 0;
    some = λ e. not_nothing (subst (λ (n : ℕ). AddsUp n 1·0) (no_squares (speakers_in h.layout))
        (subst (λ (ts : List Term). AddsUp (squares (speakers_in h.layout) ts) 1·0) (no_terms (terms_in h p 1·0 0·0) (mask_is h f p q ∙ e))
        ((pans_in h f p q).energy 1·0 0·0 tt tt)));
    speakers = λ c t. on_some (SpeakerOf h.layout) c (terms_in h p 1·0 0·0) (only_present h f p q 1·0 0·0) t;
  }

-- ---- the places of the grid are of f32 values
pub position : (t : Spot) → Position (spot_place t)
unfolding across_at up_at
position t = record { x = div-fits binary32 _ _; y = div-fits binary32 _ _; z = div-fits binary32 _ _ }

module _ (h : Setup) (f : HallFits h) where
  never : (mask : ℕ) → ((t : Spot) → mask_at h (spot_place t) ≡ mask → ⊥) → search h mask ≡ None
  never mask n = (searched h mask).nowhere (λ t g e. n t e)

  pub never_found : NeverFound h
  never_found = record {
    empty = never 0 (λ t e. (set_at h f (spot_place t) (position t)).some e);
    bass = λ mask b. never mask (λ t e. no 3 (lit< tt) (spot_place t) (position t) (λ s. s.1 refl) (ap (mask_bit 3) e ∙ b));
    absent = λ mask c i b n. never mask (λ t e. no c i (spot_place t) (position t) (λ s. n s.0) (ap (mask_bit c) e ∙ b));
    large = λ mask i. never mask (λ t e. let l = (set_at h f (spot_place t) (position t)).less in omega (arith, i, e, l));
  }
    where
      no : (c : ℕ) → c < 12 → (p : Vec3) (q : Position p) → (SpeakerOf h.layout c → ⊥) → mask_bit c (mask_at h p) ≡ 1 → ⊥
      no c i p q n b = go (channel_sounds h p c) (λ t. n (s.speakers c t)) (sym (s.bits c i) ∙ b)
        where
          s : SetAt h p
          s = set_at h f p q

          go : (b : Bool) → (T b → ⊥) → ◌≡◌ {A = ℕ} (cond b 1 0) 1 → ⊥
          go true m e = m tt
          go false m e = omega (arith, e)
