-- The set of the speakers that sound, as a number, is the sum of the bits of the terms: each term is on one of the twelve channels, and no channel has two. Assumes nothing.
use mathlib.Core.Path.{◌≡◌, refl, sym, ap, ◌∙◌, subst}
use mathlib.Core.Bool.{Bool, true, false, cond}
use mathlib.Core.List.{List, [], ◌∷◌, Memᴰ}
use Prim.Native.Nat.{ℕ, zero, suc, ◌+◌, ◌*◌, ◌^◌, ◌≤◌, ◌<◌}
use native.Mathlib.Nat.{add-mul}
use native.Mathlib.Omega.{arith}
use lib.Dec.{eqb}
use lib.ListN.{length}
use lib.Ieee.{Float, fits, le, eq}
use Rattle.vectors.specs.declared.Vec3.{Vec3}
use Rattle.corners.specs.Choice.{0·0, 1·0}
use Rattle.corners.specs.Table.{Position, between}
use Rattle.panning.specs.Terms.{Term, on_channel}
use Rattle.panning.specs.Setup.{Setup, HallFits, terms_in, pan_in}
use Rattle.panning.specs.Sounding.{terms_bits}
use Rattle.panning.proofs.Theorems.{pans_in}
use Rattle.panning.proofs.Setup.{few_there}
use Rattle.finding.specs.Search.{has_one, mask_from, mask_at}

-- ---- numbers f c of the n channels from c on, each times its channel's bit
counted : (ℕ → ℕ) → ℕ → ℕ → ℕ → ℕ
counted f zero c bit = 0
counted f (suc n) c bit = f c * bit + counted f n (suc c) (2 * bit)

counted_alike : {f g : ℕ → ℕ} → ((c : ℕ) → f c ≡ g c) → (n c bit : ℕ) → counted f n c bit ≡ counted g n c bit
unfolding counted
counted_alike e zero c bit = refl
counted_alike {f} {g} e (suc n) c bit =
    ap (λ (k : ℕ). k * bit + counted f n (suc c) (2 * bit)) (e c) ∙ ap (λ (k : ℕ). g c * bit + k) (counted_alike e n (suc c) (2 * bit))

counted_sum : (f g : ℕ → ℕ) (n c bit : ℕ) → counted (λ k. f k + g k) n c bit ≡ counted f n c bit + counted g n c bit
unfolding counted
counted_sum f g zero c bit = omega arith
counted_sum f g (suc n) c bit =
    let a = add-mul (f c) (g c) bit in
    let b = counted_sum f g n (suc c) (2 * bit) in
    omega (arith, a, b)

counted_none : (n c bit : ℕ) → counted (λ k. 0) n c bit ≡ 0
unfolding counted
counted_none zero c bit = refl
counted_none (suc n) c bit = let e = counted_none n (suc c) (2 * bit) in omega (arith, e)

-- one channel alone
abbrev only : ℕ → ℕ → ℕ
only k c = cond (eqb c k) 1 0

counted_only : (k : ℕ) → k < 12 → counted (only k) 12 0 1 ≡ 2 ^ k
unfolding counted
counted_only zero h = refl
counted_only (suc zero) h = refl
counted_only (suc (suc zero)) h = refl
counted_only (suc (suc (suc zero))) h = refl
counted_only (suc (suc (suc (suc zero)))) h = refl
counted_only (suc (suc (suc (suc (suc zero))))) h = refl
counted_only (suc (suc (suc (suc (suc (suc zero)))))) h = refl
counted_only (suc (suc (suc (suc (suc (suc (suc zero))))))) h = refl
counted_only (suc (suc (suc (suc (suc (suc (suc (suc zero)))))))) h = refl
counted_only (suc (suc (suc (suc (suc (suc (suc (suc (suc zero))))))))) h = refl
counted_only (suc (suc (suc (suc (suc (suc (suc (suc (suc (suc zero)))))))))) h = refl
counted_only (suc (suc (suc (suc (suc (suc (suc (suc (suc (suc (suc zero))))))))))) h = refl
counted_only (suc (suc (suc (suc (suc (suc (suc (suc (suc (suc (suc (suc k)))))))))))) h = absurd (omega (arith, h))

-- ---- how many terms each channel has
abbrev many : List Term → ℕ → ℕ
many ts c = length (on_channel c ts)

many_next : (t : Term) (ts : List Term) (c : ℕ) → many (t ∷ ts) c ≡ only t.channel c + many ts c
unfolding on_channel
many_next t ts c = go (eqb c t.channel)
  where
    go : (b : Bool) → length (cond b (t.coefficient ∷ on_channel c ts) (on_channel c ts)) ≡ cond b 1 0 + length (on_channel c ts)
    go true = omega arith
    go false = omega arith

bits_counted : (ts : List Term) → ((t : Term) → Memᴰ t ts → t.channel < 12) → terms_bits ts ≡ counted (many ts) 12 0 1
unfolding terms_bits on_channel
bits_counted [] h = sym (counted_none 12 0 1)
bits_counted (t ∷ ts) h =
    ap (λ (n : ℕ). 2 ^ t.channel + n) (bits_counted ts (λ u m. h u (Memᴰ.tail m)))
    ∙ ap (λ (n : ℕ). n + counted (many ts) 12 0 1) (sym (counted_only t.channel (h t (Memᴰ.head refl))))
    ∙ sym (counted_sum (only t.channel) (many ts) 12 0 1) ∙ sym (counted_alike (many_next t ts) 12 0 1)

-- ---- where no channel has two, and none of the twelve is left out
masked : (l : ℕ → List Float) → ((c : ℕ) → length (l c) ≤ 1) → (n c bit : ℕ) → mask_from (λ k. has_one (l k)) n c bit ≡ counted (λ k. length (l k)) n c bit
unfolding mask_from counted
masked l h zero c bit = refl
masked l h (suc n) c bit = joined (one (l c) (h c)) (masked l h n (suc c) (2 * bit))
  where
    one : (m : List Float) → length m ≤ 1 → cond (has_one m) bit 0 ≡ length m * bit
    one [] i = omega arith
    one (x ∷ []) i = omega arith
    one (x ∷ y ∷ m) i = absurd (long (length m) i)
      where
        long : (n : ℕ) → suc (suc n) ≤ 1 → ⊥
        long n i = omega arith

    joined : {x y u v : ℕ} → x ≡ y → u ≡ v → x + u ≡ y + v
    joined a b = omega (arith, a, b)

module _ (h : Setup) (f : HallFits h) (p : Vec3) (q : Position p) where
  -- no channel has two coefficients
  pub once : (c : ℕ) → length (pan_in h p 1·0 0·0 c) ≤ 1
  unfolding between fits le eq
  once c = subst (λ (ts : List Term). length (on_channel c ts) ≤ 1) (sym ((pans_in h f p q).plain 1·0 0·0 tt)) ((pans_in h f p q).once 1·0 0·0 tt tt c)

  pub mask_is : terms_bits (terms_in h p 1·0 0·0) ≡ mask_at h p
  unfolding mask_at
  mask_is =
      bits_counted (terms_in h p 1·0 0·0) (λ t m. few_there h.layout t.channel ((pans_in h f p q).named 1·0 0·0 t m))
      ∙ sym (masked (pan_in h p 1·0 0·0) once 12 0 1)
