-- The terms taken suffice at every rate that is accepted. Assumes nothing.
use mathlib.Core.Path.{◌≡◌, refl, sym, subst}
use mathlib.Core.Bool.{Bool, true, false, not, cond}
use Prim.Native.Nat.{ℕ, zero, suc, ◌+◌, ◌*◌, ◌^◌, ◌≤◌, ◌<◌}
use native.Mathlib.Nat.{pow-suc}
use native.Mathlib.Omega.{arith}
use lib.Dec.{T, leb, ltb, leb→le, nleb→lt}
use lib.Ieee.Fits.{and_l, and_r}
use Rattle.rates.specs.Rates.{Listed}
use Rattle.rates.specs.Suffice.{suffice}
use Rattle.rates.proofs.FewerSteps.{quick, quick_from, quick_is}
use Rattle.rates.proofs.TestInParts.{by_32_a, by_32_b, by_16_a, by_16_b, by_16_c, by_8_a, by_8_b, by_8_c, by_4_a, by_4_b, by_4_c, by_2_a, by_2_b, by_2_c}

-- a test and what it says of the numbers
either : {P : Type 0} (m n : ℕ) → (m ≤ n → P) → (n < m → P) → P
either {P} m n low high = go (leb m n) (leb→le m n) (nleb→lt m n)
  where
    go : (b : Bool) → (T b → m ≤ n) → (T (not b) → n < m) → P
    go true y z = low (y tt)
    go false y z = high (z tt)

within : (k s m r : ℕ) → T (quick_from k s m) → m ≤ r → r < m + 2 ^ k → T (quick s r)
unfolding quick_from
within zero s m r t l h = let e : m ≡ r = omega arith in subst (λ (x : ℕ). T (quick s x)) e t
within (suc k) s m r t l h =
    either (m + 2 ^ k) r
    (λ a. within k s (m + 2 ^ k) r (and_r (quick_from k s m) (quick_from k s (m + 2 ^ k)) t) a (upper (2 ^ k) (subst (λ (n : ℕ). r < m + n) (pow-suc 2 k) h)))
    (λ a. within k s m r (and_l (quick_from k s m) (quick_from k s (m + 2 ^ k)) t) l a)
  where
    upper : (p : ℕ) → r < m + p * 2 → r < m + p + p
    upper p h = omega arith

-- a part, and what another way has from its end on
part : (k s m n r : ℕ) → m + 2 ^ k ≡ n → T (quick_from k s m) → m ≤ r → (n ≤ r → T (quick s r)) → T (quick s r)
part k s m n r e t l more = either n r more (λ a. within k s m r t l (subst (λ (x : ℕ). r < x) (sym e) a))

-- the last part: rates below n
last : (k s m n r : ℕ) → m + 2 ^ k ≡ n → T (quick_from k s m) → m ≤ r → r < n → T (quick s r)
last k s m n r e t l h = within k s m r t l (subst (λ (x : ℕ). r < x) (sym e) h)

module _ (r : ℕ) (l : Listed r) where
  by_32 : r < 12064 → T (quick 32 r)
  by_32 h = part 11 32 8000 10048 r refl by_32_a l.low (λ a. last 11 32 10016 12064 r refl by_32_b (omega arith) h)

  by_16 : 12064 ≤ r → r < 24128 → T (quick 16 r)
  by_16 a h = part 12 16 12064 16160 r refl by_16_a a (λ b. part 12 16 16160 20256 r refl by_16_b b (λ c. last 12 16 20032 24128 r refl by_16_c (omega arith) h))

  by_8 : 24128 ≤ r → r < 48255 → T (quick 8 r)
  by_8 a h = part 13 8 24128 32320 r refl by_8_a a (λ b. part 13 8 32320 40512 r refl by_8_b b (λ c. last 13 8 40063 48255 r refl by_8_c (omega arith) h))

  by_4 : 48255 ≤ r → r < 96510 → T (quick 4 r)
  by_4 a h = part 14 4 48255 64639 r refl by_4_a a (λ b. part 14 4 64639 81023 r refl by_4_b b (λ c. last 14 4 80126 96510 r refl by_4_c (omega arith) h))

  by_2 : 96510 ≤ r → T (quick 2 r)
  by_2 a =
      part 15 2 96510 129278 r refl by_2_a a
      (λ b. part 15 2 129278 162046 r refl by_2_b b (λ c. last 15 2 159233 192001 r refl by_2_c (omega arith) (let m = l.high in omega arith)))

  -- by the tests of `step_of`
  by_step : (a b c d : Bool) → (T a → r < 24128) → (T (not a) → 24128 < suc r) → (T b → r < 12064) → (T (not b) → 12064 < suc r) → (T c → r < 48255)
      → (T (not c) → 48255 < suc r) → (T d → r < 96510) → (T (not d) → 96510 < suc r) → T (quick (cond a (cond b 32 16) (cond c 8 (cond d 4 2))) r)
  by_step true true c d a₁ a₀ b₁ b₀ c₁ c₀ d₁ d₀ = by_32 (b₁ tt)
  by_step true false c d a₁ a₀ b₁ b₀ c₁ c₀ d₁ d₀ = by_16 (let h = b₀ tt in omega arith) (a₁ tt)
  by_step false b true d a₁ a₀ b₁ b₀ c₁ c₀ d₁ d₀ = by_8 (let h = a₀ tt in omega arith) (c₁ tt)
  by_step false b false true a₁ a₀ b₁ b₀ c₁ c₀ d₁ d₀ = by_4 (let h = c₀ tt in omega arith) (d₁ tt)
  by_step false b false false a₁ a₀ b₁ b₀ c₁ c₀ d₁ d₀ = by_2 (let h = d₀ tt in omega arith)

pub every_rate : (rate : ℕ) → Listed rate → T (suffice rate)
every_rate rate l =
    subst T (quick_is rate)
    (by_step rate l (ltb rate 24128) (ltb rate 12064) (ltb rate 48255) (ltb rate 96510) (leb→le (suc rate) 24128) (nleb→lt (suc rate) 24128) (leb→le (suc rate) 12064)
    (nleb→lt (suc rate) 12064) (leb→le (suc rate) 48255) (nleb→lt (suc rate) 48255) (leb→le (suc rate) 96510) (nleb→lt (suc rate) 96510))
