-- The test as it is worked out, in half the steps: a term by one division, and the last digit's steps s given. Assumes nothing.
use Prim.Native.Nat.{ℕ, zero, suc, ◌+◌, ◌*◌, ◌/◌, ◌^◌}
use native.Mathlib.Nat.{div-div-eq-div-mul}
use mathlib.Core.Path.{◌≡◌, refl, sym, ap, ◌∙◌}
use mathlib.Core.Bool.{Bool, ◌&&◌}
use lib.Ieee.Nearest.{closest}
use Rattle.rates.specs.Series.{step_of, next_term}
use Rattle.rates.specs.Suffice.{sums_alike, round_alike, suffice}

-- m is 2 ^ 64 × n
abbrev term_by : (y t m : ℕ) → ℕ
term_by y t m = y * t / m

abbrev alike_by : (y t m₁ m₂ m₃ m₄ g : ℕ) → Bool
alike_by y t m₁ m₂ m₃ m₄ g =
    let t₁ = term_by y t m₁ in
    let t₂ = term_by y t₁ m₂ in
    let t₃ = term_by y t₂ m₃ in
    sums_alike t t₁ t₂ t₃ (term_by y t₃ m₄) g

-- the numbers are 2 ^ 64 × n, 2 ^ 60, 2 ^ 35, 2 ^ 28, 2 ^ 26 and 12,353,245 × 2 ^ 18
unfoldable pub quick : (s rate : ℕ) → Bool
quick s rate =
    let w = closest 3238329057280 (rate * s) * s in
    let y = w * w in
    alike_by y 1152921504606846976 36893488147419103232 221360928884514619392 553402322211286548480 1033017668127734890496 34359738368
    && alike_by y (w * 268435456) 110680464442257309696 368934881474191032320 774763251095801167872 1328165573307087716352 (s * 67108864)

-- at the 2 ^ k rates from one on
unfoldable pub quick_from : (k s rate : ℕ) → Bool
unfolding quick
quick_from zero s rate = quick s rate
quick_from (suc k) s rate = quick_from k s rate && quick_from k s (rate + 2 ^ k)

-- ---- that it is the test

term_is : (y n : ℕ) {t u : ℕ} → t ≡ u → term_by y t (2 ^ 64 * n) ≡ next_term y u n
term_is y n {t} {u} e = sym (div-div-eq-div-mul (y * t) (2 ^ 64) n) ∙ ap (λ (x : ℕ). next_term y x n) e

alike_is : (y t n₁ n₂ n₃ n₄ g : ℕ) → alike_by y t (2 ^ 64 * n₁) (2 ^ 64 * n₂) (2 ^ 64 * n₃) (2 ^ 64 * n₄) g ≡ round_alike y t n₁ n₂ n₃ n₄ g
alike_is y t n₁ n₂ n₃ n₄ g =
    let a = term_by y t (2 ^ 64 * n₁) in
    let b = term_by y a (2 ^ 64 * n₂) in
    let c = term_by y b (2 ^ 64 * n₃) in
    let d = term_by y c (2 ^ 64 * n₄) in
    let t₁ = next_term y t n₁ in
    let t₂ = next_term y t₁ n₂ in
    let t₃ = next_term y t₂ n₃ in
    let e₁ : a ≡ t₁ = term_is y n₁ refl in
    let e₂ : b ≡ t₂ = term_is y n₂ e₁ in
    let e₃ : c ≡ t₃ = term_is y n₃ e₂ in
    let e₄ : d ≡ next_term y t₃ n₄ = term_is y n₄ e₃ in
    ap (λ (x : ℕ). sums_alike t x b c d g) e₁
    ∙ ap (λ (x : ℕ). sums_alike t t₁ x c d g) e₂
    ∙ ap (λ (x : ℕ). sums_alike t t₁ t₂ x d g) e₃
    ∙ ap (λ (x : ℕ). sums_alike t t₁ t₂ t₃ x g) e₄

pub quick_is : (rate : ℕ) → quick (step_of rate) rate ≡ suffice rate
unfolding quick
quick_is rate =
    let s = step_of rate in
    let w = closest (12353245 * 2 ^ 18) (rate * s) * s in
    let y = w * w in
    ap (λ (x : Bool). x && alike_by y (w * 2 ^ 28) (2 ^ 64 * 6) (2 ^ 64 * 20) (2 ^ 64 * 42) (2 ^ 64 * 72) (s * 2 ^ 26)) (alike_is y (2 ^ 60) 2 12 30 56 (2 ^ 35))
    ∙ ap (λ (x : Bool). round_alike y (2 ^ 60) 2 12 30 56 (2 ^ 35) && x) (alike_is y (w * 2 ^ 28) 6 20 42 72 (s * 2 ^ 26))
