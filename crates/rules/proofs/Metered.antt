-- No sample given out is larger than its block's meters say: of one block, and of blocks behind each other. Assumes nothing.
use mathlib.Core.Path.{◌≡◌, sym, ap, ◌∙◌, subst}
use mathlib.Core.Logic.{◌⊎◌, inl, inr}
use mathlib.Core.List.{List, ◌++◌}
use Prim.Native.Nat.{ℕ, ◌+◌, ◌-◌, ◌*◌, ◌/◌, ◌≤◌, ◌<◌}
use native.Mathlib.Omega.{arith}
use lib.ListN.{length, get_or, length-append, get_or-append}
use lib.Seq.{get_or-append-add}
use lib.Ieee.{Float}
use Rattle.ieee.specs.Bounds.{All}
use Rattle.ieee.proofs.Grid.{le_or_lt}
use Rattle.limiter.specs.Meters.{block_meters, idle_meters}
use Rattle.limiter.specs.Range.{Metered}
use Rattle.limiter.specs.declared.meters.Meters.{Meters}
use Rattle.rules.specs.Parts.{0·0, Channels, twelve, joined}
use Rattle.rules.specs.Samples.{limited, metered}
use Rattle.rules.specs.Sounds.{AllMetered}
use Rattle.rules.proofs.EachOf.{all_at}

-- a block of at most 64 samples a channel
pub one_metered : (g : Float) (f : Channels) → ((c : ℕ) → c < 12 → length (limited g f c) ≤ 64)
    → ((c : ℕ) → c < 12 → All (Metered (block_meters g (twelve f))) (limited g f c)) → AllMetered (metered g f) (limited g f)
one_metered g f few h c i l k =
    let m = few c l in
    let e : 0 ≡ i / 64 = omega arith in
    subst (λ (n : ℕ). Metered (get_or (metered g f) n idle_meters) (get_or (limited g f c) i 0·0)) e (all_at (Metered (block_meters g (twelve f))) (limited g f c) i 0·0 k (h c l))

metered_behind : (ms ns : List Meters) (f g : Channels) (c : ℕ) → length (f c) ≡ 64 * length ms
    → ((i : ℕ) → c < 12 → i < length (f c) → Metered (get_or ms (i / 64) idle_meters) (get_or (f c) i 0·0))
    → ((i : ℕ) → c < 12 → i < length (g c) → Metered (get_or ns (i / 64) idle_meters) (get_or (g c) i 0·0))
    → (i : ℕ) → c < 12 → i < length (f c ++ g c) → Metered (get_or (ms ++ ns) (i / 64) idle_meters) (get_or (f c ++ g c) i 0·0)
metered_behind ms ns f g c e h k i l b = elim (le_or_lt (length (f c)) i) [
  | inl m ↦
      let w = length-append (f c) (g c) in
      let j = i - length (f c) in
      let here : i ≡ length (f c) + j = omega arith in
      let block : i / 64 ≡ length ms + j / 64 = omega arith in
      subst (λ (x : Float). Metered (get_or (ms ++ ns) (i / 64) idle_meters) x) (sym (ap (λ (n : ℕ). get_or (f c ++ g c) n 0·0) here ∙ get_or-append-add (f c) (g c) j 0·0))
      (subst (λ (x : Meters). Metered x (get_or (g c) j 0·0)) (sym (ap (λ (n : ℕ). get_or (ms ++ ns) n idle_meters) block ∙ get_or-append-add ms ns (j / 64) idle_meters))
      (k j l (omega arith)))
  | inr m ↦
      subst (λ (x : Float). Metered (get_or (ms ++ ns) (i / 64) idle_meters) x) (sym (get_or-append (f c) (g c) 0·0 i m))
      (subst (λ (x : Meters). Metered x (get_or (f c) i 0·0)) (sym (get_or-append ms ns idle_meters (i / 64) (omega arith))) (h i l m))
]

-- whole blocks, and others behind them; or nothing at all
pub metered_joined : (ms ns : List Meters) (f g : Channels) → ((c : ℕ) → c < 12 → (length (f c) ≡ 64 * length ms) ⊎ ((length (f c) ≡ 0) × (length (g c) ≡ 0)))
    → AllMetered ms f → AllMetered ns g → AllMetered (ms ++ ns) (joined f g)
metered_joined ms ns f g long h k c i l b = elim (long c l) [
  | inl e ↦ metered_behind ms ns f g c e (h c) (k c) i l b
  | inr z ↦ let w = length-append (f c) (g c) in absurd (omega (arith, z.0, z.1))
]
