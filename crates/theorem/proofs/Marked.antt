-- The cases marked P hold: each row by computation, the limiter's for every block of its peak. Assumes nothing.
use Prim.Native.Nat.{ℕ, zero, suc}
use mathlib.Core.Path.{◌≡◌, refl, ap, ap₂, ◌∙◌}
use mathlib.Core.List.{List, [], ◌∷◌, map}
use lib.Dec.{T}
use lib.Ieee.{Float, binary32, fits, of_bits, to_bits, sub, mul, le, ne}
use lib.Ieee.Bits.{of_bits-fits, is_true}
use Rattle.words.specs.Words.{number, with_number, float_at}
use Rattle.ieee.specs.Units.{mag}
use Rattle.ieee.specs.Bounds.{All}
use Rattle.ieee.specs.Small.{absolute, larger}
use Rattle.ieee.proofs.Exact.{mul_one}
use Rattle.roots.specs.Root.{root, root_power}
use Rattle.vectors.specs.Anchors.{room_anchored}
use Rattle.vectors.specs.Target.{moved, placed}
use Rattle.timed.specs.State.{slot_at}
use Rattle.updates.specs.Applied.{applied}
use Rattle.panning.specs.Choice.{corner}
use Rattle.panning.specs.Terms.{panned, audible, paired}
use Rattle.panning.specs.Speakers.{positions714}
use Rattle.panning.specs.Setup.{table_place, present, speakers_in, divisor_in, table_of}
use Rattle.limiter.specs.Limiter.{scaled, lowered, block_peak}
use Rattle.rules.specs.Parts.{1·0, Places, floats}
use Rattle.store.specs.Layout.{blank}
use Rattle.theorem.specs.Marked.{Tells, peak_of, Limits, cases}

-- one sample, on channel 0
abbrev alone : ℕ → Places
alone w zero = w ∷ []
alone w (suc c) = []

-- b has the peak p, and f is what the gain makes of each f32
limits : {p g : Float} {f : Float → Float} (b : Places) → peak_of b ≡ p → ((x : Float) → T (fits binary32 x) → mul binary32 x (lowered p g) ≡ f x) → Limits p g f
limits {p} {g} {f} b i h = record { every = λ d e c. ap (λ (q : Float). scaled (lowered q g) (floats d c)) e ∙ each (d c); one = b; is = i }
  where
    each : (ws : List ℕ) → scaled (lowered p g) (map (of_bits binary32) ws) ≡ map f (map (of_bits binary32) ws)
    each [] = refl
    each (w ∷ ws) = ap₂ (λ (x : Float) (xs : List Float). x ∷ xs) (h (of_bits binary32 w) (of_bits-fits binary32 w)) (each ws)

same : (x : Float) → T (fits binary32 x) → mul binary32 x 1·0 ≡ x
same x f = mul_one x (is_true (fits binary32 x) f)

pub table : All Tells cases
unfolding sub le ne of_bits to_bits mag absolute larger lowered block_peak root root_power number with_number float_at positions714 table_place present
    speakers_in divisor_in table_of corner panned audible paired room_anchored moved placed slot_at applied blank
table = (refl, (refl, (refl, (refl, (refl, (refl, (refl, (refl, (refl, (limits (alone 0x3f80_0000) refl same, (limits (alone 0x4000_0000) refl (λ x f. refl), tt)))))))))))
