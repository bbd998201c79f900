-- A list of calls with a loud past and a quiet presence, so that demand 3's clause on how soon the low-pass forgets is not met by an empty premise: at 8,000 samples a second one
-- bass channel, 40 samples of 16.0 and then 128 of 8.0, in one push. Assumes nothing.
use Prim.Native.Nat.{ℕ, zero, suc, ◌*◌, ◌<◌}
use mathlib.Core.Path.{◌≡◌, refl, sym, ap, subst}
use mathlib.Core.List.{List, [], ◌∷◌, ◌++◌}
use lib.Dec.{lit≤, lit<}
use lib.ListN.{length, replicate, take}
use lib.Ieee.{Float, of_bits, binary32}
use Rattle.ieee.specs.Units.{mag}
use Rattle.lowpass.specs.Bound.{Bounded}
use Rattle.lowpass.specs.Forgets.{Subsided}
use Rattle.rules.specs.Samples.{hall_with, fresh}
use Rattle.rules.specs.Refusals.{Args}
use Rattle.rules.specs.Calls.{push}
use Rattle.rules.specs.Ringing.{feed}
use Rattle.rules.specs.Sounds.{sound_at}
use Rattle.rules.specs.Demand3.{AllLent}
use Rattle.rules.proofs.Theorems.{right_hall}
use Rattle.theorem.specs.Instance.{hall}
use Rattle.theorem.proofs.ZeroBytes.{zero_bytes}
use Rattle.theorem.proofs.Demand3.{demand3_from}
use Rattle.theorem.proofs.Opened.{everything}
use Rattle.theorem.proofs.Heard.{small_bytes}

-- n samples of one kind, 16.0 and 8.0
abbrev repeated : ℕ → List ℕ → List ℕ
repeated zero w = []
repeated (suc n) w = w ++ repeated n w

abbrev loud : List ℕ
loud = 0 ∷ 0 ∷ 128 ∷ 65 ∷ []

abbrev quiet : List ℕ
quiet = 0 ∷ 0 ∷ 0 ∷ 65 ∷ []

-- one update at offset 0, of one object that is a bed channel with the code 3
abbrev pub falling : Args
falling = record {
  pcm = repeated 40 loud ++ repeated 128 quiet;
  meta = 1 ∷ 0 ∷ 0 ∷ 0 ∷ 1 ∷ 1 ∷ 1 ∷ 0 ∷ 3 ∷ replicate 31 0;
  out = replicate 9216 0;
  codes = 3 ∷ [];
  rate = 8000;
  samples = 168;
  objects = 0;
  stride = 192;
}

-- what they feed: 16.0 and 8.0, each times 0.707 * 0.31622776
abbrev fed_loud : Float
fed_loud = of_bits binary32 0x4064f054

abbrev pub fed_quiet : Float
fed_quiet = of_bits binary32 0x3fe4f054

fed_falling : feed hall (fresh hall (hall_with 0)) falling ≡ replicate 40 fed_loud ++ replicate 128 fed_quiet
unfolding everything
fed_falling = refl

-- sample t on channel 3, before the limiter
abbrev pub bass_at : ℕ → Float
bass_at t = sound_at hall (fresh hall (hall_with 0)) falling 3 t

above : 2 * mag fed_quiet < mag (bass_at 39)
unfolding everything
above = lit< tt

sounds : 0 < mag (bass_at 167)
unfolding everything
sounds = lit< tt

subsided : Subsided 8000 1 (mag fed_quiet) (replicate 40 fed_loud ++ replicate 128 fed_quiet)
unfolding everything
subsided = record { low = lit≤ tt; high = lit≤ tt; past = lit≤ tt; present = lit≤ tt }

all_fed : 167 < length (feed hall (fresh hall (hall_with 0)) falling)
all_fed = subst (λ (xs : List Float). 167 < length xs) (sym fed_falling) (lit< tt)

lent : AllLent (push falling ∷ [])
lent = ((small_bytes falling.pcm tt, small_bytes falling.meta tt, zero_bytes 9216, small_bytes falling.codes tt), tt)

-- above twice what the quiet samples feed; later no more than that, by demand 3; and not silent
pub past_gone : (2 * mag fed_quiet < mag (bass_at 39)) × Bounded (2 * mag fed_quiet) (bass_at 167) × (0 < mag (bass_at 167))
past_gone =
    let rings = (demand3_from (hall_with 0) (right_hall 0 (lit≤ tt)) (push falling ∷ []) lent).rings in
    let all : take 168 (feed hall (fresh hall (hall_with 0)) falling) ≡ replicate 40 fed_loud ++ replicate 128 fed_quiet = ap (take 168) fed_falling in
    (above, (rings.0 167 all_fed).forgets 1 (mag fed_quiet) (subst (Subsided 8000 1 (mag fed_quiet)) (sym all) subsided), sounds)
