-- The twelve sums at one sample. Document 01, item 6: "Sums in the source's order": beds, then objects, each in order. Document 02, R-3: "Each object then adds sample × (gain ×
-- send) to channel 3 before the filter, after all beds and in object order." Assumes nothing.
use Rattle.std.specs.Prelude.{ℕ, zero, suc, ◌+◌, ◌*◌, List, [], ◌∷◌, ◌++◌, Float, Option, Some, None}
use Rattle.std.specs.Float.{binary32}
use Rattle.std.specs.Float.Ieee.{mul}
use Rattle.words.specs.Words.{float_at}
use Rattle.mixing.specs.Sums as sums
use Rattle.mixing.specs.Sums.{total}
use Rattle.beds.specs.Matching.{matching}
use Rattle.beds.specs.BedTerms.{bed_adds}
use Rattle.panning.specs.Terms.{Term, term, on_channel}
use Rattle.panning.specs.Setup.{Setup, present, terms_in, pan_in}
use Rattle.rules.specs.Parts.{0·0}
use Rattle.rules.specs.Leaves.{Source, Bed}

-- ---- coefficients, in the hall h

-- the terms of an object as it is panned, in the order of addition
unfoldable pub object_terms : Setup → Source → List Term
object_terms h s = terms_in h s.place s.gain s.size

-- "(gain × send)"
abbrev pub send_of : Source → Float
send_of s = mul binary32 s.gain s.send

-- all that it adds: these, and its send on channel 3; its coefficients on channel c
abbrev pub added_terms : Setup → Source → List Term
added_terms h s = object_terms h s ++ (term 3 (send_of s) ∷ [])

abbrev pub object_adds : Setup → Source → ℕ → List Float
object_adds h s c = on_channel c (added_terms h s)

-- the coefficients of a bed on channel c: document 01, item 3; R-5: "A bed whose speaker is absent is panned". One that is panned has size 0.
abbrev pub adds_of : Setup → Bed → ℕ → List Float
adds_of h b c = bed_adds (present h.layout) (λ p g c. pan_in h p g 0·0 c) b.code b.gain c

-- ---- samples

-- Document 01: "PCM comes channel after channel, beds then objects"; "a sample is four bytes, little-endian": channel i at sample t, of n samples a channel
abbrev pub sample_at : List ℕ → ℕ → ℕ → ℕ → Float
sample_at pcm n i t = float_at pcm (4 * (i * n + t))

-- k channels from i on, at sample t
abbrev pub samples_at : List ℕ → ℕ → ℕ → ℕ → ℕ → List Float
samples_at pcm n zero i t = []
samples_at pcm n (suc k) i t = sample_at pcm n i t ∷ samples_at pcm n k (suc i) t

-- ---- sums

-- each coefficient with the sample x
abbrev pub scaled_by : List Float → Float → List sums.Addend
scaled_by [] x = []
scaled_by (k ∷ ks) x = record { coef = k; sample = x } ∷ scaled_by ks x

-- a bed takes the input that matches it; without one, which refusal 13 keeps out, it adds nothing
abbrev pub fed_by : List Float → Option ℕ → (ℕ → Float) → List sums.Addend
fed_by ks (Some i) inputs = scaled_by ks (inputs i)
fed_by ks None inputs = []

-- the beds in order; `codes` are the frame's, and `inputs` its bed channels' samples
abbrev pub beds_on : Setup → ℕ → List Bed → List ℕ → (ℕ → Float) → List sums.Addend
beds_on h c [] codes inputs = []
beds_on h c (b ∷ bs) codes inputs = fed_by (adds_of h b c) (matching b.code codes) inputs ++ beds_on h c bs codes inputs

-- the objects in order, each with its own sample
abbrev pub objects_on : Setup → ℕ → List Source → List Float → List sums.Addend
objects_on h c [] own = []
objects_on h c (s ∷ ss) [] = []
objects_on h c (s ∷ ss) (x ∷ own) = scaled_by (object_adds h s c) x ++ objects_on h c ss own

-- What is heard at one sample: the hall, the beds and the objects, the frame's bed codes, and the samples of the frame's beds and objects. Silence has neither beds nor objects.
pub record Moment : Type 0 where
  pub hall : Setup
  pub beds : List Bed
  pub objects : List Source
  pub codes : List ℕ
  pub inputs : ℕ → Float
  pub own : List Float

-- the sum of channel c: +0.0, then the beds' terms, then the objects'
unfoldable pub heard : Moment → ℕ → Float
heard m c = total 0·0 (beds_on m.hall c m.beds m.codes m.inputs ++ objects_on m.hall c m.objects m.own)

-- what enters the low-pass, and the beds' part of it
abbrev pub fed : Moment → Float
fed m = heard m 3

abbrev pub fed_by_beds : Moment → Float
fed_by_beds m = total 0·0 (beds_on m.hall 3 m.beds m.codes m.inputs)
