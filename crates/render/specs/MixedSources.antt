-- A reader may skip this file: how the code mixes the beds and the objects of a run into the rows, each with its samples out of the frame's PCM. Channel by channel that is
-- `heard` of the rules (`run_heard`). Assumes nothing.
use Rattle.std.specs.Prelude.{ℕ, suc, ◌+◌, ◌*◌, List, [], ◌∷◌, Float, Option, Some, None}
use Rattle.mixing.specs.FrameSamples.{samples}
use Rattle.beds.specs.declared.Route.{Route}
use Rattle.beds.specs.declared.Route.TheVariants.{Bass, Folded, Direct, Unsupported}
use Rattle.beds.specs.Routes.{route_in, bass_gain}
use Rattle.beds.specs.Positions.{bed_position}
use Rattle.beds.specs.Matching.{matching}
use Rattle.panning.specs.Terms.{Term, term}
use Rattle.panning.specs.Setup.{Setup, present, terms_in}
use Rattle.rules.specs.Parts.{0·0}
use Rattle.rules.specs.Leaves.{Source, Bed}
use Rattle.rules.specs.Mix.{added_terms}
use Rattle.render.specs.declared.Span.{Span}
use Rattle.render.specs.MixedRows.{mixed_terms}

-- the terms of a bed in the hall h, by its route: on each channel the coefficients of the rules' `adds_of` (`bed_adds_is`)
unfoldable pub route_terms : Setup → Route → ℕ → Float → List Term
route_terms h Bass code gain = term 3 (bass_gain gain) ∷ []
route_terms h Folded code gain = terms_in h (bed_position code) gain 0·0
route_terms h (Direct k) code gain = term k gain ∷ []
route_terms h Unsupported code gain = []

abbrev pub bed_terms : Setup → Bed → List Term
bed_terms h b = route_terms h (route_in (present h.layout) b.code) b.code b.gain

-- where the run's samples of channel i start
abbrev pub channel_start : Span → ℕ → ℕ
channel_start s i = 4 * (i * s.frame + s.first)

module _ (pcm : List ℕ) (s : Span) where
  abbrev pub channel_row : ℕ → List Float
  channel_row i = samples pcm (channel_start s i) s.count

  -- terms fed by the input that was found
  abbrev pub mixed_found : List Term → Option ℕ → List Float → List Float
  mixed_found ts (Some i) os = mixed_terms (channel_row i) ts os
  mixed_found ts None os = os

module _ (h : Setup) (pcm : List ℕ) (s : Span) where
  abbrev pub mixed_beds : List ℕ → List Bed → List Float → List Float
  mixed_beds codes [] os = os
  mixed_beds codes (b ∷ bs) os = mixed_beds codes bs (mixed_found pcm s (bed_terms h b) (matching b.code codes) os)

  -- the first of the objects is channel i
  abbrev pub mixed_objects : ℕ → List Source → List Float → List Float
  mixed_objects i [] os = os
  mixed_objects i (o ∷ os) rows = mixed_objects (suc i) os (mixed_terms (channel_row pcm s i) (added_terms h o) rows)
