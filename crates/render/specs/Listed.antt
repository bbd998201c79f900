-- A reader may skip this file: the terms of a run by channel, as the code lists them, and what it sums of them. Of a whole list that is `heard` of the rules at each sample
-- (`listed_heard`). Assumes nothing.
use Rattle.std.specs.Prelude.{ℕ, zero, suc, ◌*◌, ◌<◌, ◌≤◌, ◌≡◌, false, cond, List, [], ◌∷◌, ◌++◌, map, length, get_or, take, drop, Float, Option, Some, None}
use Rattle.std.specs.Float.{binary32}
use Rattle.std.specs.Float.Ieee.{add, mul, eq}
use Rattle.formats.specs.Areas.{row_count}
use Rattle.beds.specs.Matching.{matching}
use Rattle.panning.specs.Terms.{on_channel}
use Rattle.panning.specs.Setup.{Setup}
use Rattle.rules.specs.Parts.{0·0}
use Rattle.rules.specs.Leaves.{Source, Bed}
use Rattle.rules.specs.Mix.{sample_at, added_terms}
use Rattle.render.specs.MixedSources.{bed_terms}
use Rattle.panning.specs.Hall.{setup_of}
use Rattle.render.specs.Run.{zipped, plain_source}
use Rattle.render.specs.declared.Run.{Run}
use Rattle.render.specs.declared.lists.Fed.{Fed}
use Rattle.render.specs.declared.lists.Lists.{Lists}

-- ---- lists

-- how many terms there is room for in each list
abbrev pub list_room : ℕ
list_room = 50

abbrev pub fed_with : ℕ → Float → Fed
fed_with i g = record { input = i; gain = g }

-- the list of channel c
abbrev pub list_of : Lists → ℕ → List Fed
list_of l c = take (get_or l.counts c 0) (drop (list_room * c) l.terms)

pub record Sized (l : Lists) : Type 0 where
  pub channels : length l.counts ≡ row_count
  pub terms : length l.terms ≡ list_room * row_count
  pub room : (c : ℕ) → get_or l.counts c 0 ≤ list_room

-- Terms put behind those of each channel, if there was room for all.
pub record Grown (added : ℕ → List Fed) (before after : Lists) : Type 0 where
  pub sized : Sized after
  pub full : after.full ≡ false → before.full ≡ false
  pub lists : after.full ≡ false → (c : ℕ) → c < row_count → list_of after c ≡ list_of before c ++ added c

-- ---- what a run's lists hold

-- coefficients of input i: one of either zero adds nothing
unfoldable pub fed_of : ℕ → List Float → List Fed
fed_of i [] = []
fed_of i (g ∷ gs) = cond (eq g 0·0) (fed_of i gs) (fed_with i g ∷ fed_of i gs)

-- those of the input that was found
abbrev pub found_fed : Option ℕ → List Float → List Fed
found_fed (Some i) gs = fed_of i gs
found_fed None gs = []

-- the beds in order, then the objects, of which the first is input i
abbrev pub beds_listed : Setup → List ℕ → List Bed → ℕ → List Fed
beds_listed h codes [] c = []
beds_listed h codes (b ∷ bs) c = found_fed (matching b.code codes) (on_channel c (bed_terms h b)) ++ beds_listed h codes bs c

abbrev pub objects_listed : Setup → ℕ → List Source → ℕ → List Fed
objects_listed h i [] c = []
objects_listed h i (o ∷ os) c = fed_of i (on_channel c (added_terms h o)) ++ objects_listed h (suc i) os c

abbrev pub run_listed : Setup → List ℕ → List Bed → List Source → ℕ → List Fed
run_listed h codes beds objects c = beds_listed h codes beds c ++ objects_listed h (length codes) objects c

-- What is listed is what sounds of the beds and the objects in the hall h, as far as the lists are not full: of full ones nothing is said.
pub record ListsFit (h : Setup) (codes : List ℕ) (beds : List Bed) (objects : List Source) (l : Lists) : Type 0 where
  pub sized : Sized l
  pub lists : l.full ≡ false → (c : ℕ) → c < row_count → list_of l c ≡ run_listed h codes beds objects c

-- those of a run's scene
abbrev pub ListsFitRun : Run → Lists → Type 0
ListsFitRun r = ListsFit (setup_of r.scene.hall.now) r.input.codes.list.now (zipped r.scene.codes.now r.scene.gains.now) (map plain_source r.scene.sources.now)

-- ---- sums

-- the terms are fed by the first m inputs
abbrev pub FedBy : ℕ → List Fed → Type 0
FedBy m fs = (j : ℕ) → j < length fs → (get_or fs j (fed_with 0 0·0)).input < m

-- s with the terms added to it in order, x i being the sample of input i
abbrev pub added_to : (ℕ → Float) → Float → List Fed → Float
added_to x s [] = s
added_to x s (f ∷ fs) = added_to x (add binary32 s (mul binary32 (x f.input) f.gain)) fs

-- their sum at sample t of a frame of n samples a channel, and the sums at the k samples from t on
abbrev pub sum_at : List ℕ → ℕ → List Fed → ℕ → Float
sum_at pcm n fs t = added_to (λ i. sample_at pcm n i t) 0·0 fs

abbrev pub sums_at : List ℕ → ℕ → List Fed → ℕ → ℕ → List Float
sums_at pcm n fs t zero = []
sums_at pcm n fs t (suc k) = sum_at pcm n fs t ∷ sums_at pcm n fs (suc t) k
