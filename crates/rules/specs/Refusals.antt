-- "Who can cause a refusal": the refusals of a push in document 01's order, for a renderer whose block is in range. Assumes nothing.
use Rattle.std.specs.Prelude.{ℕ, zero, suc, ◌+◌, ◌*◌, ◌%◌, Bool, true, false, cond, not, ◌&&◌, ◌||◌, List, [], ◌∷◌, eqb, leb, length}
use Rattle.mixing.specs.FrameSamples.{all_pass}
use Rattle.beds.specs.Matching.{counted}
pub use Rattle.rates.specs.Rates.{listed}
use Rattle.rules.specs.Leaves.{Leaves, Shape}
use Rattle.rules.specs.Samples.{State}

-- what a push is handed besides the state block; the bed codes are as many as there are beds
pub record Args : Type 0 where
  pub pcm : List ℕ
  pub meta : List ℕ
  pub out : List ℕ
  pub codes : List ℕ
  pub rate : ℕ
  pub samples : ℕ
  pub objects : ℕ
  pub stride : ℕ

abbrev pub args_of : List ℕ → List ℕ → List ℕ → List ℕ → ℕ → ℕ → ℕ → ℕ → Args
args_of pcm meta out codes rate samples objects stride =
    record { pcm = pcm; meta = meta; out = out; codes = codes; rate = rate; samples = samples; objects = objects; stride = stride }

-- nothing, or a refusal: "its number and two counts, zero where unnamed"
pub data Found : Type 0 where
  clear : Found
  stop : ℕ → ℕ → ℕ → Found

-- the first that stops
infixr 20 ◌then◌
abbrev pub ◌then◌ : Found → Found → Found
clear then x = x
stop n a b then x = stop n a b

abbrev pub is_clear : Found → Bool
is_clear clear = true
is_clear (stop n a b) = false

abbrev pub unless : Bool → ℕ → ℕ → ℕ → Found
unless true n a b = clear
unless false n a b = stop n a b

abbrev pub every : (ℕ → Bool) → List ℕ → Bool
every f [] = true
every f (x ∷ xs) = f x && every f xs

-- ---- 1 to 8, "lowest number first"; R-1: "7 never occurs again"

-- "a stride, a multiple of 64 from 64 to 1,536. The output has 12 × stride places or more": places of four bytes
abbrev pub room : ℕ → ℕ → Bool
room stride bytes = eqb (stride % 64) 0 && leb 64 stride && leb stride 1536 && leb (48 * stride) bytes

-- "more samples, beds or objects than allowed, a bed code above 17, PCM length not channels × samples, or samples without channels"
abbrev pub sized : Args → Bool
sized a =
    let channels = length a.codes + a.objects in
    leb a.samples a.stride && leb (length a.codes) 18 && leb a.objects 16 && every (λ c. leb c 17) a.codes
    && eqb (length a.pcm) (4 * (channels * a.samples)) && (eqb a.samples 0 || not (eqb channels 0))

module _ (L : Leaves) where
  abbrev pub early : State L → Args → Found
  early r a =
      unless (room a.stride (length a.out)) 1 0 0
      then unless (sized a) 2 0 0
      then unless (listed a.rate) 3 0 0
      then unless (leb (r.clock.position + a.samples) 1099511627776) 4 0 0
      then unless (L.laid_out a.meta) 5 0 0
      then unless (L.in_range a.meta) 6 0 0
      then unless (all_pass a.pcm 0 ((length a.codes + a.objects) * a.samples)) 8 0 0

-- ---- 9 to 14

-- 13: a bed without an input; 14: the code 6, which is not supported
abbrev pub bed_found : List ℕ → List ℕ → ℕ → Found
bed_found beds codes c = unless (not (eqb (counted c codes) 0)) 13 (counted c beds) 0 then unless (not (eqb c 6)) 14 c 0

abbrev pub beds_found : List ℕ → List ℕ → List ℕ → Found
beds_found beds codes [] = clear
beds_found beds codes (c ∷ cs) = bed_found beds codes c then beds_found beds codes cs

-- past every frame: the offset of an update that only waits
abbrev pub never : ℕ
never = 4294967295

-- an update as the walk over time sees it
pub record Announced : Type 0 where
  pub offset : ℕ
  pub shape : Shape

module _ (us : List Announced) (objects : ℕ) (codes : List ℕ) where
  abbrev pub objects_match : Shape → Found
  objects_match s = unless (eqb s.objects objects) 11 s.objects objects

  -- 11 for each update at t, in the order sent
  abbrev pub counts_at : ℕ → List Announced → Found
  counts_at t [] = clear
  counts_at t (u ∷ vs) = cond (eqb u.offset t) (objects_match u.shape) clear then counts_at t vs

  -- the shape after the updates at t
  abbrev pub shape_at : ℕ → List Announced → Shape → Shape
  shape_at t [] s = s
  shape_at t (u ∷ vs) s = shape_at t vs (cond (eqb u.offset t) u.shape s)

  abbrev pub mixes : Shape → Found
  mixes s = cond s.started (beds_found s.beds codes s.beds) clear

  -- "then 11, 13, 14 as they arise in time": the n samples from t on
  abbrev pub walk : ℕ → ℕ → Shape → Found
  walk zero t s = clear
  walk (suc n) t s = counts_at t us then (mixes (shape_at t us s) then walk n (suc t) (shape_at t us s))

  -- R-12: "For 10, an update that only waits doesn't count; one that falls in the frame does"
  abbrev pub none_sent : List Announced → Bool
  none_sent [] = true
  none_sent (u ∷ vs) = eqb u.offset never && none_sent vs

  -- "After 8: 9, 10, 11 for updates at offset 0, 12, 11 for the present state, then 11, 13, 14 as they arise in time": n samples at a rate, the state's rate and shape
  abbrev pub later : ℕ → ℕ → ℕ → Shape → Found
  later n rate old s =
      let first = shape_at 0 us s in
      unless (eqb old 0 || eqb old rate) 9 old rate
      then unless (s.started || not (none_sent us)) 10 0 0
      then counts_at 0 us
      then unless (not (eqb n 0)) 12 0 0
      then cond first.started (objects_match first) clear
      then walk n 0 s
