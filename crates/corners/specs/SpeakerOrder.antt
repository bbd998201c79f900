-- The order in which the speakers are sorted, by (y, z, x), and which they are. A reader may skip the rest: the contracts of the functions that sort them. Assumes nothing.
use Rattle.std.specs.Prelude.{ℕ, ◌+◌, ◌≤◌, ◌<◌, ◌≡◌, Bool, false, ◌&&◌, cond, List, [], ◌∷◌, T, ltb, get_or, Float}
use Rattle.std.specs.Float.Ieee.{lt, eq}
use Rattle.vectors.specs.declared.Vec3.{Vec3}
use Rattle.corners.specs.Choice.{keep}
use Rattle.corners.specs.declared.Speaker.{Speaker}
use Rattle.corners.specs.Axes.{speaker_at}

-- lower before higher; in a layer rear before front; in a row left before right
unfoldable pub precedes : Vec3 → Vec3 → Bool
precedes v w = cond (eq v.y w.y) (cond (eq v.z w.z) (lt v.x w.x) (lt v.z w.z)) (lt v.y w.y)

-- the channels that are marked
abbrev pub is_marked : List Bool → ℕ → Bool
is_marked marked k = get_or marked k false

unfoldable pub speakers_of : List Bool → List ℕ
unfolding keep
speakers_of marked = keep (is_marked marked) (0 ∷ 1 ∷ 2 ∷ 3 ∷ 4 ∷ 5 ∷ 6 ∷ 7 ∷ 8 ∷ 9 ∷ 10 ∷ 11 ∷ [])

-- ---- contracts

-- channel k is put among the first n channels at the index `at`: those from there on come after it and move up by one
pub record Inserted (sp : ℕ → Vec3) (before : ℕ → ℕ) (n k : ℕ) (after : ℕ → ℕ) : Type 0 where
  pub at : ℕ
  pub most : at ≤ n
  pub there : after at ≡ k
  pub low : (j : ℕ) → j < at → after j ≡ before j
  pub high : (j : ℕ) → at ≤ j → j < n → after (j + 1) ≡ before j
  pub left : (j : ℕ) → j + 1 ≡ at → T (precedes (sp k) (sp (before j))) → ⊥
  pub right : (j : ℕ) → at ≤ j → j < n → T (precedes (sp k) (sp (before j)))

-- the first n channels are those below k that are marked, in order
pub record InLine (sp : ℕ → Vec3) (here : ℕ → Bool) (k n : ℕ) (channel : ℕ → ℕ) : Type 0 where
  pub few : n ≤ k
  pub into : (i : ℕ) → i < n → (channel i < k) × T (here (channel i))
  pub out : (j : ℕ) → j < k → T (here j) → (i : ℕ) × (i < n) × (j ≡ channel i)
  pub rising : (i j : ℕ) → i < j → j < n → T (precedes (sp (channel i)) (sp (channel j)))

-- the first n channels with their places
abbrev pub Gathered : (ℕ → Vec3) → (ℕ → ℕ) → ℕ → List Speaker → Type 0
Gathered sp channel n speakers = (i : ℕ) → i < n → speaker_at speakers i ≡ record { channel = channel i; place = sp (channel i) }

-- the end of the run at j, from that at j + 1: where the next is in bounds and at an equal coordinate, the run goes on
abbrev pub run_end : (ℕ → Float) → (ℕ → ℕ) → (ℕ → ℕ) → ℕ → ℕ
run_end c bound e j = cond (ltb (j + 1) (bound j) && eq (c (j + 1)) (c j)) (e (j + 1)) (j + 1)

abbrev pub RunEnds : (ℕ → Float) → (ℕ → ℕ) → ℕ → (ℕ → ℕ) → Type 0
RunEnds c bound n e = (j : ℕ) → j < n → e j ≡ run_end c bound e j
