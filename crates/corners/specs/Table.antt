-- The tables of speakers that may be panned over: at least one speaker, each coordinate an f32 that is finite and from -1 to 1, no channel twice and no place twice, the two
-- zeros being equal. The positions and gains that may be panned. Assumes nothing.
use Rattle.std.specs.Prelude.{ℕ, Bool, true, false, not, ◌&&◌, List, [], ◌∷◌, pos, T, eqb, Float}
use Rattle.std.specs.Float.{fin, binary32}
use Rattle.std.specs.Float.Ieee.{fits, le, eq}
use Rattle.vectors.specs.declared.Vec3.{Vec3}
pub use Rattle.ieee.specs.Numbers.{8·0}
use Rattle.corners.specs.Choice.{every_of, 1·0}

-- an f32 from lo to hi
unfoldable pub between : Float → Float → Float → Bool
between lo hi x = fits binary32 x && (le lo x && le x hi)

abbrev pub minus_one : Float
minus_one = fin true 1 (pos 0)

abbrev pub placed_inside : Vec3 → Bool
placed_inside v = between minus_one 1·0 v.x && (between minus_one 1·0 v.y && between minus_one 1·0 v.z)

abbrev pub alike : Vec3 → Vec3 → Bool
alike v w = eq v.x w.x && (eq v.y w.y && eq v.z w.z)

unfoldable pub distinct : (ℕ → Vec3) → List ℕ → Bool
unfolding every_of
distinct sp [] = true
distinct sp (k ∷ l) = every_of (λ j. not (eqb k j) && not (alike (sp k) (sp j))) l && distinct sp l

abbrev pub occupied : List ℕ → Bool
occupied [] = false
occupied (k ∷ l) = true

-- the channels l may be panned over, placed at sp
pub record Table (sp : ℕ → Vec3) (l : List ℕ) : Type 0 where
  pub some : T (occupied l)
  pub placed : T (every_of (λ k. placed_inside (sp k)) l)
  pub distinct : T (distinct sp l)

-- any f32 values, NaN and infinities too
pub record Position (p : Vec3) : Type 0 where
  pub x : T (fits binary32 p.x)
  pub y : T (fits binary32 p.y)
  pub z : T (fits binary32 p.z)
