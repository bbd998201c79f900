-- R-6: "Installers measure where the boxes hang." The same object, at the origin, in two 7.1.4 halls: with the built-in table it is heard on the centre and the two surrounds, in a
-- hall of three heights on the two speakers of the middle one. And bytes that are the built-in table, so that some table makes what is made without one. Assumes nothing.
use Prim.Native.Nat.{ℕ, ◌*◌}
use mathlib.Core.Path.{◌≡◌, refl}
use mathlib.Core.Bool.{true, false, not}
use mathlib.Core.List.{List, [], ◌∷◌, ◌++◌}
use lib.Dec.{eqb, lit≤}
use lib.IntN.{negsuc}
use lib.ListN.{length}
use lib.Ieee.{Float, fin, binary32, mul, to_bits}
use Rattle.words.specs.Words.{word, float_at}
use Rattle.roots.specs.Root.{root}
use Rattle.panning.specs.Choice.{keep}
use Rattle.panning.specs.Setup.{all_channels, table_right, built_in_table, hall_with}
use Rattle.updates.specs.Applied.{0·707}
use Rattle.rules.specs.Making.{table_words, hall_of}
use Rattle.rules.specs.Calls.{make, make_with}
use Rattle.rules.specs.BlockCalls.{Seen, made}
use Rattle.rules.specs.TableCases.{built_in_bytes}
use Rattle.theorem.specs.Instance.{hall, block}
use Rattle.theorem.specs.Halls.{MakesHall}
use Rattle.theorem.proofs.Demand3.{layout_made, table_made, built_in_alike}
use Rattle.theorem.proofs.Opened.{everything, judging}
use Rattle.theorem.proofs.Heard.{half, object, calls, lent, small_bytes, FirstWords, Told, Sees, sees}

-- -1.0, 0.0 and 1.0 as a table has them
abbrev pub below : List ℕ
below = 0 ∷ 0 ∷ 128 ∷ 191 ∷ []

abbrev pub middle : List ℕ
middle = 0 ∷ 0 ∷ 0 ∷ 0 ∷ []

abbrev pub above : List ℕ
above = 0 ∷ 0 ∷ 128 ∷ 63 ∷ []

-- a record of x, y and z, and those behind it
abbrev pub placed : List ℕ → List ℕ → List ℕ → List ℕ → List ℕ
placed x y z rest = x ++ (y ++ (z ++ rest))

-- the floor at the height -1, channels 8 and 9 at 0 beside the origin, 10 and 11 at 1; as in the built-in table, channel 3 stands where 2 does
abbrev pub three_heights : List ℕ
three_heights =
    placed below below above (placed above below above (placed middle below above (placed middle below above
    (placed below below below (placed above below below (placed below below middle (placed above below middle
    (placed below middle middle (placed above middle middle (placed below above middle (placed above above middle [])))))))))))

-- the first places of just these channels are not 0
abbrev pub HeardOn : List ℕ → Seen hall block → Type 0
HeardOn cs s = keep (λ c. not (eqb (word s.out (4 * (64 * c))) 0)) all_channels ≡ cs

abbrev 0·5 : Float
0·5 = fin false 1 (negsuc 0)

-- on each of the two it is the sample times the root of half the object's gain
abbrev pub beside_it : List ℕ
beside_it = let each : ℕ = to_bits binary32 (mul binary32 (root (mul binary32 0·707 0·5)) (float_at half 0)) in 0 ∷ 0 ∷ 0 ∷ 0 ∷ 0 ∷ 0 ∷ 0 ∷ 0 ∷ each ∷ each ∷ 0 ∷ 0 ∷ []

three_right : table_right (table_words three_heights) ≡ true
unfolding everything judging
three_right = refl

made_of_three : MakesHall (make_with 0 three_heights) (hall_of 0 three_heights)
made_of_three = table_made 0 (lit≤ tt) three_heights (small_bytes three_heights tt) refl three_right

told_built_in : Told (hall_with 0) (calls object) (HeardOn (2 ∷ 6 ∷ 7 ∷ []))
unfolding everything judging
told_built_in = refl

told_three : Told (hall_of 0 three_heights) (calls object) (FirstWords beside_it)
unfolding everything
told_three = refl

pub elsewhere : Sees (make 0) (calls object) (HeardOn (2 ∷ 6 ∷ 7 ∷ [])) × Sees (make_with 0 three_heights) (calls object) (FirstWords beside_it)
elsewhere =
    let l = lent half object.meta [] 1 tt tt tt in (
      sees (layout_made 0 (lit≤ tt)) (calls object) (HeardOn (2 ∷ 6 ∷ 7 ∷ [])) l told_built_in,
      sees made_of_three (calls object) (FirstWords beside_it) l told_three,
    )

-- ---- the built-in table, handed over

built_in_long : length built_in_bytes ≡ 144
unfolding everything
built_in_long = refl

built_in_read : table_words built_in_bytes ≡ built_in_table
unfolding everything
built_in_read = refl

-- is what is made without one, of each layout
pub built_in_loaded : (b : List ℕ) (n : ℕ) → made hall block (make_with n built_in_bytes) b ≡ made hall block (make n) b
built_in_loaded b n = built_in_alike b n built_in_bytes built_in_long built_in_read
