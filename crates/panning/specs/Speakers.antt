-- The speakers of the 7.1.4 hall, `RENDER_714_CHANNEL_POSITIONS`. Assumes nothing.
use Rattle.std.specs.Prelude.{ℕ, Bool, true, false, List, [], ◌∷◌, pos, negsuc, get_or, Float}
use Rattle.std.specs.Float.{nan, fin}
use Rattle.vectors.specs.declared.Vec3.{Vec3}
use Rattle.corners.specs.Choice.{0·0}

-- 0.70710677, 0.48368952 and 1, with a sign
abbrev pub diagonal : Bool → Float
diagonal s = fin s 11863283 (negsuc 23)

abbrev pub surround : Bool → Float
surround s = fin s 16229927 (negsuc 24)

abbrev pub one : Bool → Float
one s = fin s 1 (pos 0)

unfoldable pub positions714 : List Vec3
positions714 =
    record { x = diagonal true; y = 0·0; z = one false } ∷
    record { x = diagonal false; y = 0·0; z = one false } ∷
    record { x = 0·0; y = 0·0; z = one false } ∷
    record { x = 0·0; y = 0·0; z = one false } ∷
    record { x = diagonal true; y = 0·0; z = one true } ∷
    record { x = diagonal false; y = 0·0; z = one true } ∷
    record { x = one true; y = 0·0; z = surround true } ∷
    record { x = one false; y = 0·0; z = surround true } ∷
    record { x = one true; y = one false; z = surround false } ∷
    record { x = one false; y = one false; z = surround false } ∷
    record { x = diagonal true; y = one false; z = one true } ∷
    record { x = diagonal false; y = one false; z = one true } ∷ []

unfoldable pub hall714 : ℕ → Vec3
unfolding positions714
hall714 k = get_or positions714 k (record { x = nan; y = nan; z = nan })

-- "all but channel 3", the bass channel
abbrev pub full_range : List ℕ
full_range = 0 ∷ 1 ∷ 2 ∷ 4 ∷ 5 ∷ 6 ∷ 7 ∷ 8 ∷ 9 ∷ 10 ∷ 11 ∷ []

-- "√(s/12)": how many channels there are, the bass channel too
abbrev pub 12·0 : Float
12·0 = fin false 3 (pos 2)
