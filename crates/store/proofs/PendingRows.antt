-- The places of a block, by their format: a channel's row is the words of its bytes, past the last channel there is none, and the bytes of places are those of their rows, one
-- after the other. Assumes nothing.
use mathlib.Core.Path.{◌≡◌, refl, ap, ap₂, ◌∙◌}
use mathlib.Core.List.{List, [], ◌++◌}
use Prim.Native.Nat.{ℕ, zero, suc, ◌+◌, ◌*◌, ◌<◌, ◌≤◌}
use native.Mathlib.Omega.{arith}
use lib.Dec.{lit≤}
use lib.ListN.{length, get_or, drop}
use Rattle.words.specs.Words.{words_at}
use Rattle.formats.specs.Format.{puts}
use Rattle.formats.specs.Areas.{row_count, row_places, row_format, places_format, row_bytes, place_count}
use Rattle.formats.proofs.Theorems.{words_put, row_got, no_row_got}
use Rattle.panning.specs.Setup.{Setup}
use Rattle.rules.specs.Parts.{Places}
use Rattle.store.specs.Bytes.{bytes_of}
use Rattle.store.specs.Fields.{hall_format}
use Rattle.store.specs.Layout.{places_at, places_of, hall_at, setup_count, setup_in, rows_from, place_bytes}
use Rattle.store.proofs.Bytes.{words_beside, bytes_joined}

-- the hall of its words
abbrev pub setup_of_words : List ℕ → Setup
setup_of_words ws = record { layout = hall_format.get ws 0; table = drop hall_format.width ws }

module _ (b : List ℕ) where
  pub places_row : (c : ℕ) → c < row_count → places_of b c ≡ words_at b (places_at + row_bytes * c) row_places
  places_row = row_got b places_at []

  pub no_places : (c : ℕ) → row_count ≤ c → places_of b c ≡ []
  no_places = no_row_got b places_at []

  -- what is before the places plays no part
  pub places_beside : (d : List ℕ) → drop places_at d ≡ drop places_at b → places_of d ≡ places_of b
  places_beside d e = ap {B = Places} (λ (ws : List ℕ) (c : ℕ). get_or (places_format.get ws 0) c []) (words_beside b d places_at place_count e)

  -- what is before the hall plays no part
  pub setup_beside : (d : List ℕ) → drop hall_at d ≡ drop hall_at b → setup_in d ≡ setup_in b
  setup_beside d e = ap setup_of_words (words_beside b d hall_at setup_count e)

-- ---- as bytes

unfoldable pub rows_bytes : ℕ → ℕ → Places → List ℕ
rows_bytes zero c p = []
rows_bytes (suc n) c p = bytes_of (p c) ++ rows_bytes n (suc c) p

module _ (p : Places) (long : (c : ℕ) → c < row_count → length (p c) ≡ row_places) where
  rows_put : (n c : ℕ) → n + c ≤ row_count → bytes_of (puts row_format.put row_format.width n (rows_from n c p)) ≡ rows_bytes n c p
  unfolding puts rows_from rows_bytes bytes_of
  rows_put zero c h = refl
  rows_put (suc n) c h =
      bytes_joined (row_format.put (p c)) (puts row_format.put row_format.width n (rows_from n (suc c) p))
      ∙ ap₂ (λ (x y : List ℕ). x ++ y) (ap bytes_of (words_put row_places (p c) (long c (omega arith)))) (rows_put n (suc c) (omega arith))

  pub place_bytes_is : place_bytes p ≡ rows_bytes row_count 0 p
  unfolding place_bytes
  place_bytes_is = rows_put row_count 0 (lit≤ tt)
