-- An entry of an array, an array of words, and the formats of the areas behind the small part. Assumes nothing.
use mathlib.Core.Path.{◌≡◌, refl, ap, ap₂, ◌∙◌}
use mathlib.Core.List.{List, [], ◌∷◌}
use Prim.Native.Nat.{ℕ, zero, suc, ◌+◌, ◌*◌, ◌<◌, ◌≤◌}
use native.Mathlib.Omega.{arith}
use lib.Dec.{lit<}
use lib.ListN.{length, get_or}
use Rattle.words.specs.Words.{words_at}
use Rattle.formats.specs.Format.{u32_any, puts, gets, array}
use Rattle.formats.specs.Lawful.{Lawful}
use Rattle.formats.specs.Info.{info_format}
use Rattle.formats.specs.Areas.{info_count, infos_format, row_count, row_places, row_format, places_format, row_bytes, place_count}
use Rattle.formats.proofs.Places.{word_of_run}
use Rattle.formats.proofs.Word.{lawful_u32_to}
use Rattle.formats.proofs.PairsAndArrays.{lawful_array}
use Rattle.formats.proofs.LawfulInfo.{lawful_info}

-- ---- an entry, and what stands past the last

module _ {A : Type 0} (g : ℕ → A) (k : ℕ) (d : A) where
  pub entry_read : (n c at : ℕ) → c < n → get_or (gets g k n at) c d ≡ g (at + k * c)
  unfolding gets
  entry_read zero c at h = absurd (omega arith)
  entry_read (suc n) zero at h = ap g (let e : at ≡ at + k * 0 = omega arith in e)
  entry_read (suc n) (suc c) at h = entry_read n c (at + k) (omega arith) ∙ ap g (let e : at + k + k * c ≡ at + k * suc c = omega arith in e)

  pub no_entry : (n c at : ℕ) → n ≤ c → get_or (gets g k n at) c d ≡ d
  unfolding gets
  no_entry zero c at h = refl
  no_entry (suc n) zero at h = absurd (omega arith)
  no_entry (suc n) (suc c) at h = no_entry n c (at + k) (omega arith)

-- ---- words of any bits: the words themselves

pub words_got : (s : List ℕ) (at n i m : ℕ) → i + n ≤ m → (array n u32_any).get (words_at s at m) i ≡ words_at s (at + 4 * i) n
unfolding gets
words_got s at zero i m h = refl
words_got s at (suc n) i m h =
    ap₂ (λ (x : ℕ) (xs : List ℕ). x ∷ xs) (word_of_run s at m i (at + 4 * i) (omega arith) refl)
    (words_got s at n (i + 1) m (omega arith) ∙ ap (λ (q : ℕ). words_at s q n) (let e : at + 4 * (i + 1) ≡ at + 4 * i + 4 = omega arith in e))

pub words_put : (n : ℕ) (ws : List ℕ) → length ws ≡ n → (array n u32_any).put ws ≡ ws
unfolding puts
words_put zero [] h = refl
words_put zero (w ∷ ws) h = absurd (omega arith)
words_put (suc n) [] h = absurd (omega arith)
words_put (suc n) (w ∷ ws) h = ap (λ (t : List ℕ). w ∷ t) (words_put n ws (omega arith))

-- ---- the areas

pub lawful_infos : Lawful infos_format
lawful_infos = lawful_array info_format lawful_info info_count

pub lawful_places : Lawful places_format
lawful_places = lawful_array row_format (lawful_array u32_any (lawful_u32_to 4294967295 (lit< tt)) row_places) row_count

-- a row, read from bytes; past the last there is none
module _ (s : List ℕ) (at : ℕ) (d : List ℕ) where
  pub row_got : (c : ℕ) → c < row_count → get_or (places_format.get (words_at s at place_count) 0) c d ≡ words_at s (at + row_bytes * c) row_places
  row_got c h =
      entry_read (row_format.get (words_at s at place_count)) row_format.width d row_count c 0 h
      ∙ words_got s at row_places (0 + row_places * c) place_count (omega arith)
      ∙ ap (λ (q : ℕ). words_at s q row_places) (let e : at + 4 * (0 + row_places * c) ≡ at + row_bytes * c = omega arith in e)

  pub no_row_got : (c : ℕ) → row_count ≤ c → get_or (places_format.get (words_at s at place_count) 0) c d ≡ d
  no_row_got c h = no_entry (row_format.get (words_at s at place_count)) row_format.width d row_count c 0 h
