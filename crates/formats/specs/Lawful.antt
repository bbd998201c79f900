-- What is shown of each format, where its limits fit its width: a value is read back from its words, what is beside them plays no part, and words pass the test exactly if they
-- are plain and what they say is in range. Assumes nothing.
use Rattle.std.specs.Prelude.{ℕ, ◌+◌, ◌<◌, ◌≡◌, List, T, length, get_or}
use Rattle.words.specs.Words.{Words}
use Rattle.formats.specs.Format.{Format, Stands}

-- n words of v from a on are those of w from b on
abbrev pub Same : List ℕ → ℕ → List ℕ → ℕ → ℕ → Type 0
Same v a w b n = (i : ℕ) → i < n → get_or v (a + i) 0 ≡ get_or w (b + i) 0

pub record Lawful {A : Type 0} (F : Format A) : Type 0 where
  -- a value has `width` words, in range or not
  pub long : (x : A) → length (F.put x) ≡ F.width
  -- in range, each is below 2^32, and the value is read back from them
  pub words : (x : A) → F.In x → Words (F.put x)
  pub back : (x : A) → F.In x → (w : List ℕ) (at : ℕ) → Stands w at (F.put x) → F.get w at ≡ x
  pub tidy : (x : A) → F.In x → (w : List ℕ) (at : ℕ) → Stands w at (F.put x) → F.Plain w at
  -- the test is true exactly if the words are plain and what they say is in range
  pub within : (w : List ℕ) (at : ℕ) → T (F.test w at) → F.In (F.get w at)
  pub plain : (w : List ℕ) (at : ℕ) → T (F.test w at) → F.Plain w at
  pub exact : (w : List ℕ) (at : ℕ) → F.In (F.get w at) → F.Plain w at → T (F.test w at)
  -- what is beside plays no part
  pub beside : (v : List ℕ) (a : ℕ) (w : List ℕ) (b : ℕ) → Same v a w b F.width → F.get v a ≡ F.get w b
  pub untouched : (v : List ℕ) (a : ℕ) (w : List ℕ) (b : ℕ) → Same v a w b F.width → F.test v a ≡ F.test w b
  -- part by part is the whole
  pub reads : (w : List ℕ) (at : ℕ) (x : A) → F.Reads w at x → x ≡ F.get w at
  pub spells : (w : List ℕ) (at : ℕ) (x : A) → F.Spells w at x → Stands w at (F.put x)
