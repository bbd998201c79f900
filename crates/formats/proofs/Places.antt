-- Words in place: of a front and a rest, and of the words that a format has. Assumes nothing.
use mathlib.Core.Path.{◌≡◌, sym, ap, ◌∙◌}
use mathlib.Core.List.{List, [], ◌∷◌, ◌++◌}
use Prim.Native.Nat.{ℕ, zero, suc, ◌+◌, ◌*◌, ◌/◌, ◌<◌, ◌≤◌}
use native.Mathlib.Nat.{add-zero, add_assoc, zero-add}
use native.Mathlib.Omega.{arith}
use lib.Dec.{T}
use lib.ListN.{length, get_or, length-append, get_or-append}
use lib.Seq.{get_or-append-add, ext_get_or}
pub use lib.Ieee.Fits.{and_i as and_in}
use Rattle.words.specs.Words.{Words, word, words_at}
use Rattle.formats.specs.NumberWords.{in_words}
use Rattle.formats.specs.Format.{Format, Stands}
use Rattle.formats.specs.Lawful.{Same, Lawful}

pub words_append : (a b : List ℕ) → Words a → Words b → Words (a ++ b)
words_append [] b p q = q
words_append (x ∷ a) b p q = (p.0, words_append a b p.1 q)

pub stands_at : (w : List ℕ) (at n : ℕ) (ws : List ℕ) → Stands w at (n ∷ ws) → get_or w at 0 ≡ n
stands_at w at n ws h = ap (λ (i : ℕ). get_or w i 0) (sym (add-zero at)) ∙ h 0 (omega arith)

pub stands_front : (w : List ℕ) (at : ℕ) (a b : List ℕ) → Stands w at (a ++ b) → Stands w at a
stands_front w at a b h i l = h i (let e = length-append a b in omega arith) ∙ get_or-append a b 0 i l

pub stands_rest : (w : List ℕ) (at k : ℕ) (a b : List ℕ) → length a ≡ k → Stands w at (a ++ b) → Stands w (at + k) b
stands_rest w at k a b e h i l =
    ap (λ (j : ℕ). get_or w j 0) (let q : at + k + i ≡ at + (length a + i) = omega arith in q)
    ∙ h (length a + i) (let f = length-append a b in omega arith) ∙ get_or-append-add a b i 0

pub stands_both : (w : List ℕ) (at k : ℕ) (a b : List ℕ) → length a ≡ k → Stands w at a → Stands w (at + k) b → Stands w at (a ++ b)
stands_both w at k [] b e p q i l = ap (λ (j : ℕ). get_or w j 0) (let f : at + i ≡ at + k + i = omega arith in f) ∙ q i l
stands_both w at k (x ∷ a) b e p q zero l = p 0 (omega arith)
stands_both w at zero (x ∷ a) b e p q (suc i) l = absurd (omega arith)
stands_both w at (suc k) (x ∷ a) b e p q (suc i) l =
    ap (λ (j : ℕ). get_or w j 0) (let f : at + suc i ≡ at + 1 + i = omega arith in f)
    ∙ stands_both w (at + 1) k a b (omega arith)
    (λ j m. ap (λ (n : ℕ). get_or w n 0) (let f : at + 1 + j ≡ at + suc j = omega arith in f) ∙ p (suc j) (omega arith))
    (λ j m. ap (λ (n : ℕ). get_or w n 0) (let f : at + 1 + k + j ≡ at + suc k + j = omega arith in f) ∙ q j m)
    i (omega arith)

-- a list holds itself, and whatever follows
pub stands_self : (ws t : List ℕ) → Stands (ws ++ t) 0 ws
stands_self ws t i l = ap (λ (j : ℕ). get_or (ws ++ t) j 0) (zero-add i) ∙ get_or-append ws t 0 i l

pub stands_all : (ws : List ℕ) → Stands ws 0 ws
stands_all ws i l = ap (λ (j : ℕ). get_or ws j 0) (zero-add i)

-- word i of a run of bytes
pub word_of_run : (s : List ℕ) (at n i m : ℕ) → i < n → m ≡ at + 4 * i → get_or (words_at s at n) i 0 ≡ word s m
word_of_run s at zero i m h e = absurd (omega arith)
word_of_run s at (suc n) zero m h e = ap (word s) (let q : at ≡ m = omega arith in q)
word_of_run s at (suc n) (suc i) m h e = word_of_run s (at + 4) n i m (omega arith) (omega arith)

-- word i of bytes
pub word_of_bytes : (s : List ℕ) (i : ℕ) → 4 * i + 4 ≤ length s → get_or (in_words s) i 0 ≡ word s (4 * i)
unfolding in_words
word_of_bytes s i h = word_of_run s 0 (length s / 4) i (4 * i) (omega arith) (omega arith)

pub same_at : (v : List ℕ) (a : ℕ) (w : List ℕ) (b k : ℕ) → Same v a w b (suc k) → get_or v a 0 ≡ get_or w b 0
same_at v a w b k h = ap (λ (i : ℕ). get_or v i 0) (sym (add-zero a)) ∙ h 0 (omega arith) ∙ ap (λ (i : ℕ). get_or w i 0) (add-zero b)

pub same_front : (v : List ℕ) (a : ℕ) (w : List ℕ) (b m n : ℕ) → Same v a w b (m + n) → Same v a w b m
same_front v a w b m n h i l = h i (omega arith)

pub same_rest : (v : List ℕ) (a : ℕ) (w : List ℕ) (b m n : ℕ) → Same v a w b (m + n) → Same v (a + m) w (b + m) n
same_rest v a w b m n h i l =
    ap (λ (j : ℕ). get_or v j 0) (add_assoc a m i) ∙ h (m + i) (omega arith) ∙ ap (λ (j : ℕ). get_or w j 0) (sym (add_assoc b m i))

module _ {A : Type 0} (F : Format A) (f : Lawful F) where
  -- a value in range passes the test where its words stand
  pub passes : (x : A) → F.In x → (w : List ℕ) (at : ℕ) → Stands w at (F.put x) → T (F.test w at)
  passes x h w at p = f.exact w at (rw (f.back x h w at p) h) (f.tidy x h w at p)

  -- decode (encode x) is x
  pub round : (x : A) → F.In x → (t : List ℕ) → F.get (F.put x ++ t) 0 ≡ x
  round x h t = f.back x h (F.put x ++ t) 0 (stands_self (F.put x) t)

  -- words that spell a value are its words
  pub spelled : (x : A) (ws : List ℕ) → length ws ≡ F.width → F.Spells ws 0 x → ws ≡ F.put x
  spelled x ws e p =
      ext_get_or 0 ws (F.put x) (e ∙ sym (f.long x))
      (λ i l. ap (λ (j : ℕ). get_or ws j 0) (sym (zero-add i)) ∙ f.spells ws 0 x p i (let g = f.long x in omega arith))
