-- The laws of two formats together, of n, and of the same words as another type. Assumes nothing.
use mathlib.Core.Path.{◌≡◌, refl, sym, ap, ap₂, subst, ◌∙◌}
use mathlib.Core.Bool.{Bool, ◌&&◌}
use mathlib.Core.List.{List, [], ◌∷◌, ◌++◌}
use Prim.Native.Nat.{ℕ, zero, suc, ◌+◌, ◌*◌}
use native.Mathlib.Nat.{zero-mul}
use native.Mathlib.Omega.{arith}
use lib.Dec.{T}
use lib.Ieee.Fits.{and_l, and_r}
use lib.ListN.{length, replicate, length-append, length-replicate}
use Rattle.ieee.specs.Bounds.{All}
use Rattle.words.specs.Words.{Words}
use Rattle.formats.specs.Format.{Format, Stands, ◌⊗◌, puts, gets, all_at, EachAt, array, struct, ranged, such}
use Rattle.formats.specs.Lawful.{Same, Lawful}
use Rattle.formats.proofs.Places.{and_in, words_append, stands_front, stands_rest, stands_both, same_front, same_rest}

-- ---- two together

pub lawful_pair : {A B : Type 0} (F : Format A) (G : Format B) → Lawful F → Lawful G → Lawful (F ⊗ G)
lawful_pair {A} {B} F G f g =
    record {
      long = λ x. length-append (F.put x.0) (G.put x.1) ∙ ap₂ (λ (m n : ℕ). m + n) (f.long x.0) (g.long x.1);
      words = λ x h. words_append (F.put x.0) (G.put x.1) (f.words x.0 h.0) (g.words x.1 h.1);
      back = λ x h w at s. λ i. (f.back x.0 h.0 w at (front x w at s) i, g.back x.1 h.1 w (at + F.width) (rest x w at s) i);
      tidy = λ x h w at s. (f.tidy x.0 h.0 w at (front x w at s), g.tidy x.1 h.1 w (at + F.width) (rest x w at s));
      within = λ w at t. (f.within w at (and_l (F.test w at) (G.test w (at + F.width)) t), g.within w (at + F.width) (and_r (F.test w at) (G.test w (at + F.width)) t));
      plain = λ w at t. (f.plain w at (and_l (F.test w at) (G.test w (at + F.width)) t), g.plain w (at + F.width) (and_r (F.test w at) (G.test w (at + F.width)) t));
      exact = λ w at h c. and_in (F.test w at) (G.test w (at + F.width)) (f.exact w at h.0 c.0) (g.exact w (at + F.width) h.1 c.1);
      beside = λ v a w b s. λ i.
          (f.beside v a w b (same_front v a w b F.width G.width s) i, g.beside v (a + F.width) w (b + F.width) (same_rest v a w b F.width G.width s) i);
      untouched = λ v a w b s.
          ap₂ ◌&&◌ (f.untouched v a w b (same_front v a w b F.width G.width s)) (g.untouched v (a + F.width) w (b + F.width) (same_rest v a w b F.width G.width s));
      reads = λ w at x e. λ i. (f.reads w at x.0 e.0 i, g.reads w (at + F.width) x.1 e.1 i);
      spells = λ w at x e. stands_both w at F.width (F.put x.0) (G.put x.1) (f.long x.0) (f.spells w at x.0 e.0) (g.spells w (at + F.width) x.1 e.1);
    }
  where
    front : (x : A × B) (w : List ℕ) (at : ℕ) → Stands w at (F.put x.0 ++ G.put x.1) → Stands w at (F.put x.0)
    front x w at s = stands_front w at (F.put x.0) (G.put x.1) s

    rest : (x : A × B) (w : List ℕ) (at : ℕ) → Stands w at (F.put x.0 ++ G.put x.1) → Stands w (at + F.width) (G.put x.1)
    rest x w at s = stands_rest w at F.width (F.put x.0) (G.put x.1) (f.long x.0) s

-- ---- n

module _ {A : Type 0} (F : Format A) (f : Lawful F) where
  abbrev K : ℕ
  K = F.width

  abbrev P : ℕ → List A → List ℕ
  P = puts F.put K

  abbrev G : List ℕ → ℕ → ℕ → List A
  G w = gets (F.get w) K

  puts_long : (n : ℕ) (xs : List A) → length (P n xs) ≡ n * K
  unfolding puts
  puts_long zero xs = sym (zero-mul K)
  puts_long (suc n) [] = length-append (replicate K 0) (P n []) ∙ ap₂ (λ (a b : ℕ). a + b) (length-replicate {A = ℕ} K 0) (puts_long n []) ∙ sym (more n)
    where
      more : (m : ℕ) → suc m * K ≡ K + m * K
      more m = let e : suc m * K ≡ K + m * K = omega arith in e
  puts_long (suc n) (x ∷ xs) = length-append (F.put x) (P n xs) ∙ (let a = f.long x in let b = puts_long n xs in omega arith)

  puts_words : (n : ℕ) (xs : List A) → length xs ≡ n → All F.In xs → Words (P n xs)
  unfolding puts
  puts_words zero xs e h = tt
  puts_words (suc n) [] e h = absurd (omega arith)
  puts_words (suc n) (x ∷ xs) e h = words_append (F.put x) (P n xs) (f.words x h.0) (puts_words n xs (omega arith) h.1)

  gets_back : (n : ℕ) (xs : List A) → length xs ≡ n → All F.In xs → (w : List ℕ) (at : ℕ) → Stands w at (P n xs) → G w n at ≡ xs
  unfolding puts gets
  gets_back zero [] e h w at s = refl
  gets_back zero (x ∷ xs) e h w at s = absurd (omega arith)
  gets_back (suc n) [] e h w at s = absurd (omega arith)
  gets_back (suc n) (x ∷ xs) e h w at s =
      ap₂ (λ (y : A) (ys : List A). y ∷ ys) (f.back x h.0 w at (stands_front w at (F.put x) (P n xs) s))
      (gets_back n xs (omega arith) h.1 w (at + K) (stands_rest w at K (F.put x) (P n xs) (f.long x) s))

  each_tidy : (n : ℕ) (xs : List A) → length xs ≡ n → All F.In xs → (w : List ℕ) (at : ℕ) → Stands w at (P n xs) → EachAt (F.Plain w) K n at
  unfolding puts EachAt
  each_tidy zero xs e h w at s = tt
  each_tidy (suc n) [] e h w at s = absurd (omega arith)
  each_tidy (suc n) (x ∷ xs) e h w at s =
      (f.tidy x h.0 w at (stands_front w at (F.put x) (P n xs) s), each_tidy n xs (omega arith) h.1 w (at + K) (stands_rest w at K (F.put x) (P n xs) (f.long x) s))

  pub gets_long : (w : List ℕ) (n at : ℕ) → length (G w n at) ≡ n
  unfolding gets
  gets_long w zero at = refl
  gets_long w (suc n) at = ap suc (gets_long w n (at + K))

  all_within : (w : List ℕ) (n at : ℕ) → T (all_at (F.test w) K n at) → All F.In (G w n at)
  unfolding gets all_at
  all_within w zero at t = tt
  all_within w (suc n) at t =
      let p = F.test w at in
      let q = all_at (F.test w) K n (at + K) in
      (f.within w at (and_l p q t), all_within w n (at + K) (and_r p q t))

  all_plain : (w : List ℕ) (n at : ℕ) → T (all_at (F.test w) K n at) → EachAt (F.Plain w) K n at
  unfolding EachAt all_at
  all_plain w zero at t = tt
  all_plain w (suc n) at t =
      let p = F.test w at in
      let q = all_at (F.test w) K n (at + K) in
      (f.plain w at (and_l p q t), all_plain w n (at + K) (and_r p q t))

  all_exact : (w : List ℕ) (n at : ℕ) → All F.In (G w n at) → EachAt (F.Plain w) K n at → T (all_at (F.test w) K n at)
  unfolding gets EachAt all_at
  all_exact w zero at h c = tt
  all_exact w (suc n) at h c = and_in (F.test w at) (all_at (F.test w) K n (at + K)) (f.exact w at h.0 c.0) (all_exact w n (at + K) h.1 c.1)

  split : (n : ℕ) (v : List ℕ) (a : ℕ) (w : List ℕ) (b : ℕ) → Same v a w b (suc n * K) → Same v a w b (K + n * K)
  split n v a w b s i l = s i (omega arith)

  gets_beside : (n : ℕ) (v : List ℕ) (a : ℕ) (w : List ℕ) (b : ℕ) → Same v a w b (n * K) → G v n a ≡ G w n b
  unfolding gets
  gets_beside zero v a w b s = refl
  gets_beside (suc n) v a w b s =
      let t = split n v a w b s in
      ap₂ (λ (y : A) (ys : List A). y ∷ ys) (f.beside v a w b (same_front v a w b K (n * K) t)) (gets_beside n v (a + K) w (b + K) (same_rest v a w b K (n * K) t))

  all_untouched : (n : ℕ) (v : List ℕ) (a : ℕ) (w : List ℕ) (b : ℕ) → Same v a w b (n * K) → all_at (F.test v) K n a ≡ all_at (F.test w) K n b
  unfolding all_at
  all_untouched zero v a w b s = refl
  all_untouched (suc n) v a w b s =
      let t = split n v a w b s in
      ap₂ ◌&&◌ (f.untouched v a w b (same_front v a w b K (n * K) t)) (all_untouched n v (a + K) w (b + K) (same_rest v a w b K (n * K) t))

  pub lawful_array : (n : ℕ) → Lawful (array n F)
  lawful_array n =
      record {
        long = puts_long n;
        words = λ xs h. puts_words n xs h.count h.each;
        back = λ xs h. gets_back n xs h.count h.each;
        tidy = λ xs h. each_tidy n xs h.count h.each;
        within = λ w at t. record { count = gets_long w n at; each = all_within w n at t };
        plain = λ w at t. all_plain w n at t;
        exact = λ w at h c. all_exact w n at h.each c;
        beside = gets_beside n;
        untouched = all_untouched n;
        reads = λ w at xs e. e;
        spells = λ w at xs e. e;
      }

-- ---- the same words

pub lawful_struct : {A B : Type 0} (to : A → B) (from : B → A) (F : Format B) → ((x : A) → from (to x) ≡ x) → ((y : B) → to (from y) ≡ y) → Lawful F → Lawful (struct to from F)
lawful_struct {A} {B} to from F one two f =
    record {
      long = λ x. f.long (to x);
      words = λ x h. f.words (to x) h;
      back = λ x h w at s. ap from (f.back (to x) h w at s) ∙ one x;
      tidy = λ x h w at s. f.tidy (to x) h w at s;
      within = λ w at t. subst F.In (sym (two (F.get w at))) (f.within w at t);
      plain = λ w at t. f.plain w at t;
      exact = λ w at h c. f.exact w at (subst F.In (two (F.get w at)) h) c;
      beside = λ v a w b s. ap from (f.beside v a w b s);
      untouched = λ v a w b s. f.untouched v a w b s;
      reads = λ w at x e. sym (one x) ∙ ap from (f.reads w at (to x) e);
      spells = λ w at x e. f.spells w at (to x) e;
    }

pub lawful_ranged : {A : Type 0} (P : A → Type 0) (F : Format A) → ((x : A) → P x → F.In x) → ((x : A) → F.In x → P x) → Lawful F → Lawful (ranged P F)
lawful_ranged P F one two f =
    record {
      long = f.long;
      words = λ x h. f.words x (one x h);
      back = λ x h. f.back x (one x h);
      tidy = λ x h. f.tidy x (one x h);
      within = λ w at t. two (F.get w at) (f.within w at t);
      plain = f.plain;
      exact = λ w at h c. f.exact w at (one (F.get w at) h) c;
      beside = f.beside;
      untouched = f.untouched;
      reads = f.reads;
      spells = f.spells;
    }

pub lawful_such : {A : Type 0} (p : A → Bool) (F : Format A) → Lawful F → Lawful (such p F)
lawful_such p F f =
    record {
      long = f.long;
      words = λ x h. f.words x h.0;
      back = λ x h. f.back x h.0;
      tidy = λ x h. f.tidy x h.0;
      within = λ w at t. (f.within w at (and_l (F.test w at) (p (F.get w at)) t), and_r (F.test w at) (p (F.get w at)) t);
      plain = λ w at t. f.plain w at (and_l (F.test w at) (p (F.get w at)) t);
      exact = λ w at h c. and_in (F.test w at) (p (F.get w at)) (f.exact w at h.0 c) h.1;
      beside = f.beside;
      untouched = λ v a w b s. ap₂ ◌&&◌ (f.untouched v a w b s) (ap p (f.beside v a w b s));
      reads = f.reads;
      spells = f.spells;
    }
