-- An array made by a call for each index, and a table stored entry by entry. Assumes nothing.
use denote.Param.Members.{Called, Mut}
use mathlib.Core.Path.{◌≡◌, sym, ap, ap₂, subst, ◌∙◌}
use mathlib.Core.List.{List, [], ◌∷◌, ◌++◌, append_assoc, append-nil}
use Prim.Native.Nat.{ℕ, zero, suc, ◌+◌, ◌*◌, ◌<◌}
use native.Mathlib.Nat.{mul_comm}
use native.Mathlib.Omega.{arith}
use lib.ListN.{length, get_or, drop}
use lib.Seq.{drop-cons, drop-length}
use Rattle.std.specs.Array.{IsFromFnResultFrom, IsFromFnResult}
use Rattle.words.specs.Words.{with_words}
use Rattle.formats.specs.Format.{Format, puts, gets, array}
use Rattle.formats.specs.Lawful.{Lawful}
use Rattle.formats.proofs.Theorems.{lawful_array, runs_at}

module _ {F A : Type 0} (g : Mut F (ℕ × Unit {0}) A) (h : ℕ → A) (k at : ℕ) (f : F)
    (gives : (i : ℕ) (y : A) (q : F) → Called g f (i, tt) y q → (q ≡ f) × (y ≡ h (at + k * i))) where
  each : (ys : List A) (i n : ℕ) → i + n ≡ length ys → IsFromFnResultFrom g f ys i n → drop i ys ≡ gets h k n (at + k * i)
  unfolding gets
  each ys i zero e r = ap (λ (m : ℕ). drop m ys) (let l : i ≡ length ys = omega arith in l) ∙ drop-length ys
  each ys i (suc n) e r =
      let c = gives i r.1 r.0 r.3 in
      let l : i < length ys = omega arith in
      let p : suc i ≡ i + 1 = omega arith in
      let m : at + k * (i + 1) ≡ at + k * i + k = omega arith in
      drop-cons ys i r.1 l
      ∙ ap₂ (λ (y : A) (t : List A). y ∷ t) (r.2.0 ∙ c.1)
      (ap (λ (j : ℕ). drop j ys) p ∙ each ys (i + 1) n (omega arith) (subst (λ (q : F). IsFromFnResultFrom g q ys (i + 1) n) c.0 r.4)
      ∙ ap (gets h k n) m)

  pub made_gets : (ys : List A) (n : ℕ) → IsFromFnResult g f ys n → ys ≡ gets h k n at
  made_gets ys n r =
      let m : at + k * 0 ≡ at = omega arith in
      each ys 0 n (let l = r.long in omega arith) r.each ∙ ap (gets h k n) m

-- ---- a table stored from the front

module _ {A : Type 0} (F : Format A) (f : Lawful F) where
  puts_next : (d : A) (i : ℕ) (xs : List A) → i < length xs → puts F.put F.width (suc i) xs ≡ puts F.put F.width i xs ++ F.put (get_or xs i d)
  unfolding puts
  puts_next d i [] h = absurd (omega arith)
  puts_next d zero (x ∷ xs) h = append-nil (F.put x)
  puts_next d (suc i) (x ∷ xs) h =
      ap (λ (t : List ℕ). F.put x ++ t) (puts_next d i xs (omega arith)) ∙ sym (append_assoc (F.put x) (puts F.put F.width i xs) (F.put (get_or xs i d)))

  -- a turn: s before it, t after it
  pub put_next : (d : A) (s₀ s t : List ℕ) (at i m : ℕ) (xs : List A) → i < length xs → m ≡ at + 4 * (F.width * i)
      → s ≡ with_words s₀ at ((array i F).put xs) → t ≡ with_words s m (F.put (get_or xs i d)) → t ≡ with_words s₀ at ((array (i + 1) F).put xs)
  put_next d s₀ s t at i m xs h e b n =
      let x = F.put (get_or xs i d) in
      let r = (array i F).put xs in
      let k : length r ≡ F.width * i = (lawful_array F f i).long xs ∙ mul_comm i F.width in
      let p : suc i ≡ i + 1 = omega arith in
      n ∙ (λ j. with_words (b j) (e j) x) ∙ runs_at s₀ at (F.width * i) r x k
      ∙ ap (with_words s₀ at) (sym (puts_next d i xs h) ∙ ap (λ (j : ℕ). (array j F).put xs) p)
