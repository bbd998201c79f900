-- What is written into the parts of a row. Assumes nothing.
use mathlib.Core.Path.{◌≡◌, refl, sym, ap, ap₂, ◌∙◌}
use mathlib.Core.List.{List, [], ◌∷◌, ◌++◌}
use Prim.Native.Nat.{ℕ, ◌+◌}
use native.Mathlib.Nat.{suc_inj, suc-ne-zero}
use native.Mathlib.Omega.{arith}
use lib.ListN.{length, take, drop, length-drop}
use lib.Seq.{length-take-le}
use lib.Lanes.{put_chunk}

module _ {A : Type 0} where
  -- a vector over all
  pub put_whole : (xs ys : List A) → length xs ≡ length ys → put_chunk 0 xs ys ≡ ys
  put_whole [] [] e = refl
  put_whole [] (y ∷ ys) e = absurd (suc-ne-zero (length ys) (sym e))
  put_whole (x ∷ xs) [] e = absurd (suc-ne-zero (length xs) e)
  put_whole (x ∷ xs) (y ∷ ys) e = ap (λ (t : List A). y ∷ t) (put_whole xs ys (suc_inj e))

  put_behind : (us xs ys : List A) → length xs ≡ length ys → put_chunk (length us) (us ++ xs) ys ≡ us ++ ys
  put_behind [] xs ys e = put_whole xs ys e
  put_behind (u ∷ us) xs ys e = ap (λ (t : List A). u ∷ t) (put_behind us xs ys e)

  -- two vectors, one behind the other
  pub put_both : (xs us vs : List A) (k : ℕ) → length us ≡ k → length xs ≡ k + length vs → put_chunk k (put_chunk 0 (take k xs) us ++ drop k xs) vs ≡ us ++ vs
  put_both xs us vs k e f =
      let a = put_whole (take k xs) us (length-take-le k xs (omega arith) ∙ sym e) in
      ap₂ (λ (n : ℕ) (t : List A). put_chunk n (t ++ drop k xs) vs) (sym e) a ∙ put_behind us (drop k xs) vs (length-drop k xs ∙ omega arith)
