-- Twelve rows of 64 places that are filled one after another, each with k samples at its start. Assumes nothing.
use mathlib.Core.Path.{◌≡◌, refl, sym, ap, subst, ◌∙◌}
use mathlib.Core.Bool.{Bool, true, false}
use mathlib.Core.List.{List}
use Prim.Native.Nat.{ℕ, ◌+◌, ◌-◌, ◌*◌, ◌<◌, ◌≤◌}
use native.Mathlib.Omega.{arith}
use native.Mathlib.Nat.{not-suc-le-zero}
use borrow.Author.Tests.{ltb-true, ltb-false}
use borrow.Rule.Slice.PartMut.{put_mid, mid_of, mid_len, same_len_mid}
use lib.Dec.{ltb}
use lib.ListN.{length, get_or, take, drop, get_or-replicate}
use lib.Seq.{get_or-take, get_or-drop}
use lib.Ieee.{Float, nan}
use Rattle.std.proofs.lemmas.List.{drop-take}
use Rattle.std.proofs.lemmas.Slice.{take-put_mid_below, drop-put_mid, between-put_mid}
use Rattle.formats.specs.Areas.{place_count}
use Rattle.rules.specs.Parts.{0·0}
use Rattle.render.specs.Run.{silent_rows}
use Rattle.render.proofs.HeardRows.{silent_long}

-- the first j rows start with their samples, and behind its k samples each row is +0.0
pub record Filled (xs : ℕ → List Float) (k j : ℕ) (rows : List Float) : Type 0 where
  pub whole : length rows ≡ 768
  pub columns : (c : ℕ) → c < j → take k (drop (64 * c) rows) ≡ xs c
  pub rest : (c i : ℕ) → c < 12 → k ≤ i → i < 64 → get_or rows (64 * c + i) nan ≡ 0·0

module _ (xs : ℕ → List Float) (k : ℕ) where
  pub filled_none : Filled xs k 0 silent_rows
  unfolding silent_rows
  filled_none = record {
    whole = silent_long;
    columns = λ c l. absurd (not-suc-le-zero l);
    rest = λ c i l a b. get_or-replicate place_count (64 * c + i) 0·0 nan (omega arith);
  }

  -- one row more: its part was lent, and came back with its samples
  module _ (j : ℕ) (rows : List Float) (short : k ≤ 64) (here : j < 12) (f : Filled xs k j rows) where
    abbrev at : ℕ
    at = 64 * j

    abbrev size : ℕ
    size = at + k - at

    pub lent : length (mid_of at size rows) ≡ k
    lent = let w = f.whole in let l = mid_len at (at + k) rows (omega arith) in omega arith

    module _ (ys : List Float) (e : ys ≡ xs j) (long : length ys ≡ k) where
      new : List Float
      new = put_mid at size rows ys

      -- before the part, and behind it
      before : take at new ≡ take at rows
      unfolding new
      before = let w = f.whole in take-put_mid_below at size rows ys at (omega arith) (omega arith)

      behind : drop (at + k) new ≡ drop (at + k) rows
      unfolding new
      behind = let w = f.whole in drop-put_mid at size rows ys (at + k) (omega arith) (omega arith) (omega arith)

      earlier : (c : ℕ) → c < j → take k (drop (64 * c) new) ≡ take k (drop (64 * c) rows)
      unfolding new
      earlier c l =
          let w = f.whole in
          sym (drop-take (64 * c) k new)
          ∙ ap (drop (64 * c)) (take-put_mid_below at size rows ys (64 * c + k) (omega arith) (omega arith))
          ∙ drop-take (64 * c) k rows

      same : take k (drop at new) ≡ xs j
      unfolding new
      same =
          let w = f.whole in
          let m : size ≡ k = omega arith in
          subst (λ (n : ℕ). take n (drop at new) ≡ xs j) m (between-put_mid at size rows ys (at + k) (omega arith) (omega arith) ∙ e)

      column : (c : ℕ) → c < j + 1 → take k (drop (64 * c) new) ≡ xs c
      column c l = go (ltb c j) refl
        where
          go : (b : Bool) → ltb c j ≡ b → take k (drop (64 * c) new) ≡ xs c
          go true p = let m = ltb-true c j p in earlier c m ∙ f.columns c m
          go false p =
              let m = ltb-false c j p in
              let q : j ≡ c = omega arith in
              subst (λ (d : ℕ). take k (drop (64 * d) new) ≡ xs d) q same

      kept : (p : ℕ) → (at ≤ p → at + k ≤ p) → get_or new p nan ≡ get_or rows p nan
      kept p out = go (ltb p at) refl
        where
          go : (b : Bool) → ltb p at ≡ b → get_or new p nan ≡ get_or rows p nan
          go true q =
              let l = ltb-true p at q in
              sym (get_or-take at new p nan l) ∙ ap (λ (l : List Float). get_or l p nan) before ∙ get_or-take at rows p nan l
          go false q =
              let l = out (ltb-false p at q) in
              let s : at + k + (p - (at + k)) ≡ p = omega arith in
              subst (λ (m : ℕ). get_or new m nan ≡ get_or rows m nan) s
              (sym (get_or-drop (at + k) new (p - (at + k)) nan)
              ∙ ap (λ (l : List Float). get_or l (p - (at + k)) nan) behind
              ∙ get_or-drop (at + k) rows (p - (at + k)) nan)

      pub filled_more : Filled xs k (j + 1) (put_mid at size rows ys)
      unfolding new
      filled_more = record {
        whole = same_len_mid at size rows ys (long ∙ sym lent) ∙ f.whole;
        columns = column;
        rest = λ c i l a b. kept (64 * c + i) (λ m. omega arith) ∙ f.rest c i l a b;
      }
