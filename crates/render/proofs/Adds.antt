-- Mixing into the rows, channel by channel: terms mixed one after another add to each channel its own terms, in order. Assumes nothing.
use mathlib.Core.Path.{◌≡◌, refl, sym, ap, subst, ◌∙◌}
use mathlib.Core.Bool.{Bool, true, false, cond}
use mathlib.Core.List.{List, [], ◌∷◌, ◌++◌}
use Prim.Native.Nat.{ℕ, ◌+◌, ◌-◌, ◌*◌, ◌<◌, ◌≤◌}
use native.Mathlib.Omega.{arith}
use borrow.Author.Tests.{eqb-true, eqb-false, ltb-true, ltb-false}
use lib.Dec.{eqb, ltb}
use lib.ListN.{length, get_or, take, drop, length-drop, drop_of_length-le}
use lib.Seq.{take_all, take-nil, get_or-take, get_or-drop, length-take-le}
use lib.Ieee.{Float, nan}
use Rattle.mixing.specs.Mixing.{mixed_full}
use Rattle.mixing.specs.Part.{on_part}
use Rattle.mixing.specs.Sums as sums
use Rattle.mixing.specs.Sums.{plus, total}
use Rattle.mixing.proofs.Theorems.{length_full}
use Rattle.mixing.proofs.Theorems.{full_at, total_append}
use Rattle.mixing.proofs.Parts.{length_part, part_before, part_within, part_past}
use Rattle.panning.specs.Terms.{Term, on_channel}
use Rattle.rules.specs.Mix.{scaled_by}
use Rattle.render.specs.MixedRows.{mixed_term, mixed_terms}

-- `new` is `os` with the terms of `G` added: `G c i` at place i of channel c's row, for the first k places of each row
pub record Adds (k : ℕ) (G : ℕ → ℕ → List sums.Addend) (os new : List Float) : Type 0 where
  pub whole : length new ≡ 768
  pub at : (c i : ℕ) → c < 12 → i < k → get_or new (64 * c + i) nan ≡ total (get_or os (64 * c + i) nan) (G c i)
  pub past : (c i : ℕ) → c < 12 → k ≤ i → i < 64 → get_or new (64 * c + i) nan ≡ get_or os (64 * c + i) nan

-- ---- nothing, one and then another, the same terms

module _ (k : ℕ) where
  pub adds_none : (os : List Float) → length os ≡ 768 → Adds k (λ c i. []) os os
  adds_none os h = record { whole = h; at = λ c i l m. refl; past = λ c i l m o. refl }

  pub adds_then : (G H : ℕ → ℕ → List sums.Addend) (os mid new : List Float) → Adds k G os mid → Adds k H mid new → Adds k (λ c i. G c i ++ H c i) os new
  adds_then G H os mid new g h =
      record {
        whole = h.whole;
        at = λ c i l m. h.at c i l m ∙ ap (λ (s : Float). total s (H c i)) (g.at c i l m) ∙ sym (total_append (G c i) (H c i) (get_or os (64 * c + i) nan));
        past = λ c i l m o. h.past c i l m o ∙ g.past c i l m o;
      }

  pub adds_as : (G H : ℕ → ℕ → List sums.Addend) (os new : List Float) → ((c i : ℕ) → c < 12 → i < k → G c i ≡ H c i) → Adds k G os new → Adds k H os new
  adds_as G H os new e g =
      record { whole = g.whole; at = λ c i l m. g.at c i l m ∙ ap (total (get_or os (64 * c + i) nan)) (e c i l m); past = g.past }

-- a source's terms on channel c, each with the sample x
abbrev pub scaled_on : ℕ → List Term → Float → List sums.Addend
scaled_on c ts x = scaled_by (on_channel c ts) x

-- ---- one term

empty : (ys : List Float) → length ys ≡ 0 → ys ≡ []
empty [] e = refl
empty (y ∷ ys) e = absurd (omega arith)

module _ (xs : List Float) (short : length xs ≤ 64) (t : Term) (os : List Float) (h : length os ≡ 768) where
  -- a channel past the twelve has no row
  outside : 12 ≤ t.channel → mixed_term xs t os ≡ os
  unfolding mixed_term on_part
  outside l =
      let b = 64 * t.channel in
      let n = length xs in
      let m : length os ≤ b = omega arith in
      let d : drop b os ≡ [] = drop_of_length-le os m in
      let f : mixed_full xs t.coefficient [] ≡ [] = empty (mixed_full xs t.coefficient []) (length_full xs t.coefficient []) in
      rw (d, take-nil n, f, lib.Seq.drop-nil n, take_all b os m) (mathlib.Core.List.append-nil os)

  keeps : (ys : List Float) → length (mixed_full xs t.coefficient ys) ≡ length ys
  keeps ys = length_full xs t.coefficient ys

  term_length : length (mixed_term xs t os) ≡ 768
  unfolding mixed_term
  term_length = go (ltb t.channel 12) refl
    where
      go : (b : Bool) → ltb t.channel 12 ≡ b → length (mixed_term xs t os) ≡ 768
      go true e = let l = ltb-true t.channel 12 e in length_part (mixed_full xs t.coefficient) keeps (64 * t.channel) (length xs) os (omega arith) ∙ h
      go false e = ap length (outside (ltb-false t.channel 12 e)) ∙ h

  -- a place that is not in the term's part
  beside : (p : ℕ) → p < 768 → (64 * t.channel ≤ p → 64 * t.channel + length xs ≤ p) → get_or (mixed_term xs t os) p nan ≡ get_or os p nan
  unfolding mixed_term
  beside p l q = go (ltb t.channel 12) refl (ltb p (64 * t.channel)) refl
    where
      go : (b : Bool) → ltb t.channel 12 ≡ b → (d : Bool) → ltb p (64 * t.channel) ≡ d → get_or (mixed_term xs t os) p nan ≡ get_or os p nan
      go false e d f = ap (λ (l : List Float). get_or l p nan) (outside (ltb-false t.channel 12 e))
      go true e true f =
          let m = ltb-true t.channel 12 e in
          part_before (mixed_full xs t.coefficient) keeps (64 * t.channel) (length xs) os (omega arith) p nan (ltb-true p (64 * t.channel) f)
      go true e false f =
          let m = ltb-true t.channel 12 e in
          let r = q (ltb-false p (64 * t.channel) f) in
          let s : 64 * t.channel + (length xs + (p - (64 * t.channel + length xs))) ≡ p = omega arith in
          subst (λ (k : ℕ). get_or (mixed_term xs t os) k nan ≡ get_or os k nan) s
          (part_past (mixed_full xs t.coefficient) keeps (64 * t.channel) (length xs) os (omega arith) (p - (64 * t.channel + length xs)) nan)

  -- a place in it
  within : (i : ℕ) → t.channel < 12 → i < length xs
      → get_or (mixed_term xs t os) (64 * t.channel + i) nan ≡ plus (get_or os (64 * t.channel + i) nan) (record { coef = t.coefficient; sample = get_or xs i nan })
  unfolding mixed_term
  within i m l =
      let b = 64 * t.channel in
      let ys = take (length xs) (drop b os) in
      let w : length xs ≤ length (drop b os) = rw length-drop (omega arith) in
      let e : length ys ≡ length xs = length-take-le (length xs) (drop b os) w in
      part_within (mixed_full xs t.coefficient) keeps b (length xs) os (omega arith) i nan l
      ∙ full_at xs t.coefficient ys i l (omega arith)
      ∙ ap (λ (s : Float). plus s (record { coef = t.coefficient; sample = get_or xs i nan })) (get_or-take (length xs) (drop b os) i nan l ∙ get_or-drop b os i nan)

  pub adds_term : Adds (length xs) (λ c i. scaled_on c (t ∷ []) (get_or xs i nan)) os (mixed_term xs t os)
  unfolding on_channel
  adds_term = record {
    whole = term_length;
    at = λ c i l m. go c i l m (eqb c t.channel) refl;
    past = λ c i l m o. beside (64 * c + i) (omega arith) (λ q. omega arith);
  }
    where
      go : (c i : ℕ) → c < 12 → i < length xs → (b : Bool) → eqb c t.channel ≡ b
          → get_or (mixed_term xs t os) (64 * c + i) nan ≡ total (get_or os (64 * c + i) nan) (scaled_by (cond b (t.coefficient ∷ []) []) (get_or xs i nan))
      go c i l m true e =
          let q : t.channel ≡ c = sym (eqb-true c t.channel e) in
          subst (λ (d : ℕ). get_or (mixed_term xs t os) (64 * d + i) nan ≡ plus (get_or os (64 * d + i) nan) (record { coef = t.coefficient; sample = get_or xs i nan })) q
          (within i (omega arith) m)
      go c i l m false e =
          let q = eqb-false c t.channel e in
          beside (64 * c + i) (omega arith) (λ r. omega arith)

-- ---- the terms of a source

scaled_cons : (c : ℕ) (t : Term) (ts : List Term) (x : Float) → scaled_on c (t ∷ []) x ++ scaled_on c ts x ≡ scaled_on c (t ∷ ts) x
unfolding on_channel
scaled_cons c t ts x = go (eqb c t.channel)
  where
    go : (b : Bool) → scaled_by (cond b (t.coefficient ∷ []) []) x ++ scaled_on c ts x ≡ scaled_by (cond b (t.coefficient ∷ on_channel c ts) (on_channel c ts)) x
    go true = refl
    go false = refl

pub adds_terms : (xs : List Float) → length xs ≤ 64 → (ts : List Term) (os : List Float) → length os ≡ 768
    → Adds (length xs) (λ c i. scaled_on c ts (get_or xs i nan)) os (mixed_terms xs ts os)
unfolding on_channel
adds_terms xs short [] os h = adds_none (length xs) os h
adds_terms xs short (t ∷ ts) os h =
    let a = adds_term xs short t os h in
    adds_as (length xs) (λ c i. scaled_on c (t ∷ []) (get_or xs i nan) ++ scaled_on c ts (get_or xs i nan)) (λ c i. scaled_on c (t ∷ ts) (get_or xs i nan)) os (mixed_terms xs (t ∷ ts) os)
    (λ c i l m. scaled_cons c t ts (get_or xs i nan))
    (adds_then (length xs) (λ c i. scaled_on c (t ∷ []) (get_or xs i nan)) (λ c i. scaled_on c ts (get_or xs i nan)) os (mixed_term xs t os) (mixed_terms xs ts (mixed_term xs t os)) a
    (adds_terms xs short ts (mixed_term xs t os) a.whole))
