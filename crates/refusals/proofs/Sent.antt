-- The updates of metadata one after the other: 11 for those at a time, and the shape after them. Assumes nothing.
use Prim.Native.Nat.{ℕ, zero, suc, ◌+◌, ◌-◌, ◌<◌, ◌≤◌}
use mathlib.Core.Path.{◌≡◌, refl, sym, ap, ◌∙◌}
use mathlib.Core.Bool.{true, cond}
use mathlib.Core.List.{List, [], ◌∷◌, ◌++◌, map}
use lib.Dec.{eqb}
use lib.ListN.{length, get_or, take, drop, drop_of_length-le}
use lib.Seq.{drop-cons}
use native.Mathlib.Nat.{le_of_suc-le-suc}
use native.Mathlib.Numerals.{add-one}
use native.Mathlib.Omega.{arith}
use Rattle.std.specs.Prelude.{Ok, Err}
use Rattle.fields.specs.Update.{objects, bed_or_isf_of, beds, code}
use Rattle.records.specs.Runs.{each}
use Rattle.records.specs.Laid.{update_at}
use Rattle.records.specs.LayoutAnswers.{offset_at}
use Rattle.records.specs.declared.metadata.Metadata.{Metadata}
use Rattle.records.proofs.Theorems.{each_length, each_at}
use Rattle.rules.specs.Leaves.{Shape}
use Rattle.rules.specs.Refusals.{Found, clear, stop, ◌then◌, Announced, counts_at, shape_at}
use Rattle.updates.specs.Said.{update_of}
use Rattle.updates.specs.Applied.{codes_given}
use Rattle.theorem.specs.Instance as theorem
use Rattle.theorem.proofs.TimedShapes.{each_same, codes_are}
use Rattle.refusals.specs.RefusalNumbers.{stop_of}
use Rattle.refusals.specs.declared.Refusal.{Refusal}
use Rattle.refusals.specs.declared.present.Present.{Present}
use Rattle.refusals.specs.PresentShape.{told_by, said_shape, present_shape}
use Rattle.refusals.specs.FirstFound.{IsAfter, IsEleven, matched}
use Rattle.refusals.proofs.First.{chain_stops, chain_passes}

-- the first n of a list, by their places
pub take_each : (l : List ℕ) (n : ℕ) → n ≤ length l → take n l ≡ each (λ k. get_or l k 0) n
unfolding each
take_each l zero h = refl
take_each [] (suc n) h = absurd (omega arith)
take_each (x ∷ l) (suc n) h = ap (λ (r : List ℕ). x ∷ r) (take_each l n (le_of_suc-le-suc h))

-- ---- the updates by their numbers

map_each : {A B : Type 0} (g : A → B) (f : ℕ → A) (n : ℕ) → map g (each f n) ≡ each (λ k. g (f k)) n
unfolding each
map_each g f zero = refl
map_each g f (suc n) = ap (λ l. g (f 0) ∷ l) (map_each g (λ k. f (suc k)) n)

-- update i, as it is placed
abbrev pub told : Metadata → ℕ → Announced
told m i = record { offset = offset_at m.layout i; shape = said_shape m.records.now (update_at m.records.now i) }

pub told_each : (m : Metadata) → told_by m ≡ each (told m) m.layout.count
told_each m =
    map_each (λ (u : theorem.Sent). record { offset = (theorem.hall).offset u; shape = (theorem.hall).sent u })
    (λ i. record { offset = offset_at m.layout i; said = update_of m.records.now (update_at m.records.now i) }) m.layout.count

told_length : (m : Metadata) → length (told_by m) ≡ m.layout.count
told_length m = ap (length {A = Announced}) (told_each m) ∙ each_length (told m) m.layout.count

told_from : (m : Metadata) (i : ℕ) → i < m.layout.count → drop i (told_by m) ≡ told m i ∷ drop (i + 1) (told_by m)
told_from m i l =
    let long = told_length m in
    let at : get_or (told_by m) i (told m 0) ≡ told m i =
    ap (λ (us : List Announced). get_or us i (told m 0)) (told_each m) ∙ each_at (told m) m.layout.count i (told m 0) l in
    drop-cons (told_by m) i (told m 0) (omega arith) ∙ rw (at, add-one)

told_end : (m : Metadata) (i : ℕ) → m.layout.count ≤ i → drop i (told_by m) ≡ []
told_end m i l = let long = told_length m in drop_of_length-le (told_by m) {i = i} (omega arith)

-- ---- those of two lists are those of one, then of the other

then_more : (f x y z : Found) → (x then y) ≡ z → ((f then x) then y) ≡ (f then z)
then_more clear x y z e = e
then_more (stop k a b) x y z e = refl

module _ (us : List Announced) (n : ℕ) (codes : List ℕ) (t : ℕ) where
  pub counts_both : (xs ys : List Announced) → (counts_at us n codes t xs then counts_at us n codes t ys) ≡ counts_at us n codes t (xs ++ ys)
  counts_both [] ys = refl
  counts_both (x ∷ xs) ys = then_more (cond (eqb x.offset t) (matched x.shape.objects n) clear) _ _ _ (counts_both xs ys)

  pub shape_both : (xs ys : List Announced) (s : Shape) → shape_at us n codes t ys (shape_at us n codes t xs s) ≡ shape_at us n codes t (xs ++ ys) s
  shape_both [] ys s = refl
  shape_both (x ∷ xs) ys s = shape_both xs ys (cond (eqb x.offset t) x.shape s)

-- ---- 11 for those at t

module _ (m : Metadata) (n t : ℕ) where
  -- 11 for update i
  abbrev pub refused_at : ℕ → Found
  refused_at i = cond (eqb (told m i).offset t) (matched (told m i).shape.objects n) clear

  -- nothing was found before update i
  abbrev pub CountsFrom : ℕ → Type 0
  CountsFrom i = (us : List Announced) (codes : List ℕ) → counts_at us n codes t (drop i (told_by m)) ≡ counts_at us n codes t (told_by m)

  counts_step : (i : ℕ) → i < m.layout.count → CountsFrom i → (us : List Announced) (codes : List ℕ) →
      (refused_at i then counts_at us n codes t (drop (i + 1) (told_by m))) ≡ counts_at us n codes t (told_by m)
  counts_step i l h us codes = ap (counts_at us n codes t) (sym (told_from m i l)) ∙ h us codes

  module _ (i : ℕ) (l : i < m.layout.count) (h : CountsFrom i) where
    pub counts_stop : (r : Refusal) → stop_of r ≡ refused_at i → IsEleven m n t (Err r)
    counts_stop r is = record { is = λ us codes. chain_stops (refused_at i) _ _ (counts_step i l h us codes) r is }

    pub counts_go : clear ≡ refused_at i → CountsFrom (i + 1)
    counts_go is us codes = chain_passes (refused_at i) _ _ (counts_step i l h us codes) is

  pub counts_end : (i : ℕ) → m.layout.count ≤ i → CountsFrom i → IsEleven m n t (Ok tt)
  counts_end i l h = record { is = λ us codes. ap (counts_at us n codes t) (sym (told_end m i l)) ∙ h us codes }

-- ---- the shape after those at t

module _ (m : Metadata) (t : ℕ) (p : Present) where
  -- q is the shape before update i
  abbrev pub ShapeFrom : ℕ → Present → Type 0
  ShapeFrom i q = (us : List Announced) (n : ℕ) (codes : List ℕ) →
      shape_at us n codes t (drop i (told_by m)) (present_shape q) ≡ shape_at us n codes t (told_by m) (present_shape p)

  pub shape_go : (i : ℕ) (q r : Present) → i < m.layout.count → ShapeFrom i q →
      present_shape r ≡ cond (eqb (told m i).offset t) (told m i).shape (present_shape q) → ShapeFrom (i + 1) r
  shape_go i q r l h e us n codes =
      ap (shape_at us n codes t (drop (i + 1) (told_by m))) e
      ∙ ap (λ (vs : List Announced). shape_at us n codes t vs (present_shape q)) (sym (told_from m i l)) ∙ h us n codes

  pub shape_end : (i : ℕ) (q : Present) → m.layout.count ≤ i → ShapeFrom i q → IsAfter m t p q
  shape_end i q l h = record { is = λ us n codes. ap (λ (vs : List Announced). shape_at us n codes t vs (present_shape q)) (sym (told_end m i l)) ∙ h us n codes }

-- the shape after the updates at t of two lists
pub after_both : (k m : Metadata) (t : ℕ) (p q r : Present) → IsAfter k t p q → IsAfter m t q r → (us : List Announced) (n : ℕ) (codes : List ℕ)
    → present_shape r ≡ shape_at us n codes t (told_by k ++ told_by m) (present_shape p)
after_both k m t p q r a b us n codes =
    b.is us n codes ∙ ap (shape_at us n codes t (told_by m)) (a.is us n codes) ∙ shape_both us n codes t (told_by k) (told_by m) (present_shape p)

-- ---- what is read of an update's record

pub said_present : (m : List ℕ) (u d n : ℕ) (cs zs : List ℕ) →
    d ≡ objects m u - bed_or_isf_of m u → n ≡ beds m u → (few : n ≤ 18) → cs ≡ codes_given (update_of m u) zs → length zs ≡ 18 →
    present_shape (record { started = true; objects = d; beds = n; codes = cs; few = few }) ≡ said_shape m u
said_present m u d n cs zs a b few e long =
    let most : beds m u ≤ 18 = rw b at few in
    rw (a, b, e)
    (ap (λ (l : List ℕ). record { started = true; objects = objects m u - bed_or_isf_of m u; beds = l })
    (each_same (λ k. get_or (codes_given (update_of m u) zs) k 0) (code m u) (beds m u) (λ k l. codes_are (update_of m u) zs k long (omega arith))))
