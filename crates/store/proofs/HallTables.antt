-- Hall tables: read word by word, their places, and which is the built-in one. Assumes nothing.
use mathlib.Core.Path.{◌≡◌, refl, sym, ap, subst, ◌∙◌}
use mathlib.Core.Bool.{Bool, true, false, not, ◌&&◌}
use mathlib.Core.List.{List, ◌∷◌}
use Prim.Native.Nat.{ℕ, zero, suc, ◌+◌, ◌*◌, ◌<◌, ◌≤◌}
use native.Mathlib.Nat.{add-zero}
use native.Mathlib.Omega.{arith}
use borrow.Author.Tests.{ltb-true, ltb-false, eqb-true, ne_eqb}
use lib.Dec.{eqb, ltb, lit≤}
use lib.ListN.{length, get_or}
use lib.Ieee.{nan}
use Rattle.std.proofs.Common.{add-one, cond}
use Rattle.std.specs.Option.{is_some}
use Rattle.std.specs.declared.option.Option.{Option}
use Rattle.std.specs.declared.option.Option.TheVariants.{None, Some}
use Rattle.std.proofs.lemmas.List.{ext_get_or}
use Rattle.words.specs.Words.{word, words_at}
use Rattle.formats.specs.Format.{gets}
use Rattle.formats.specs.NumberWords.{bit}
use Rattle.formats.proofs.Theorems.{entry_read, and_true, and_false}
use Rattle.panning.proofs.Theorems.{right_parts, read_places}
use Rattle.rules.proofs.Theorems.{and_true as both}
use Rattle.vectors.specs.declared.Vec3.{Vec3}
use Rattle.corners.specs.Axes.{place_among}
use Rattle.panning.specs.declared.table.TableFault.{TableFault}
use Rattle.panning.specs.declared.table.TableFault.TheVariants.{Coordinate, SamePlaces}
use Rattle.panning.specs.Fault.{fault_of}
use Rattle.panning.specs.Setup.{table_place, all_inside, all_apart, table_right, table_of, built_in_table, hall_with}
use Rattle.panning.specs.Speakers.{positions714}
use Rattle.store.specs.FieldPlaces.{table_at, table_count}
use Rattle.store.specs.Layout.{layout_of, table_in, setup_in}
use Rattle.store.proofs.Decoded.{words_long}
use Rattle.store.specs.HallTables.{equal_below}

-- words read one after another
pub words_gets : (s : List ℕ) (n at : ℕ) → gets (word s) 4 n at ≡ words_at s at n
unfolding gets
words_gets s zero at = refl
words_gets s (suc n) at = ap (λ (t : List ℕ). word s at ∷ t) (words_gets s n (at + 4))

-- the places of a table, read channel by channel
pub places_read : (vs : List Vec3) (t : List ℕ) → length vs ≡ 12 → length t ≡ table_count → vs ≡ gets (table_place t) 1 12 0 → place_among vs ≡ table_place t
places_read vs t m n e =
    let no_place : Vec3 = record { x = nan; y = nan; z = nan } in
    read_places vs t m n
    (λ k h. ap (λ (xs : List Vec3). place_among xs k) e ∙ entry_read (table_place t) 1 no_place 12 k 0 h ∙ ap (table_place t) (let f : 0 + 1 * k ≡ k = omega arith in f))

-- ---- the comparison of two tables

bit_most : (b : Bool) → bit b ≤ 1
bit_most true = lit≤ tt
bit_most false = lit≤ tt

-- one word more: r more of them differ
pub more_most : (b : Bool) (d i r : ℕ) → r ≡ bit b → d ≤ i → d + r ≤ i + 1
more_most b d i r e h = let m = bit_most b in omega arith

pub equal_next : (xs ys : List ℕ) (i d r : ℕ) → r ≡ bit (not (eqb (get_or xs i 0) (get_or ys i 0))) → eqb d 0 ≡ equal_below xs ys i → eqb (d + r) 0 ≡ equal_below xs ys (i + 1)
unfolding equal_below
equal_next xs ys i d r e h = rw (add-one i) (by (eqb (get_or xs i 0) (get_or ys i 0)) refl)
  where
    by : (b : Bool) → eqb (get_or xs i 0) (get_or ys i 0) ≡ b → eqb (d + r) 0 ≡ (equal_below xs ys i && eqb (get_or xs i 0) (get_or ys i 0))
    by true q = let n : r ≡ 0 = e ∙ ap (λ (b : Bool). bit (not b)) q in rw (q, n, add-zero d) (h ∙ sym (and_true (equal_below xs ys i) true refl))
    by false q =
        let n : r ≡ 1 = e ∙ ap (λ (b : Bool). bit (not b)) q in
        rw (q, n) (ne_eqb (d + 1) 0 (λ z. omega arith) ∙ sym (and_false (equal_below xs ys i) false refl))

last : (n i : ℕ) → i < suc n → ltb i n ≡ false → n ≡ i
last n i h q = let m = ltb-false i n q in omega arith

equal_at : (xs ys : List ℕ) (n : ℕ) → equal_below xs ys n ≡ true → (i : ℕ) → i < n → get_or xs i 0 ≡ get_or ys i 0
unfolding equal_below
equal_at xs ys zero q i h = absurd (omega arith)
equal_at xs ys (suc n) q i h = by (ltb i n) refl (λ l. equal_at xs ys n b.0 i l)
  where
    b : (equal_below xs ys n ≡ true) × (eqb (get_or xs n 0) (get_or ys n 0) ≡ true)
    b = both (equal_below xs ys n) (eqb (get_or xs n 0) (get_or ys n 0)) q

    by : (t : Bool) → ltb i n ≡ t → (i < n → get_or xs i 0 ≡ get_or ys i 0) → get_or xs i 0 ≡ get_or ys i 0
    by true p before = before (ltb-true i n p)
    by false p before = subst (λ (j : ℕ). get_or xs j 0 ≡ get_or ys j 0) (last n i h p) (eqb-true (get_or xs n 0) (get_or ys n 0) b.1)

-- tables of as many words that are equal word by word are equal
pub equal_are : (xs ys : List ℕ) (n : ℕ) → length xs ≡ n → length ys ≡ n → equal_below xs ys n ≡ true → xs ≡ ys
equal_are xs ys n l m e = ext_get_or 0 xs ys (l ∙ sym m) (λ i h. equal_at xs ys n e i (omega arith))

-- ---- the faults of a table

-- it has none exactly if it is right
pub faultless : (t : List ℕ) (f : Option TableFault) (r : Bool) → f ≡ fault_of (table_place t) → is_some f ≡ not r → r ≡ table_right t
faultless t f r e h = by (all_inside (table_place t)) (all_apart (table_place t)) r (sym h ∙ ap is_some e)
  where
    by : (a b r : Bool) → not r ≡ is_some (cond a (cond b None (Some SamePlaces)) (Some Coordinate)) → r ≡ (a && b)
    by true true true q = refl
    by true true false q = sym q
    by true false true q = sym q
    by true false false q = refl
    by false b true q = sym q
    by false b false q = refl

-- the built-in table, by its words
pub is_built_in_table : (t : List ℕ) → length t ≡ table_count → equal_below t built_in_table table_count ≡ true → t ≡ built_in_table
unfolding table_of positions714
is_built_in_table t l e = equal_are t built_in_table table_count l refl e

-- ---- the hall of a table that is right, its places read

module _ (t : List ℕ) (vs : List Vec3) (e : table_right t ≡ true) (s : place_among vs ≡ table_place t) where
  pub read_inside : all_inside (place_among vs) ≡ true
  read_inside = ap all_inside s ∙ (right_parts t e).0

  pub read_apart : all_apart (place_among vs) ≡ true
  read_apart = ap all_apart s ∙ (right_parts t e).1

-- a block whose code is 0 and whose table has the built-in one's words has the 7.1.4 hall
pub as_714 : (b : List ℕ) → (eqb (layout_of b) 0 && equal_below (table_in b) built_in_table table_count) ≡ true → setup_in b ≡ hall_with 0
as_714 b e =
    let r = both (eqb (layout_of b) 0) (equal_below (table_in b) built_in_table table_count) e in
    let n = eqb-true (layout_of b) 0 r.0 in
    let t = is_built_in_table (table_in b) (words_long b table_at table_count) r.1 in
    λ i. record { layout = n i; table = t i }
