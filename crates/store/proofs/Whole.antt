-- A renderer in range is read back from its block, which has the block's size. Assumes nothing.
use mathlib.Core.Path.{◌≡◌, refl, sym, ap, ap₂, subst, ◌∙◌}
use mathlib.Core.Bool.{Bool, true, false, not, ◌&&◌, ◌||◌}
use mathlib.Core.List.{List, [], ◌∷◌, ◌++◌, append-nil, append_assoc}
use Prim.Native.Nat.{ℕ, zero, suc, ◌+◌, ◌-◌, ◌*◌, ◌<◌, ◌≤◌}
use native.Mathlib.Nat.{zero-add, add-zero}
use native.Mathlib.Omega.{arith}
use borrow.Author.Tests.{ltb-true, ltb-false}
use lib.Dec.{T, eqb, leb, ltb, eqb→eq, eqb_refl, le→leb, lit<, lit≤}
use lib.ListN.{length, get_or, drop, length-append, take-append-drop}
use lib.Seq.{drop_at, take_at, drop-drop}
use Rattle.ieee.specs.Bounds.{All}
use Rattle.words.specs.Words.{Bytes, words_at, with_words}
use Rattle.formats.proofs.Theorems.{and_in}
use Rattle.timed.specs.Slot.{middle, InRange, no_block}
use Rattle.timed.specs.State.{Timed, no_element}
use Rattle.timed.specs.State as timed
use Rattle.timed.specs.declared.state.ElementRendererState.{ElementRendererState}
use Rattle.timed.specs.declared.state.MetadataRendererState.{MetadataRendererState}
use Rattle.rules.specs.Parts.{Places}
use Rattle.rules.specs.Samples.{Renderer}
use Rattle.formats.specs.Areas.{infos_bytes, row_count, row_places, places_format, row_bytes, places_bytes}
use Rattle.store.specs.Bytes.{bytes_of}
use Rattle.store.specs.Singles.{Brief}
use Rattle.store.specs.Fields.{element_format, state_format, small_words, small_of}
use Rattle.store.specs.Layout.{small_width, infos_at, places_at, hall_at, setup_count, size, small, assembled, infos_of, places_of, setup_in, decode}
use Rattle.store.specs.Layout.{rows_from, place_bytes, setup_words, setup_bytes, encode}
use Rattle.store.specs.ValidBlocks.{clock_in, counts_in, least_flags, related, element_related}
use Rattle.store.specs.Ranged.{ElementRanged, StateRanged, PlacesRanged, BlockRanged}
use Rattle.store.proofs.Bytes.{words_drop, bytes_length, bytes_bytes, bytes_back, stored}
use Rattle.store.proofs.PendingRows.{places_row, no_places, rows_bytes, place_bytes_is}
use Rattle.store.proofs.SmallPartBack.{SmallFull, small_long, small_words_is, small_back}
use Rattle.store.proofs.PendingRows.{setup_of_words}

-- ---- what is in range fits its words

pub all_at : {A : Type 0} (P : A → Type 0) (d : A) (xs : List A) → ((i : ℕ) → i < length xs → P (get_or xs i d)) → All P xs
all_at P d [] h = tt
all_at P d (x ∷ xs) h = (h 0 (omega arith), all_at P d xs (λ i l. h (suc i) (omega arith)))

-- an element, the timed state and the small part, each in the form of its format
element_full : (position least : ℕ) (e : ElementRendererState) → InRange position e → ElementRanged least e → element_format.In e
element_full position least e r h = (
  (r.blocks, (h.flags, r.ramps.most)),
  (
    record {
      count = h.schedule;
      each = all_at Brief no_block e.schedule (λ i l. let m = h.schedule in record { offset = r.ramps.offsets i (omega arith); ramp = r.ramps.ramps i (omega arith) });
    },
    record { count = h.tracks; each = h.targets },
  ),
)

state_full : (position : ℕ) (s : MetadataRendererState) → StateRanged position s → state_format.In s
state_full position s h =
    let w = h.within in (
      (tt, (w.payload, (w.objects, (w.isf, (w.beds, w.elements))))),
      (
        record { count = h.codes; each = h.listed },
        (
          record { count = h.gains; each = h.beds },
          (
            record { count = h.sources; each = h.objects },
            record {
              count = h.states;
              each = all_at element_format.In no_element s.states (λ i l.
                  let k : i < 2 = let m = h.states in omega arith in
                  element_full position _ (timed.element_of s i) (w.states i k) (h.elements i k));
            },
          ),
        ),
      ),
    )

idle_test : (rate pending : ℕ) → (rate ≡ 0 → pending ≡ 0) → T (not (eqb rate 0) || eqb pending 0)
idle_test rate pending h = by (eqb rate 0) refl
  where
    by : (b : Bool) → eqb rate 0 ≡ b → T (not b || eqb pending 0)
    by true e = rw (h (eqb→eq rate 0 (subst T (sym e) tt))) (eqb_refl 0)
    by false e = tt

related_full : (r : Renderer Timed (List ℕ)) → BlockRanged r → T (related (small r))
related_full r h =
    let w = h.state.within in
    let m = r.meta.state in
    let e : (i : ℕ) → i < 2 → T (element_related (small r) i) =
    λ i l. and_in (leb (least_flags i m) (timed.element_of m i).flags) (leb middle ((timed.element_of m i).remaining + (2097152 + 64 * r.clock.position)))
    (le→leb _ _ (h.state.elements i l).enough) (le→leb _ _ (w.states i l).ramps.least) in
    let k : T (clock_in r.rate r.clock.phase r.clock.position r.clock.start r.pending.count) =
    and_in (leb (r.clock.start + r.clock.phase) r.clock.position) (not (eqb r.rate 0) || eqb r.pending.count 0)
    (le→leb _ _ h.start) (idle_test r.rate r.pending.count h.idle) in
    let n : T (counts_in m.objects m.isf m.beds) =
    and_in (leb (m.objects - m.isf) 16) (leb m.beds m.objects) (le→leb _ _ w.dynamic) (le→leb _ _ w.channels) in
    and_in (clock_in r.rate r.clock.phase r.clock.position r.clock.start r.pending.count)
    (counts_in m.objects m.isf m.beds && (element_related (small r) 0 && element_related (small r) 1)) k
    (and_in (counts_in m.objects m.isf m.beds) (element_related (small r) 0 && element_related (small r) 1) n
    (and_in (element_related (small r) 0) (element_related (small r) 1) (e 0 (lit< tt)) (e 1 (lit< tt))))

pub small_full : (r : Renderer Timed (List ℕ)) → BlockRanged r → SmallFull (small r)
small_full r h =
    let p = h.position in
    let s = h.start in (
      ((h.rate, (h.phase, (p, (omega arith, (h.gain, (h.filter, h.pending)))))), state_full r.clock.position r.meta.state h.state),
      related_full r h,
    )

-- ---- rows of places

module _ (p : Places) (h : PlacesRanged p) where
  row_long : (c : ℕ) → c < row_count → length (bytes_of (p c)) ≡ row_bytes
  row_long c l = bytes_length (p c) ∙ ap (λ (n : ℕ). 4 * n) (h.lengths c l)

  rows_long : (n k : ℕ) → n + k ≤ row_count → length (rows_bytes n k p) ≡ n * row_bytes
  unfolding rows_bytes
  rows_long zero k l = refl
  rows_long (suc n) k l =
      length-append (bytes_of (p k)) (rows_bytes n (suc k) p) ∙ (let a = row_long k (omega arith) in let b = rows_long n (suc k) (omega arith) in omega arith)

  -- a row, with anything behind the rows
  rows_back : (n k c : ℕ) (t : List ℕ) → n + k ≤ row_count → c < n → words_at (rows_bytes n k p ++ t) (row_bytes * c) row_places ≡ p (k + c)
  unfolding rows_bytes
  rows_back zero k c t l m = absurd (omega arith)
  rows_back (suc n) k zero t l m =
      let rest = rows_bytes n (suc k) p in
      ap₂ (λ (s : List ℕ) (w : ℕ). words_at s 0 w) (append_assoc (bytes_of (p k)) rest t) (sym (h.lengths k (omega arith)))
      ∙ bytes_back (p k) (rest ++ t) (h.words k (omega arith)) ∙ ap p (sym (add-zero k))
  rows_back (suc n) k (suc c) t l m =
      let e : row_bytes * suc c ≡ row_bytes + row_bytes * c = omega arith in
      let f : suc k + c ≡ k + suc c = omega arith in
      let rest = rows_bytes n (suc k) p in
      rw (
        e,
        append_assoc (bytes_of (p k)) rest t,
        words_drop (bytes_of (p k) ++ (rest ++ t)) row_bytes (row_bytes * c) row_places,
        drop_at (bytes_of (p k)) (rest ++ t) row_bytes (row_long k (omega arith)),
      )
      (rows_back n (suc k) c t (omega arith) (omega arith) ∙ ap p f)

-- ---- the block

module _ (r : Renderer Timed (List ℕ)) (h : BlockRanged r) where
  abbrev W : List ℕ
  W = small_words (small r)

  abbrev P : List ℕ
  P = place_bytes r.pending.places

  abbrev L : List ℕ
  L = setup_bytes r.setup

  abbrev R : List ℕ
  R = P ++ L

  front_long : length (bytes_of W) ≡ infos_at
  front_long = bytes_length W ∙ ap (λ (n : ℕ). 4 * n) (small_long (small r) (small_full r h))

  pub words_back : words_at (encode r) 0 small_width ≡ W
  unfolding encode
  words_back =
      ap (λ (n : ℕ). words_at (encode r) 0 n) (sym (small_long (small r) (small_full r h))) ∙ bytes_back W (r.meta.infos ++ R) (small_words_is (small r) (small_full r h))

  rest_back : drop infos_at (encode r) ≡ r.meta.infos ++ R
  unfolding encode
  rest_back = drop_at (bytes_of W) (r.meta.infos ++ R) infos_at front_long

  pub infos_back : infos_of (encode r) ≡ r.meta.infos
  infos_back = rw rest_back (take_at r.meta.infos R infos_bytes h.infos.length)

  rows_at : drop places_at (encode r) ≡ R
  rows_at = sym (drop-drop infos_bytes infos_at (encode r)) ∙ rw rest_back (drop_at r.meta.infos R infos_bytes h.infos.length)

  rows_are : P ≡ rows_bytes row_count 0 r.pending.places
  rows_are = place_bytes_is r.pending.places h.places.lengths

  places_long : length P ≡ places_bytes
  places_long = ap length rows_are ∙ rows_long r.pending.places h.places row_count 0 (lit≤ tt)

  setup_long : length (setup_words r.setup) ≡ setup_count
  setup_long = ap suc h.setup.long

  hall_long : length L ≡ 4 * setup_count
  unfolding setup_bytes
  hall_long = bytes_length (setup_words r.setup) ∙ ap (λ (n : ℕ). 4 * n) setup_long

  -- the hall is behind the places
  hall_stands : drop hall_at (encode r) ≡ L
  hall_stands = sym (drop-drop places_bytes places_at (encode r)) ∙ ap (drop places_bytes) rows_at ∙ drop_at P L places_bytes places_long

  setup_read : words_at (encode r) hall_at setup_count ≡ setup_words r.setup
  unfolding setup_bytes
  setup_read =
      let w = setup_words r.setup in
      let l = h.setup.layout in
      ap (λ (at : ℕ). words_at (encode r) at setup_count) (sym (add-zero hall_at)) ∙ words_drop (encode r) hall_at 0 setup_count
      ∙ ap₂ (λ (s : List ℕ) (n : ℕ). words_at s 0 n) (hall_stands ∙ sym (append-nil L)) (sym setup_long) ∙ bytes_back w [] (omega arith, h.setup.words)

  pub setup_back : setup_in (encode r) ≡ r.setup
  setup_back = ap setup_of_words setup_read

  place_back : (c : ℕ) → places_of (encode r) c ≡ r.pending.places c
  place_back c = by (ltb c row_count) refl
    where
      by : (b : Bool) → ltb c row_count ≡ b → places_of (encode r) c ≡ r.pending.places c
      by true e =
          let l = ltb-true c row_count e in
          places_row (encode r) c l
          ∙ words_drop (encode r) places_at (row_bytes * c) row_places
          ∙ ap (λ (s : List ℕ). words_at s (row_bytes * c) row_places) (rows_at ∙ ap (λ (s : List ℕ). s ++ L) rows_are)
          ∙ rows_back r.pending.places h.places row_count 0 c L (lit≤ tt) l ∙ ap r.pending.places (zero-add c)
      by false e = let l = ltb-false c row_count e in no_places (encode r) c l ∙ sym (h.places.none c l)

  -- but for what waits, which stands behind this block
  pub decode_encode : decode (encode r) ≡ assembled (small r) r.meta.infos r.pending.places r.setup
  unfolding decode
  decode_encode =
      λ i. assembled ((ap small_of words_back ∙ small_back (small r) (small_full r h)) i) (infos_back i) (λ c. place_back c i) (setup_back i)

  pub encode_long : length (encode r) ≡ size
  unfolding encode
  encode_long =
      length-append (bytes_of W) (r.meta.infos ++ R)
      ∙ ap₂ (λ (m n : ℕ). m + n) front_long
      (length-append r.meta.infos R ∙ ap₂ (λ (m n : ℕ). m + n) h.infos.length
      (length-append P L ∙ ap₂ (λ (m n : ℕ). m + n) places_long hall_long))

-- ---- bytes

pub bytes_append : (a b : List ℕ) → Bytes a → Bytes b → Bytes (a ++ b)
bytes_append [] b p q i = q i
bytes_append (x ∷ a) b p q zero = p 0
bytes_append (x ∷ a) b p q (suc i) = bytes_append a b (λ j. p (suc j)) q i

pub encode_bytes : (r : Renderer Timed (List ℕ)) → Bytes r.meta.infos → Bytes (encode r)
unfolding encode place_bytes setup_bytes
encode_bytes r h =
    let p = place_bytes r.pending.places in
    let l = setup_bytes r.setup in
    bytes_append (bytes_of (small_words (small r))) (r.meta.infos ++ (p ++ l)) (bytes_bytes (small_words (small r)))
    (bytes_append r.meta.infos (p ++ l) h
    (bytes_append p l (bytes_bytes (places_format.put (rows_from row_count 0 r.pending.places))) (bytes_bytes (setup_words r.setup))))

-- ---- a block that was saved

-- the small part of r stored into a block that has r's infos, places and hall
pub saved_encode : (b : List ℕ) (r : Renderer Timed (List ℕ)) → length b ≡ size → length (small_words (small r)) ≡ small_width → infos_of b ≡ r.meta.infos
    → drop places_at b ≡ place_bytes r.pending.places ++ setup_bytes r.setup
    → with_words b 0 (small_words (small r)) ≡ encode r
unfolding encode
saved_encode b r l n i p =
    let w = small_words (small r) in
    let t : drop infos_at b ≡ r.meta.infos ++ (place_bytes r.pending.places ++ setup_bytes r.setup) =
    sym (take-append-drop infos_bytes (drop infos_at b)) ∙ ap₂ (λ (x y : List ℕ). x ++ y) i (drop-drop infos_bytes infos_at b ∙ p) in
    stored w b (omega arith) ∙ ap (λ (k : ℕ). bytes_of w ++ drop (4 * k) b) n ∙ ap (λ (x : List ℕ). bytes_of w ++ x) t
