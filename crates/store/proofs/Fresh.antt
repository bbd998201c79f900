-- A fresh renderer is in range, and its block is zeros but for its hall and three fields. Assumes nothing.
use mathlib.Core.Path.{◌≡◌, refl, sym, ap, ap₂, subst, ◌∙◌}
use mathlib.Core.Bool.{false}
use mathlib.Core.List.{List, ◌∷◌, ◌++◌, append-nil, append_assoc}
use Prim.Native.Nat.{ℕ, zero, suc, ◌+◌, ◌*◌, ◌^◌, ◌<◌, ◌≤◌}
use native.Mathlib.Nat.{add-zero}
use native.Mathlib.Omega.{arith}
use borrow.Author.Tests.{lt-ltb, le-ltb}
use lib.Dec.{T, lit<, lit≤}
use lib.ListN.{length, get_or, drop, replicate, length-replicate, replicate-append-replicate}
use lib.Seq.{drop-length}
use Rattle.ieee.specs.Bounds.{All}
use Rattle.words.specs.Words.{Bytes, Words, number, with_number, word, with_word, with_words, with_long}
use Rattle.words.proofs.Numbers.{length_kept}
use lib.Ieee.{to_bits, fits}
use Rattle.timed.specs.Slot.{middle, InRange, no_block}
use Rattle.timed.specs.State.{no_element}
use Rattle.timed.specs.declared.state.BlockState.{BlockState}
use Rattle.timed.specs.declared.state.MetadataRendererState.{MetadataRendererState}
use Rattle.panning.specs.Setup.{Setup}
use Rattle.rules.specs.Parts.{zeros, 0·0, 1·0}
use Rattle.rules.specs.Ranges.{HallRanged}
use Rattle.formats.specs.Areas.{info_count, info_bytes, infos_bytes, row_count, row_places, row_bytes, places_bytes}
use Rattle.formats.specs.Format.{puts}
use Rattle.store.specs.Bytes.{bytes_of}
use Rattle.store.specs.Fields.{small_words}
use Rattle.store.specs.FieldPlaces.{limiter_gain_at, remaining_in, first_at, second_at, infos_at, hall_at, table_at}
use Rattle.store.specs.Layout.{table_count, setup_count, size, small, place_bytes, setup_words, setup_bytes, encode, still, no_blocks, blank, fresh_renderer}
use Rattle.store.specs.Filled.{marked, filled}
use Rattle.store.specs.ValidBlocks.{least_flags, head_valid, heads_valid}
use Rattle.store.specs.Ranged.{Single, Singles, SourceSingles, TrackSingles, ElementRanged, StateRanged, InfosRanged, PlacesRanged, BlockRanged}
use Rattle.store.proofs.PendingRows.{rows_bytes, place_bytes_is}
use Rattle.store.proofs.Bytes.{run_past, stored, written_front}
use Rattle.formats.proofs.Theorems.{and_in}

-- ---- zeros

same_at : {A : Type 0} (n i : ℕ) (a : A) → get_or (replicate n a) i a ≡ a
same_at zero i a = refl
same_at (suc n) zero a = refl
same_at (suc n) (suc i) a = same_at n i a

all_same : {A : Type 0} (P : A → Type 0) (n : ℕ) (a : A) → P a → All P (replicate n a)
all_same P zero a h = tt
all_same P (suc n) a h = (h, all_same P n a h)

zero_number : (n at k : ℕ) → number (replicate n 0) at k ≡ 0
unfolding number
zero_number n at zero = refl
zero_number n at (suc k) = ap₂ (λ (x b : ℕ). x + b * 256 ^ k) (zero_number n at k) (same_at n (at + k) 0) ∙ omega arith

zero_heads : (n at k : ℕ) → T (heads_valid (replicate n 0) at k)
unfolding heads_valid
zero_heads n at zero = tt
zero_heads n at (suc k) =
    and_in (head_valid (word (replicate n 0) at)) (heads_valid (replicate n 0) (at + info_bytes) k)
    (subst (λ (x : ℕ). T (head_valid x)) (sym (zero_number n at 4)) tt) (zero_heads n (at + info_bytes) k)

zero_words : (n : ℕ) → Words (replicate n 0)
zero_words zero = tt
zero_words (suc n) = (lit< tt, zero_words n)

zero_bytes : (n : ℕ) → Bytes (replicate n 0)
zero_bytes n i = subst (λ (x : ℕ). x < 256) (sym (same_at n i 0)) (lit< tt)

infos_fresh : (n : ℕ) → n ≡ infos_bytes → InfosRanged (replicate n 0)
infos_fresh n e = record { length = length-replicate {A = ℕ} n 0 ∙ e; bytes = zero_bytes n; heads = zero_heads n 0 info_count }

places_fresh : PlacesRanged zeros
places_fresh =
    record {
      lengths = λ c l. rw (lt-ltb c row_count l) (length-replicate {A = ℕ} row_places 0);
      words = λ c l. rw (lt-ltb c row_count l) (zero_words row_places);
      none = λ c l. rw (le-ltb c row_count l) refl;
    }

-- ---- the renderer

element_fresh : (i : ℕ) → i < 2 → get_or (replicate 2 no_blocks) i no_element ≡ no_blocks
element_fresh zero l = refl
element_fresh (suc zero) l = refl
element_fresh (suc (suc i)) l = absurd (omega arith)

blocks_in_range : InRange 0 no_blocks
blocks_in_range =
    record {
      blocks = lit≤ tt;
      ramps = record {
        offsets = λ b l. subst (λ (x : BlockState). x.offset ≤ 2097152) (sym (same_at 8 b no_block)) (lit≤ tt);
        ramps = λ b l. subst (λ (x : BlockState). x.ramp ≤ 2097152) (sym (same_at 8 b no_block)) (lit≤ tt);
        most = lit≤ tt;
        least = lit≤ tt;
      };
    }

zero_single : Single 0·0
unfolding fits
zero_single = tt

one_single : Single 1·0
unfolding fits
one_single = tt

still_singles : Singles still
still_singles = record { x = zero_single; y = zero_single; z = zero_single }

blocks_ranged : ElementRanged 0 no_blocks
blocks_ranged =
    record { flags = lit≤ tt; enough = lit≤ tt; schedule = refl; tracks = refl; targets = all_same TrackSingles 16 (record { now = false; future = still }) still_singles }

none_less : (i : ℕ) (s : MetadataRendererState) → s.elements ≡ 0 → least_flags i s ≡ 0
none_less i s e = let l : s.elements ≤ i = omega arith in rw (le-ltb i s.elements l)

state_fresh : StateRanged 0 blank.state
unfolding blank
state_fresh =
    record {
      within = record {
        payload = lit≤ tt;
        objects = lit≤ tt;
        isf = lit≤ tt;
        dynamic = lit≤ tt;
        beds = lit≤ tt;
        channels = lit≤ tt;
        elements = lit≤ tt;
        states = λ i l. subst (InRange 0) (sym (element_fresh i l)) blocks_in_range;
      };
      codes = refl;
      listed = all_same (λ c. c ≤ 17) 18 0 (lit≤ tt);
      gains = refl;
      beds = all_same Single 18 0·0 zero_single;
      sources = refl;
      objects =
          all_same SourceSingles 16 (record { gain = 0·0; size = 0·0; place = still; placed = false; wanted = false; held = false; send = 0·0 })
          (record { gain = zero_single; size = zero_single; place = still_singles; send = zero_single });
      states = refl;
      elements = λ i l.
          subst (ElementRanged (least_flags i blank.state)) (sym (element_fresh i l))
          (subst (λ (n : ℕ). ElementRanged n no_blocks) (sym (none_less i blank.state refl)) blocks_ranged);
    }

pub fresh_ranged : (h : Setup) → HallRanged h → BlockRanged (fresh_renderer h)
unfolding blank
fresh_ranged h e =
    record {
      setup = e;
      rate = tt;
      phase = lit< tt;
      position = lit≤ tt;
      start = lit≤ tt;
      gain = one_single;
      filter =
          record {
            a1 = zero_single;
            a2 = zero_single;
            b0 = zero_single;
            b1 = zero_single;
            b2 = zero_single;
            x1 = zero_single;
            x2 = zero_single;
            y1 = zero_single;
            y2 = zero_single;
          };
      pending = lit< tt;
      idle = λ z. refl;
      state = state_fresh;
      infos = infos_fresh infos_bytes refl;
      places = places_fresh;
    }

-- ---- the block of zeros

bytes_zero : (n : ℕ) → bytes_of (replicate n 0) ≡ replicate (4 * n) 0
unfolding bytes_of with_number
bytes_zero zero = refl
bytes_zero (suc n) = ap (λ (t : List ℕ). 0 ∷ 0 ∷ 0 ∷ 0 ∷ t) (bytes_zero n) ∙ ap (λ (k : ℕ). replicate k 0) (let e : suc (suc (suc (suc (4 * n)))) ≡ 4 * suc n = omega arith in e)

zero_rows : (n k : ℕ) → n + k ≤ row_count → rows_bytes n k zeros ≡ replicate (n * row_bytes) 0
unfolding rows_bytes
zero_rows zero k l = refl
zero_rows (suc n) k l =
    let z : zeros k ≡ replicate row_places 0 = let m : k < row_count = omega arith in rw (lt-ltb k row_count m) refl in
    ap₂ (λ (a b : List ℕ). a ++ b) (ap bytes_of z ∙ bytes_zero row_places) (zero_rows n (suc k) (omega arith))
    ∙ replicate-append-replicate row_bytes (n * row_bytes) 0 ∙ ap (λ (m : ℕ). replicate m 0) (let e : row_bytes + n * row_bytes ≡ suc n * row_bytes = omega arith in e)

marked_front : (s t : List ℕ) → infos_at ≤ length s → marked (s ++ t) ≡ marked s ++ t
marked_front s t l =
    let R = 4 * (first_at + remaining_in) in
    let Q = 4 * (second_at + remaining_in) in
    let a = with_word s (4 * limiter_gain_at) 0x3f80_0000 in
    let b = with_long a R middle in
    let la : length a ≡ length s = length_kept s (4 * limiter_gain_at) 4 0x3f80_0000 in
    let lb : length b ≡ length a = length_kept a R 8 middle in
    ap (λ (x : List ℕ). with_long (with_long x R middle) Q middle) (written_front s t (4 * limiter_gain_at) 4 0x3f80_0000 (omega arith))
    ∙ ap (λ (x : List ℕ). with_long x Q middle) (written_front a t R 8 middle (omega arith))
    ∙ written_front b t Q 8 middle (omega arith)

marked_long : (s : List ℕ) → length (marked s) ≡ length s
marked_long s =
    let a = with_word s (4 * limiter_gain_at) 0x3f80_0000 in
    let b = with_long a (4 * (first_at + remaining_in)) middle in
    length_kept b (4 * (second_at + remaining_in)) 8 middle ∙ length_kept a (4 * (first_at + remaining_in)) 8 middle ∙ length_kept s (4 * limiter_gain_at) 4 0x3f80_0000

small_fresh : (h : Setup) → bytes_of (small_words (small (fresh_renderer h))) ≡ marked (replicate infos_at 0)
unfolding bytes_of small_words puts blank with_number to_bits
small_fresh h = refl

tail_fresh : (n m : ℕ) → n ≡ infos_bytes → m ≡ row_count → replicate n 0 ++ place_bytes zeros ≡ replicate (n + m * row_bytes) 0
tail_fresh n m e f =
    ap (λ (t : List ℕ). replicate n 0 ++ t)
    (place_bytes_is zeros places_fresh.lengths ∙ ap (λ (k : ℕ). rows_bytes k 0 zeros) (sym f) ∙ zero_rows m 0 (omega arith))
    ∙ replicate-append-replicate n (m * row_bytes) 0

front_fresh : (h : Setup) → bytes_of (small_words (small (fresh_renderer h))) ++ (blank.infos ++ place_bytes zeros) ≡ marked (replicate hall_at 0)
unfolding blank
front_fresh h =
    ap₂ (λ (a b : List ℕ). a ++ b) (small_fresh h) (tail_fresh infos_bytes row_count refl refl)
    ∙ sym (marked_front (replicate infos_at 0) (replicate (infos_bytes + places_bytes) 0) (subst (λ (n : ℕ). infos_at ≤ n) (sym (length-replicate {A = ℕ} infos_at 0)) (lit≤ tt)))
    ∙ ap marked (replicate-append-replicate infos_at (infos_bytes + places_bytes) 0)

-- n zeros and m, marked, and then the words that fill the m behind the n
filled_behind : (n m : ℕ) (ws : List ℕ) → infos_at ≤ n → 4 * length ws ≡ m → with_words (marked (replicate (n + m) 0)) n ws ≡ marked (replicate n 0) ++ bytes_of ws
filled_behind n m ws l k =
    let z = replicate {A = ℕ} n 0 in
    let t = replicate {A = ℕ} m 0 in
    let f = length-replicate {A = ℕ} n 0 in
    let g = length-replicate {A = ℕ} m 0 in
    let e : n ≡ length (marked z) + 0 = sym (add-zero n) ∙ ap (λ (k : ℕ). k + 0) (sym (marked_long z ∙ f)) in
    ap (λ (s : List ℕ). with_words (marked s) n ws) (sym (replicate-append-replicate n m 0))
    ∙ ap (λ (s : List ℕ). with_words s n ws) (marked_front z t (omega arith))
    ∙ ap (λ (k : ℕ). with_words (marked z ++ t) k ws) e
    ∙ run_past (marked z) t 0 ws
    ∙ ap (λ (s : List ℕ). marked z ++ s)
    (stored ws t (omega arith) ∙ ap (λ (s : List ℕ). bytes_of ws ++ s) (ap (λ (i : ℕ). drop i t) (k ∙ sym g) ∙ drop-length t) ∙ append-nil (bytes_of ws))

pub encode_fresh : (h : Setup) → length h.table ≡ table_count → encode (fresh_renderer h) ≡ filled h
unfolding encode filled setup_bytes
encode_fresh h n =
    let w = bytes_of (small_words (small (fresh_renderer h))) in
    let l = setup_bytes h in
    ap (λ (t : List ℕ). w ++ t) (sym (append_assoc blank.infos (place_bytes zeros) l))
    ∙ sym (append_assoc w (blank.infos ++ place_bytes zeros) l)
    ∙ ap (λ (t : List ℕ). t ++ l) (front_fresh h)
    ∙ sym (filled_behind hall_at (4 * setup_count) (setup_words h) (lit≤ tt) (ap (λ (k : ℕ). 4 * suc k) n))

-- what `make` writes
pub refilled : (n layout : ℕ) (t : List ℕ) → n ≡ size → length t ≡ table_count
    → with_words (with_word (marked (replicate n 0)) hall_at layout) table_at t ≡ encode (fresh_renderer (record { layout = layout; table = t }))
unfolding filled
refilled n layout t e l =
    ap (λ (k : ℕ). with_words (with_word (marked (replicate k 0)) hall_at layout) table_at t) e ∙ sym (encode_fresh (record { layout = layout; table = t }) l)
