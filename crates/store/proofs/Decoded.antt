-- What a valid block of bytes holds is in range. Assumes nothing.
use mathlib.Core.Path.{◌≡◌, refl, ap, subst}
use mathlib.Core.Bool.{Bool, not, ◌||◌, ◌&&◌}
use mathlib.Core.List.{List, [], ◌∷◌}
use Prim.Native.Nat.{ℕ, zero, suc, ◌+◌, ◌-◌, ◌*◌, ◌<◌, ◌≤◌}
use native.Mathlib.Omega.{arith}
use borrow.Author.Tests.{eq-eqb}
use lib.Dec.{T, eqb, leb, eqb→eq, leb→le, lit≤}
use lib.ListN.{length, get_or, take, drop, length-drop}
use lib.Seq.{get_or-drop, length-take-le}
use lib.Ieee.Fits.{and_l, and_r}
use lib.Ieee.Bits.{is_true}
use Rattle.ieee.specs.Bounds.{All}
use Rattle.words.specs.Words.{Bytes, words_at}
use Rattle.words.proofs.Small.{run_small}
use Rattle.timed.specs.Slot.{middle, InRange, no_block}
use Rattle.timed.specs.State.{no_element}
use Rattle.timed.specs.State as timed
use Rattle.panning.specs.Setup.{Setup, table_right}
use Rattle.rules.specs.Parts.{Places}
use Rattle.rules.specs.Ranges.{HallRanged}
use Rattle.formats.specs.Areas.{info_count, infos_bytes, row_places, row_bytes}
use Rattle.store.specs.declared.renderer.Renderer714.{Renderer714}
use Rattle.store.specs.Singles.{Brief}
use Rattle.store.specs.Fields.{element_format, small_of, hall_format}
use Rattle.store.specs.Layout.{small_width, infos_at, places_at, hall_at, table_at, table_count, size, assembled, infos_of, places_of, table_in, setup_in, decode}
use Rattle.store.specs.ValidBlocks.{clock_in, counts_in, element_related, least_flags, small_part, small_valid, heads_valid, hall_valid, valid}
use Rattle.store.specs.Ranged.{ElementRanged, StateRanged, InfosRanged, PlacesRanged, BlockRanged}
use Rattle.store.proofs.PendingRows.{places_row, no_places}
use Rattle.store.proofs.SmallPartBack.{lawful_small_part, lawful_hall}

all_out : {A : Type 0} (P : A → Type 0) (d : A) (xs : List A) → All P xs → (i : ℕ) → i < length xs → P (get_or xs i d)
all_out P d [] h i l = absurd (omega arith)
all_out P d (x ∷ xs) h zero l = h.0
all_out P d (x ∷ xs) h (suc i) l = all_out P d xs h.1 i (omega arith)

idle_out : (rate pending : ℕ) → T (not (eqb rate 0) || eqb pending 0) → rate ≡ 0 → pending ≡ 0
idle_out rate pending h e = eqb→eq pending 0 (subst (λ (b : Bool). T (not b || eqb pending 0)) (eq-eqb rate 0 e) h)

-- ---- the small part

module _ (s : Renderer714) (h : small_part.In s) where
  abbrev C : Bool
  C = clock_in s.rate s.clock.phase s.clock.position.0 s.clock.start.0 s.pending

  abbrev N : Bool
  N = counts_in s.state.objects s.state.isf s.state.beds

  abbrev E : Bool
  E = element_related s 0 && element_related s 1

  clock : T C
  clock = and_l C (N && E) h.1

  counts : T N
  counts = and_l N E (and_r C (N && E) h.1)

  element_test : (i : ℕ) → i < 2 → T (element_related s i)
  element_test zero l = and_l (element_related s 0) (element_related s 1) (and_r N E (and_r C (N && E) h.1))
  element_test (suc zero) l = and_r (element_related s 0) (element_related s 1) (and_r N E (and_r C (N && E) h.1))
  element_test (suc (suc i)) l = absurd (omega arith)

  element_both : (i : ℕ) → i < 2 → (least_flags i s.state ≤ (timed.element_of s.state i).flags)
      × (middle ≤ (timed.element_of s.state i).remaining + (2097152 + 64 * s.clock.position.0))
  element_both i l =
      let e = timed.element_of s.state i in
      let a = leb (least_flags i s.state) e.flags in
      let b = leb middle (e.remaining + (2097152 + 64 * s.clock.position.0)) in
      (leb→le _ _ (and_l a b (element_test i l)), leb→le _ _ (and_r a b (element_test i l)))

  element_in : (i : ℕ) → i < 2 → element_format.In (timed.element_of s.state i)
  element_in i l =
      let e = h.0.1.1.1.1.1 in
      all_out element_format.In no_element s.state.states e.each i (let m = e.count in omega arith)

  element_range : (i : ℕ) → i < 2 → InRange s.clock.position.0 (timed.element_of s.state i)
  element_range i l =
      let e = timed.element_of s.state i in
      let ((blocks, (flags, remaining)), (schedule, tracks)) = element_in i l in
      let b : (j : ℕ) → j < 8 → Brief (get_or e.schedule j no_block) =
      λ j k. all_out Brief no_block e.schedule schedule.each j (let m = schedule.count in omega arith) in
      record {
        blocks = blocks;
        ramps = record { offsets = λ j k. (b j k).offset; ramps = λ j k. (b j k).ramp; most = remaining; least = (element_both i l).1 };
      }

  element_ranged : (i : ℕ) → i < 2 → ElementRanged (least_flags i s.state) (timed.element_of s.state i)
  element_ranged i l =
      let ((blocks, (flags, remaining)), (schedule, tracks)) = element_in i l in
      record {
        flags = flags;
        enough = (element_both i l).0;
        schedule = schedule.count;
        tracks = tracks.count;
        targets = tracks.each;
      }

  state_ranged : StateRanged s.clock.position.0 s.state
  state_ranged =
      let ((initialized, (payload, (objects, (isf, (beds, in_use))))), (codes, (gains, (sources, states)))) = h.0.1 in
      record {
        within = record {
          payload = payload;
          objects = objects;
          isf = isf;
          dynamic = leb→le _ _ (and_l (leb (s.state.objects - s.state.isf) 16) (leb s.state.beds s.state.objects) counts);
          beds = beds;
          channels = leb→le _ _ (and_r (leb (s.state.objects - s.state.isf) 16) (leb s.state.beds s.state.objects) counts);
          elements = in_use;
          states = element_range;
        };
        codes = codes.count;
        listed = codes.each;
        gains = gains.count;
        beds = gains.each;
        sources = sources.count;
        objects = sources.each;
        states = states.count;
        elements = element_ranged;
      }

  pub small_ranged : (is : List ℕ) (ps : Places) (a : Setup) → InfosRanged is → PlacesRanged ps → HallRanged a → BlockRanged (assembled s is ps a)
  small_ranged is ps a i p q =
      let (rate, (phase, (position, (start, (gain, (filter, pending)))))) = h.0.0 in
      record {
        setup = q;
        rate = rate;
        phase = phase;
        position = position;
        start = leb→le _ _ (and_l (leb (s.clock.start.0 + s.clock.phase) s.clock.position.0) (not (eqb s.rate 0) || eqb s.pending 0) clock);
        gain = gain;
        filter = filter;
        pending = pending;
        idle = idle_out _ _ (and_r (leb (s.clock.start.0 + s.clock.phase) s.clock.position.0) (not (eqb s.rate 0) || eqb s.pending 0) clock);
        state = state_ranged;
        infos = i;
        places = p;
      }

-- ---- infos and places

pub bytes_take : (n : ℕ) (s : List ℕ) → Bytes s → Bytes (take n s)
bytes_take zero s h i = lit≤ tt
bytes_take (suc n) [] h i = lit≤ tt
bytes_take (suc n) (x ∷ s) h zero = h 0
bytes_take (suc n) (x ∷ s) h (suc i) = bytes_take n s (λ j. h (suc j)) i

pub bytes_drop : (n : ℕ) (s : List ℕ) → Bytes s → Bytes (drop n s)
bytes_drop n s h i = rw (get_or-drop n s i 0) (h (n + i))

pub words_long : (s : List ℕ) (at n : ℕ) → length (words_at s at n) ≡ n
words_long s at zero = refl
words_long s at (suc n) = ap suc (words_long s (at + 4) n)

-- the hall of a block of bytes, where it is in its range
pub hall_ranged : (b : List ℕ) → Bytes b → T (hall_valid b) → HallRanged (setup_in b)
unfolding hall_valid
hall_ranged b bs h =
    let w = words_at b hall_at hall_format.width in
    let t = table_in b in
    record {
      layout = lawful_hall.within w 0 (and_l (hall_format.test w 0) (table_right t) h);
      long = words_long b table_at table_count;
      words = run_small b table_at table_count bs;
      right = is_true (table_right t) (and_r (hall_format.test w 0) (table_right t) h);
    }

module _ (b : List ℕ) (bs : Bytes b) (v : T (valid b)) where
  abbrev front : Bool
  front = eqb (length b) size && small_valid (words_at b 0 small_width)

  abbrev heads : Bool
  heads = heads_valid (infos_of b) 0 info_count

  front_true : T front
  unfolding valid
  front_true = and_l front heads (and_l (front && heads) (hall_valid b) v)

  is_long : length b ≡ size
  is_long = eqb→eq (length b) size (and_l (eqb (length b) size) (small_valid (words_at b 0 small_width)) front_true)

  small_in : small_part.In (small_of (words_at b 0 small_width))
  unfolding small_valid small_of
  small_in = lawful_small_part.within (words_at b 0 small_width) 0 (and_r (eqb (length b) size) (small_valid (words_at b 0 small_width)) front_true)

  infos_ranged : InfosRanged (infos_of b)
  unfolding valid
  infos_ranged =
      record {
        length = length-take-le infos_bytes (drop infos_at b) (let e = is_long in simp length-drop (omega arith));
        bytes = bytes_take infos_bytes (drop infos_at b) (bytes_drop infos_at b bs);
        heads = and_r front heads (and_l (front && heads) (hall_valid b) v);
      }

  places_ranged : PlacesRanged (places_of b)
  places_ranged =
      record {
        lengths = λ c l. rw (places_row b c l) (words_long b (places_at + row_bytes * c) row_places);
        words = λ c l. rw (places_row b c l) (run_small b (places_at + row_bytes * c) row_places bs);
        none = no_places b;
      }

  pub hall_true : T (hall_valid b)
  unfolding valid
  hall_true = and_r (front && heads) (hall_valid b) v

  pub decode_ranged : BlockRanged (decode b)
  unfolding decode
  decode_ranged = small_ranged (small_of (words_at b 0 small_width)) small_in (infos_of b) (places_of b) (setup_in b) infos_ranged places_ranged (hall_ranged b bs hall_true)
