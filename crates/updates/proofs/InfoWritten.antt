-- The format of an info reads back what an update writes, field by field. Assumes nothing.
use Prim.Native.Nat.{ℕ, ◌+◌, ◌*◌, ◌/◌, ◌%◌, ◌^◌, ◌≤◌, ◌<◌}
use mathlib.Core.Path.{◌≡◌, refl, sym, ap, ◌∙◌}
use mathlib.Core.Bool.{Bool, true, false, cond}
use mathlib.Core.List.{List}
use native.Mathlib.Nat.{mod-lt}
use native.Mathlib.Omega.{arith}
use lib.Dec.{eqb, lit<, lit≤}
use lib.ListN.{length}
use lib.Ieee.{Float, fin, eq, binary32, of_bits}
use lib.IntN.{pos, negsuc}
use Rattle.words.specs.Words.{Bytes, word, with_word, float_at}
use Rattle.words.proofs.Back.{reads_back}
use Rattle.words.proofs.Beside.{Kept, reads_before, reads_past, number_keeps}
use Rattle.words.proofs.Numbers.{length_kept}
use Rattle.words.proofs.Small.{number_small}
use Rattle.vectors.specs.Head.{head_in, as_speaker}
use Rattle.vectors.specs.Vectors.{zero_vec3}
use Rattle.vectors.proofs.Theorems.{head_reads_back}
use Rattle.timed.specs.InfoSizes.{info_bytes, gain_byte, size_byte, distance_byte, screen_byte, position_byte, send_byte, info_at}
use Rattle.timed.specs.Infos.{info_of, vec_at}
use Rattle.timed.proofs.InfoFields.{gain_read, size_read, distance_read, screen_read, position_read, last_read, send_read}
use Rattle.fields.specs.ObjectInfos.{stored_info}
use Rattle.fields.specs.Object.{depth_code}
use Rattle.fields.specs.declared.object.Info.{Info}
use Rattle.info.specs.Written.{with_three, cleared, with_place, head_of, with_head, with_info}
use Rattle.updates.specs.InfoAfter.{head_sent, position_sent, info_after, InfoWords}
use Rattle.updates.proofs.StoredInfos.{three, cleared_stored, head_stored, place_stored, places_stored}

-- ---- vectors

module _ {s t : List ℕ} {lo hi : ℕ} (kept : Kept s t lo hi) where
  vec_before : (at : ℕ) → at + 12 ≤ lo → vec_at t at ≡ vec_at s at
  unfolding vec_at float_at
  vec_before at h = λ j.
      record {
        x = of_bits binary32 (reads_before kept at 4 (omega arith) j);
        y = of_bits binary32 (reads_before kept (at + 4) 4 (omega arith) j);
        z = of_bits binary32 (reads_before kept (at + 8) 4 (omega arith) j);
      }

  vec_past : (at : ℕ) → hi ≤ at → vec_at t at ≡ vec_at s at
  unfolding vec_at float_at
  vec_past at h = λ j.
      record {
        x = of_bits binary32 (reads_past kept at 4 (omega arith) j);
        y = of_bits binary32 (reads_past kept (at + 4) 4 (omega arith) j);
        z = of_bits binary32 (reads_past kept (at + 8) 4 (omega arith) j);
      }

module _ (s : List ℕ) (at x y z : ℕ) (room : at + 12 ≤ length s) where
  abbrev one_written : List ℕ
  one_written = with_word s at x

  abbrev two_written : List ℕ
  two_written = with_word one_written (at + 4) y

  three_vec : x < 2 ^ 32 → y < 2 ^ 32 → z < 2 ^ 32 → vec_at (with_three s at x y z) at ≡ record { x = of_bits binary32 x; y = of_bits binary32 y; z = of_bits binary32 z }
  unfolding vec_at float_at with_three
  three_vec p q r =
      let l = length_kept s at 4 x in
      let m = length_kept one_written (at + 4) 4 y in
      let k = number_keeps one_written (at + 4) 4 y in
      let n = number_keeps two_written (at + 8) 4 z in
      let a : word (with_word two_written (at + 8) z) at ≡ x =
      reads_before n at 4 (omega arith) ∙ reads_before k at 4 (omega arith) ∙ reads_back s at 4 x (omega arith) p in
      let b : word (with_word two_written (at + 8) z) (at + 4) ≡ y = reads_before n (at + 4) 4 (omega arith) ∙ reads_back one_written (at + 4) 4 y (omega arith) q in
      let c : word (with_word two_written (at + 8) z) (at + 8) ≡ z = reads_back two_written (at + 8) 4 z (omega arith) r in
      λ j. record { x = of_bits binary32 (a j); y = of_bits binary32 (b j); z = of_bits binary32 (c j) }

-- ---- the positions

module _ (s : List ℕ) (at : ℕ) (room : at + 24 ≤ length s) where
  abbrev at_origin : List ℕ
  at_origin = with_three s at 0 0 0

  cleared_position : (fresh : Bool) → vec_at (cleared fresh at s) at ≡ cond fresh zero_vec3 (vec_at s at)
  unfolding cleared
  cleared_position true =
      vec_before (three at_origin (at + 12) 0 0 0).kept at (omega arith) ∙ three_vec s at 0 0 0 (omega arith) (lit< tt) (lit< tt) (lit< tt)
  cleared_position false = refl

  cleared_last : (fresh : Bool) → vec_at (cleared fresh at s) (at + 12) ≡ cond fresh zero_vec3 (vec_at s (at + 12))
  unfolding cleared
  cleared_last true =
      let l = (three s at 0 0 0).long in
      three_vec at_origin (at + 12) 0 0 0 (omega arith) (lit< tt) (lit< tt) (lit< tt)
  cleared_last false = refl

  placed : (i : Info) → InfoWords i → (q : Bool) → vec_at (cond q (with_three s at i.x i.y i.z) s) at ≡ cond q (position_sent i) (vec_at s at)
  placed i w true = three_vec s at i.x i.y i.z (omega arith) w.x w.y w.z
  placed i w false = refl

-- ---- head, gain, size, distance and screen factor

module _ (head : ℕ) (i : Info) (w : InfoWords i) (at : ℕ) (s : List ℕ) (room : at + info_bytes ≤ length s) where
  abbrev with_head_is : List ℕ
  with_head_is = with_word s at head

  abbrev with_gain : List ℕ
  with_gain = with_word with_head_is (at + gain_byte) i.gain

  abbrev with_size : List ℕ
  with_size = with_word with_gain (at + size_byte) i.size

  abbrev with_distance : List ℕ
  with_distance = with_word with_size (at + distance_byte) i.distance

  long_head : length with_head_is ≡ length s
  long_head = length_kept s at 4 head

  long_gain : length with_gain ≡ length s
  long_gain = length_kept with_head_is (at + gain_byte) 4 i.gain ∙ long_head

  long_size : length with_size ≡ length s
  long_size = length_kept with_gain (at + size_byte) 4 i.size ∙ long_gain

  long_distance : length with_distance ≡ length s
  long_distance = length_kept with_size (at + distance_byte) 4 i.distance ∙ long_size

  before_screen : (m : ℕ) → m + 4 ≤ at + screen_byte → word (with_head head i at s) m ≡ word with_distance m
  unfolding with_head
  before_screen m h = reads_before (number_keeps with_distance (at + screen_byte) 4 i.screen) m 4 h

  before_distance : (m : ℕ) → m + 4 ≤ at + distance_byte → word (with_head head i at s) m ≡ word with_size m
  before_distance m h = before_screen m (omega arith) ∙ reads_before (number_keeps with_size (at + distance_byte) 4 i.distance) m 4 h

  before_size : (m : ℕ) → m + 4 ≤ at + size_byte → word (with_head head i at s) m ≡ word with_gain m
  before_size m h = before_distance m (omega arith) ∙ reads_before (number_keeps with_gain (at + size_byte) 4 i.size) m 4 h

  before_gain : (m : ℕ) → m + 4 ≤ at + gain_byte → word (with_head head i at s) m ≡ word with_head_is m
  before_gain m h = before_size m (omega arith) ∙ reads_before (number_keeps with_head_is (at + gain_byte) 4 i.gain) m 4 h

  head_back : head < 2 ^ 32 → word (with_head head i at s) at ≡ head
  head_back h = before_gain at (omega arith) ∙ reads_back s at 4 head (omega arith) h

  gain_back : word (with_head head i at s) (at + gain_byte) ≡ i.gain
  gain_back = before_size (at + gain_byte) (omega arith) ∙ reads_back with_head_is (at + gain_byte) 4 i.gain (omega (arith, long_head)) w.gain

  size_back : word (with_head head i at s) (at + size_byte) ≡ i.size
  size_back = before_distance (at + size_byte) (omega arith) ∙ reads_back with_gain (at + size_byte) 4 i.size (omega (arith, long_gain)) w.size

  distance_back : word (with_head head i at s) (at + distance_byte) ≡ i.distance
  distance_back = before_screen (at + distance_byte) (omega arith) ∙ reads_back with_size (at + distance_byte) 4 i.distance (omega (arith, long_size)) w.distance

  screen_back : word (with_head head i at s) (at + screen_byte) ≡ i.screen
  unfolding with_head
  screen_back = reads_back with_distance (at + screen_byte) 4 i.screen (omega (arith, long_distance)) w.screen

-- ---- the info

head_word_is : (bed : Bool) (i : Info) → i.head < 2 ^ 32 → head_of bed i < 2 ^ 32
head_word_is true i h = omega arith
head_word_is false i h = h

head_said : (bed : Bool) (i : Info) → head_in (head_of bed i) ≡ head_sent bed i
head_said true i = head_reads_back (as_speaker (head_in i.head)) (mod-lt i.head (lit< tt)) (lit< tt)
head_said false i = refl

module _ (fresh bed : Bool) (i : Info) (w : InfoWords i) (is : List ℕ) (k : ℕ) (room : info_at k + info_bytes ≤ length is) where
  abbrev at : ℕ
  at = info_at k

  abbrev headed : List ℕ
  headed = with_head (head_of bed i) i at is

  abbrev positioned : List ℕ
  positioned = with_place i (at + position_byte) (cleared fresh (at + position_byte) headed)

  abbrev written : List ℕ
  written = with_word positioned (at + send_byte) i.send

  before_send : Kept positioned written (at + send_byte) (at + send_byte + 4)
  before_send = number_keeps positioned (at + send_byte) 4 i.send

  -- the words before the positions
  as_headed : (m : ℕ) → m + 4 ≤ at + position_byte → word written m ≡ word headed m
  as_headed m h = reads_before before_send m 4 (omega arith) ∙ reads_before (places_stored fresh i (at + position_byte) headed).kept m 4 h

  long_headed : length headed ≡ length is
  long_headed = (head_stored (head_of bed i) i at is).long

  send_back : word written (at + send_byte) ≡ i.send
  send_back =
      let l = (places_stored fresh i (at + position_byte) headed).long ∙ long_headed in
      reads_back positioned (at + send_byte) 4 i.send (omega arith) w.send

  position_back : vec_at written (at + position_byte) ≡ (info_after fresh bed i (info_of is k)).position
  unfolding with_place
  position_back =
      let l = long_headed in
      let c = (cleared_stored fresh (at + position_byte) headed).long in
      vec_before before_send (at + position_byte) (omega arith)
      ∙ placed (cleared fresh (at + position_byte) headed) (at + position_byte) (omega arith) i w (eqb (i.head / 8 % 2) 1)
      ∙ ap (cond (eqb (i.head / 8 % 2) 1) (position_sent i))
      (cleared_position headed (at + position_byte) (omega arith) fresh
      ∙ ap (cond fresh zero_vec3) (vec_past (head_stored (head_of bed i) i at is).kept (at + position_byte) (omega arith) ∙ sym (position_read is k)))

  last_back : vec_at written (at + position_byte + 12) ≡ (info_after fresh bed i (info_of is k)).last
  last_back =
      let l = long_headed in
      vec_before before_send (at + position_byte + 12) (omega arith)
      ∙ vec_past (place_stored i (at + position_byte) (cleared fresh (at + position_byte) headed)).kept (at + position_byte + 12) (omega arith)
      ∙ cleared_last headed (at + position_byte) (omega arith) fresh
      ∙ ap (cond fresh zero_vec3)
      (vec_past (head_stored (head_of bed i) i at is).kept (at + position_byte + 12) (omega arith) ∙ ap (vec_at is) (omega arith) ∙ sym (last_read is k))

  pub info_written : info_of (with_info fresh bed i (info_at k) is) k ≡ info_after fresh bed i (info_of is k)
  unfolding with_info float_at
  info_written = λ j.
      record {
        head = (ap head_in (as_headed at (omega arith) ∙ head_back (head_of bed i) i w at is room (head_word_is bed i w.head)) ∙ head_said bed i) j;
        gain = (gain_read written k ∙ ap (of_bits binary32) (as_headed (at + gain_byte) (omega arith) ∙ gain_back (head_of bed i) i w at is room)) j;
        size = (size_read written k ∙ ap (of_bits binary32) (as_headed (at + size_byte) (omega arith) ∙ size_back (head_of bed i) i w at is room)) j;
        distance = (distance_read written k ∙ ap (of_bits binary32) (as_headed (at + distance_byte) (omega arith) ∙ distance_back (head_of bed i) i w at is room)) j;
        screen = (screen_read written k ∙ ap (of_bits binary32) (as_headed (at + screen_byte) (omega arith) ∙ screen_back (head_of bed i) i w at is room)) j;
        position = (position_read written k ∙ position_back) j;
        last = (last_read written k ∙ ap (vec_at written) (omega arith) ∙ last_back) j;
        send = (send_read written k ∙ ap (of_bits binary32) send_back) j;
      }

-- ---- what a record of bytes has are words

depth_few : (a b c d : Bool) → cond a 0 (cond b 1 (cond c 2 (cond d 3 4))) ≤ 4
depth_few true b c d = lit≤ tt
depth_few false true c d = lit≤ tt
depth_few false false true d = lit≤ tt
depth_few false false false true = lit≤ tt
depth_few false false false false = lit≤ tt

depth_most : (x : Float) → depth_code x ≤ 4
unfolding depth_code
depth_most x =
    depth_few (eq x (fin false 1 (negsuc 1))) (eq x (fin false 1 (negsuc 0))) (eq x (fin false 1 (pos 0))) (eq x (fin false 1 (pos 1)))

pub info_words : (m : List ℕ) (r : ℕ) → Bytes m → InfoWords (stored_info m r)
info_words m r h =
    record {
      head = let f = h (40 * r + 2) in let a = h (40 * r + 1) in let d = depth_most (float_at m (40 * r + 32)) in omega arith;
      gain = number_small m (40 * r + 4) 4 h;
      size = number_small m (40 * r + 24) 4 h;
      distance = number_small m (40 * r + 20) 4 h;
      screen = number_small m (40 * r + 28) 4 h;
      x = number_small m (40 * r + 8) 4 h;
      y = number_small m (40 * r + 12) 4 h;
      z = number_small m (40 * r + 16) 4 h;
      send = number_small m (40 * r + 36) 4 h;
    }
