-- What a written info leaves of the others. Assumes nothing.
use Prim.Native.Nat.{ℕ, ◌+◌, ◌*◌, ◌/◌, ◌%◌, ◌≤◌}
use mathlib.Core.Path.{◌≡◌, refl, ◌∙◌}
use mathlib.Core.Bool.{Bool, true, false}
use mathlib.Core.List.{List}
use lib.Dec.{eqb, ltb}
use lib.ListN.{length}
use native.Mathlib.Omega.{arith}
use Rattle.words.specs.Words.{Bytes, with_word}
use Rattle.words.proofs.Beside.{Kept, kept_twice, number_keeps}
use Rattle.words.proofs.Numbers.{length_kept}
use Rattle.words.proofs.Small.{number_bytes}
use Rattle.fields.specs.declared.object.Info.{Info}
use Rattle.timed.proofs.Theorems.{times_in, cond_keeps}
use Rattle.timed.specs.InfoSizes.{most_blocks, element_infos, info_bytes, position_byte, send_byte}
use Rattle.updates.specs.Said.{Element}
use Rattle.info.specs.Written.{with_three, cleared, with_place, head_of, with_head, with_info}
use Rattle.updates.specs.Stored.{info_given, object_stored, object_given, objects_stored}

-- ---- what a store leaves: length, bytes, and all but a range

pub record Stored (s t : List ℕ) (lo hi : ℕ) : Type 0 where
  pub long : length t ≡ length s
  pub bytes : Bytes s → Bytes t
  pub kept : Kept s t lo hi

stays : (s : List ℕ) (lo hi : ℕ) → Stored s s lo hi
stays s lo hi = record { long = refl; bytes = λ h. h; kept = record { before = λ k h. refl; past = λ k h. refl } }

pub one : (s : List ℕ) (at v : ℕ) → Stored s (with_word s at v) at (at + 4)
one s at v = record { long = length_kept s at 4 v; bytes = number_bytes s at 4 v; kept = number_keeps s at 4 v }

pub twice : {s t u : List ℕ} {lo hi lo' hi' : ℕ} (from to : ℕ) → Stored s t lo hi → Stored t u lo' hi' → from ≤ lo → from ≤ lo' → hi ≤ to → hi' ≤ to → Stored s u from to
twice from to a b l l' h h' =
    record { long = b.long ∙ a.long; bytes = λ q. b.bytes (a.bytes q); kept = kept_twice from to a.kept b.kept l l' h h' }

pub three : (s : List ℕ) (at x y z : ℕ) → Stored s (with_three s at x y z) at (at + 12)
unfolding with_three
three s at x y z =
    let a = with_word s at x in
    let b = with_word a (at + 4) y in
    let two = twice at (at + 8) (one s at x) (one a (at + 4) y) (omega arith) (omega arith) (omega arith) (omega arith) in
    twice at (at + 12) two (one b (at + 8) z) (omega arith) (omega arith) (omega arith) (omega arith)

pub cleared_stored : (fresh : Bool) (at : ℕ) (s : List ℕ) → Stored s (cleared fresh at s) at (at + 24)
unfolding cleared
cleared_stored true at s =
    twice at (at + 24) (three s at 0 0 0) (three (with_three s at 0 0 0) (at + 12) 0 0 0) (omega arith) (omega arith) (omega arith) (omega arith)
cleared_stored false at s = stays s at (at + 24)

pub place_stored : (i : Info) (at : ℕ) (s : List ℕ) → Stored s (with_place i at s) at (at + 12)
unfolding with_place
place_stored i at s =
    cond_keeps (λ (t : List ℕ). Stored s t at (at + 12)) (eqb (i.head / 8 % 2) 1) (with_three s at i.x i.y i.z) s
    (λ _. three s at i.x i.y i.z) (λ _. stays s at (at + 12))

pub head_stored : (h : ℕ) (i : Info) (at : ℕ) (s : List ℕ) → Stored s (with_head h i at s) at (at + 20)
unfolding with_head
head_stored h i at s =
    let a = with_word s at h in
    let b = with_word a (at + 4) i.gain in
    let c = with_word b (at + 8) i.size in
    let d = with_word c (at + 12) i.distance in
    let two = twice at (at + 8) (one s at h) (one a (at + 4) i.gain) (omega arith) (omega arith) (omega arith) (omega arith) in
    let three = twice at (at + 12) two (one b (at + 8) i.size) (omega arith) (omega arith) (omega arith) (omega arith) in
    let four = twice at (at + 16) three (one c (at + 12) i.distance) (omega arith) (omega arith) (omega arith) (omega arith) in
    twice at (at + 20) four (one d (at + 16) i.screen) (omega arith) (omega arith) (omega arith) (omega arith)

-- the positions of an info, after its head
pub places_stored : (fresh : Bool) (i : Info) (at : ℕ) (s : List ℕ) → Stored s (with_place i at (cleared fresh at s)) at (at + 24)
places_stored fresh i at s =
    twice at (at + 24) (cleared_stored fresh at s) (place_stored i at (cleared fresh at s)) (omega arith) (omega arith) (omega arith) (omega arith)

pub info_stored : (fresh bed : Bool) (i : Info) (at : ℕ) (s : List ℕ) → Stored s (with_info fresh bed i at s) at (at + info_bytes)
unfolding with_info
info_stored fresh bed i at s =
    let a = with_head (head_of bed i) i at s in
    let b = with_place i (at + position_byte) (cleared fresh (at + position_byte) a) in
    let said = twice at (at + send_byte) (head_stored (head_of bed i) i at s) (places_stored fresh i (at + position_byte) a) (omega arith) (omega arith) (omega arith) (omega arith) in
    twice at (at + info_bytes) said (one b (at + send_byte) i.send) (omega arith) (omega arith) (omega arith) (omega arith)

-- an object's infos, of at most eight blocks, and an element's, of at most 32 objects
pub object_stored_is : (fresh bed : Bool) (x : Element) (first o : ℕ) (s : List ℕ) → x.blocks ≤ most_blocks →
    Stored s (object_stored fresh bed x first o s) (info_bytes * first) (info_bytes * first + most_blocks * info_bytes)
unfolding object_stored
object_stored_is fresh bed x first o s few =
    times_in (λ (t : List ℕ). Stored s t (info_bytes * first) (info_bytes * first + most_blocks * info_bytes)) (info_given fresh bed x first o) x.blocks
    (λ b t l h.
    twice (info_bytes * first) (info_bytes * first + most_blocks * info_bytes) h (info_stored fresh bed (x.info o b) (info_bytes * (first + b)) t)
    (omega arith) (omega arith) (omega arith) (omega arith))
    x.blocks 0 (omega arith) s (stays s _ _)

pub objects_stored_is : (fresh : Bool) (isf : ℕ) (x : Element) (first n : ℕ) (s : List ℕ) → x.blocks ≤ 8 → n ≤ 32 →
    Stored s (objects_stored fresh isf x first n s) (info_bytes * first) (info_bytes * first + element_infos * info_bytes)
unfolding objects_stored
objects_stored_is fresh isf x first n s few most =
    times_in (λ (t : List ℕ). Stored s t (info_bytes * first) (info_bytes * first + element_infos * info_bytes)) (object_given fresh isf x first) n
    (λ o t l h.
    twice (info_bytes * first) (info_bytes * first + element_infos * info_bytes) h (object_stored_is fresh (ltb o isf) x (first + 8 * o) o t few)
    (omega arith) (omega arith) (omega arith) (omega arith))
    n 0 (omega arith) s (stays s _ _)
