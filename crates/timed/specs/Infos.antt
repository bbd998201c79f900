-- The object infos: what an object in a block says, by the format of formats/specs/Info; then the same from the bytes in which they stay, as the code reads them, which a reader
-- may skip. proofs/InfoFields: both are the same. Assumes nothing.
use Rattle.std.specs.Prelude.{ℕ, ◌+◌, cond, List, Float, Option, Some, None}
use Rattle.words.specs.Words.{word, words_at, float_at, with_word, with_float}
use Rattle.formats.specs.Info.{ObjectInfo, info_format}
pub use Rattle.roots.specs.Root.{depth_of}
use Rattle.vectors.specs.Head.{head_in, anchor_of, has}
use Rattle.vectors.specs.declared.Vec3.{Vec3}
use Rattle.vectors.specs.declared.BlockPosition.{BlockPosition}
use Rattle.timed.specs.InfoSizes.{gain_byte, size_byte, distance_byte, screen_byte, position_byte, last_byte, send_byte, info_at}

-- ---- an info by its fields

abbrev pub info_of : List ℕ → ℕ → ObjectInfo
info_of is k = info_format.get (words_at is (info_at k) info_format.width) 0

-- "An absent value is zero": the value that is present with a flag
abbrev pub present_with : ℕ → ℕ → Float → Option Float
present_with flags bit x = cond (has flags bit) (Some x) None

-- its gain and its size; "2 flags (.., 4 gain, .., 32 size present)"
abbrev pub gain_said : ObjectInfo → Option Float
gain_said i = present_with i.head.flags 4 i.gain

abbrev pub size_said : ObjectInfo → Option Float
size_said i = present_with i.head.flags 32 i.size

-- of its position; "2 flags (1 position valid, 2 differential, .., 16 distance .. present)"
abbrev pub position_said : ObjectInfo → BlockPosition
position_said i =
    record {
      valid = has i.head.flags 1;
      differential = has i.head.flags 2;
      anchor = anchor_of i.head.anchor;
      position = i.position;
      last = i.last;
      distance = present_with i.head.flags 16 i.distance;
      screen = i.screen;
      depth = depth_of i.head.depth;
    }

-- ---- the same from the bytes

abbrev pub head_at : List ℕ → ℕ → ℕ
head_at is k = word is (info_at k)

-- the value at a place of info k, present with `bit`
unfoldable pub maybe_at : List ℕ → ℕ → ℕ → ℕ → Option Float
maybe_at is k bit at = cond (has (head_at is k) bit) (Some (float_at is (info_at k + at))) None

unfoldable pub vec_at : List ℕ → ℕ → Vec3
vec_at is at = record { x = float_at is at; y = float_at is (at + 4); z = float_at is (at + 8) }

unfoldable pub with_three : List ℕ → ℕ → ℕ → ℕ → ℕ → List ℕ
with_three is at x y z = with_word (with_word (with_word is at x) (at + 4) y) (at + 8) z

unfoldable pub with_vec : List ℕ → ℕ → Vec3 → List ℕ
with_vec is at v = with_float (with_float (with_float is at v.x) (at + 4) v.y) (at + 8) v.z

abbrev pub gain_at : List ℕ → ℕ → Option Float
gain_at is k = maybe_at is k 4 gain_byte

abbrev pub size_at : List ℕ → ℕ → Option Float
size_at is k = maybe_at is k 32 size_byte

abbrev pub send_at : List ℕ → ℕ → Float
send_at is k = float_at is (info_at k + send_byte)

-- what info k says of its object's position
unfoldable pub block_position : List ℕ → ℕ → BlockPosition
unfolding maybe_at vec_at
block_position is k =
    record {
      valid = has (head_at is k) 1;
      differential = has (head_at is k) 2;
      anchor = anchor_of (head_in (head_at is k)).anchor;
      position = vec_at is (info_at k + position_byte);
      last = vec_at is (info_at k + last_byte);
      distance = maybe_at is k 16 distance_byte;
      screen = float_at is (info_at k + screen_byte);
      depth = depth_of (head_in (head_at is k)).depth;
    }
