-- "4, object in a block: 1 anchor (0 room, 1 screen, 2 speaker); 2 flags (1 position valid, 2 differential, 4 gain, 8 position, 16 distance, 32 size
-- present); f32 at 4 gain, 8, 12, 16 position, 20 distance, 24 size, 28 screen factor, 32 depth factor. An absent value is zero."
-- Document 02, R-3: "Bytes 36 to 39 of an object record become its send, an f32 from 0 to 1." It is always there. Assumes nothing.
use Rattle.std.specs.Prelude.{ℕ, ◌+◌, ◌*◌, Bool, true, false, cond, ◌&&◌, ◌||◌, List, pos, negsuc, ◌==◌, nat_le, nat_lt, Float, Option, Some, None}
use Rattle.std.specs.Float.{fin}
use Rattle.std.specs.Float.Ieee.{eq, le}
use Rattle.words.specs.Words.{float_at}
use Rattle.vectors.specs.declared.Anchor.{Anchor}
use Rattle.vectors.specs.declared.Vec3.{Vec3}
use Rattle.vectors.specs.Head.{anchor_of}
use Rattle.fields.specs.RecordBytes.{byte, kind, zero_bytes, has}

-- ---- as laid out

-- "An absent value is zero": n bytes from `at` on, present with `bit`
abbrev pub value_fits : List ℕ → ℕ → ℕ → ℕ → ℕ → Bool
value_fits m flags bit at n = has flags bit || zero_bytes m at n

-- gain, position, distance, size of the record that starts at byte `at`
unfoldable pub values_fit : List ℕ → ℕ → ℕ → Bool
values_fit m at flags =
    value_fits m flags 4 (at + 4) 4 && value_fits m flags 8 (at + 8) 12 && value_fits m flags 16 (at + 20) 4 && value_fits m flags 32 (at + 24) 4

-- record r is an object in a block as laid out
unfoldable pub is_object : List ℕ → ℕ → Bool
is_object m r =
    (kind m r == 4) && nat_le (byte m r 1) 2 && nat_le (byte m r 2) 63 && byte m r 3 == 0 && values_fit m (40 * r) (byte m r 2)

-- ---- its meaning

-- an object's position: where it was, or a place
pub data Placement : Type 0 where
  Same : Placement
  At : Vec3 → Placement

-- what the record says; depth is a code
pub record Object : Type 0 where
  pub anchor : Anchor
  pub valid : Bool
  pub differential : Bool
  pub gain : Option Float
  pub position : Placement
  pub distance : Option Float
  pub size : Option Float
  pub screen : Float
  pub depth : ℕ
  pub send : Float

-- the value at a place that is present with `bit`
unfoldable pub maybe_of : List ℕ → ℕ → ℕ → ℕ → Option Float
maybe_of m flags bit at = cond (has flags bit) (Some (float_at m at)) None

unfoldable pub position_of : List ℕ → ℕ → ℕ → Placement
position_of m flags at = cond (has flags 8) (At (record { x = float_at m at; y = float_at m (at + 4); z = float_at m (at + 8) })) Same

-- the code of a depth factor: 0.25, 0.5, 1, 2 are 0 to 3, any other is 4
unfoldable pub depth_code : Float → ℕ
depth_code x =
    cond (eq x (fin false 1 (negsuc 1))) 0
    (cond (eq x (fin false 1 (negsuc 0))) 1
    (cond (eq x (fin false 1 (pos 0))) 2
    (cond (eq x (fin false 1 (pos 1))) 3 4)))

abbrev pub object_of : List ℕ → ℕ → Object
object_of m r =
    record {
      anchor = anchor_of (byte m r 1);
      valid = has (byte m r 2) 1;
      differential = has (byte m r 2) 2;
      gain = maybe_of m (byte m r 2) 4 (40 * r + 4);
      position = position_of m (byte m r 2) (40 * r + 8);
      distance = maybe_of m (byte m r 2) 16 (40 * r + 20);
      size = maybe_of m (byte m r 2) 32 (40 * r + 24);
      screen = float_at m (40 * r + 28);
      depth = depth_code (float_at m (40 * r + 32));
      send = float_at m (40 * r + 36);
    }

-- ---- refusal 6 does not arise

-- from 0 to `most`; NaN is outside
abbrev pub from_zero_to : Float → Float → Bool
from_zero_to most x = le (fin false 0 (pos 0)) x && le x most

-- absent, or from 0 to `most`
abbrev pub absent_or : Float → Option Float → Bool
absent_or most None = true
absent_or most (Some x) = from_zero_to most x

-- "a depth factor not one of the four"
abbrev pub depth_fits : List ℕ → ℕ → Bool
depth_fits m r = nat_lt (depth_code (float_at m (40 * r + 32))) 4

-- "a present gain outside 0 to 8, a size outside 0 to 1 (NaN is outside) .. a depth factor not one of the four"; R-3: "a send outside its range, NaN included, is refusal 6"
abbrev pub object_in_range : Object → Bool
object_in_range o =
    absent_or (fin false 1 (pos 3)) o.gain && absent_or (fin false 1 (pos 0)) o.size && nat_lt o.depth 4 && from_zero_to (fin false 1 (pos 0)) o.send
