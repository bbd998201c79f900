-- An object in a block as the state keeps it. `info_says_all` of proofs/InfoSaysAll: it says all that the record says. Assumes nothing.
use Rattle.std.specs.Prelude.{ℕ, ◌+◌, ◌*◌, cond, List, from_bits, Float, Option, Some, None}
use Rattle.std.specs.Float.{binary32}
use Rattle.words.specs.Words.{word, float_at}
use Rattle.vectors.specs.Head.{Head, head_word, head_in, anchor_of, has}
use Rattle.fields.specs.RecordBytes.{byte}
use Rattle.fields.specs.Object.{Same, At, Object, depth_code}
use Rattle.fields.specs.declared.object.Info.{Info}

abbrev pub head_said : List ℕ → ℕ → Head
head_said m r = record { flags = byte m r 2; anchor = byte m r 1; depth = depth_code (float_at m (40 * r + 32)) }

-- the word of the head, and the bits of each f32
abbrev pub stored_info : List ℕ → ℕ → Info
stored_info m r =
    record {
      head = head_word (head_said m r);
      gain = word m (40 * r + 4);
      size = word m (40 * r + 24);
      distance = word m (40 * r + 20);
      screen = word m (40 * r + 28);
      x = word m (40 * r + 8);
      y = word m (40 * r + 12);
      z = word m (40 * r + 16);
      send = word m (40 * r + 36);
    }

-- the object of an info, by its head
abbrev pub value_of : ℕ → ℕ → ℕ → Option Float
value_of flags bit n = cond (has flags bit) (Some (from_bits binary32 n)) None

abbrev pub object_from : Head → Info → Object
object_from h i =
    record {
      anchor = anchor_of h.anchor;
      valid = has h.flags 1;
      differential = has h.flags 2;
      gain = value_of h.flags 4 i.gain;
      position = cond (has h.flags 8) (At (record { x = from_bits binary32 i.x; y = from_bits binary32 i.y; z = from_bits binary32 i.z })) Same;
      distance = value_of h.flags 16 i.distance;
      size = value_of h.flags 32 i.size;
      screen = from_bits binary32 i.screen;
      depth = h.depth;
      send = from_bits binary32 i.send;
    }

abbrev pub object_of_info : Info → Object
object_of_info i = object_from (head_in i.head) i
