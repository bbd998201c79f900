-- A reader may skip this file: what an update makes of an info, by the fields of its format. `info_written` of proofs/InfoWritten: `with_info` of info/specs/Written writes just
-- that into the bytes. Assumes nothing.
use Rattle.std.specs.Prelude.{◌<◌, ◌^◌, Bool, cond}
use Rattle.std.specs.Float.{binary32}
use Rattle.std.specs.Float.Ieee.{of_bits}
use Rattle.vectors.specs.Head.{Head, head_in, as_speaker, has}
use Rattle.vectors.specs.Vectors.{zero_vec3}
use Rattle.vectors.specs.declared.Vec3.{Vec3}
use Rattle.formats.specs.Info.{ObjectInfo}
use Rattle.fields.specs.declared.object.Info.{Info}

abbrev pub head_sent : Bool → Info → Head
head_sent bed i = cond bed (as_speaker (head_in i.head)) (head_in i.head)

abbrev pub position_sent : Info → Vec3
position_sent i = record { x = of_bits binary32 i.x; y = of_bits binary32 i.y; z = of_bits binary32 i.z }

-- head, gain, size, distance, screen factor and send are the record's; the position is where the record has one; what is not sent stays, or is the origin where the element is new
abbrev pub info_after : Bool → Bool → Info → ObjectInfo → ObjectInfo
info_after fresh bed i was =
    record {
      head = head_sent bed i;
      gain = of_bits binary32 i.gain;
      size = of_bits binary32 i.size;
      distance = of_bits binary32 i.distance;
      screen = of_bits binary32 i.screen;
      position = cond (has i.head 8) (position_sent i) (cond fresh zero_vec3 was.position);
      last = cond fresh zero_vec3 was.last;
      send = of_bits binary32 i.send;
    }

-- each field of a record is a word
pub record InfoWords (i : Info) : Type 0 where
  pub head : i.head < 2 ^ 32
  pub gain : i.gain < 2 ^ 32
  pub size : i.size < 2 ^ 32
  pub distance : i.distance < 2 ^ 32
  pub screen : i.screen < 2 ^ 32
  pub x : i.x < 2 ^ 32
  pub y : i.y < 2 ^ 32
  pub z : i.z < 2 ^ 32
  pub send : i.send < 2 ^ 32
