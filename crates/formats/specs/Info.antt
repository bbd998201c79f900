-- The format of an info: what the state keeps of an object in a block. Document 01, record of kind 4: "object in a block: 1 anchor (0 room, 1 screen, 2 speaker); 2 flags
-- (1 position valid, 2 differential, 4 gain, 8 position, 16 distance, 32 size present); f32 at 4 gain, 8, 12, 16 position, 20 distance, 24 size, 28 screen factor, 32 depth
-- factor"; and item 2, "Depth is y to the power 0.25, 0.5, 1 or 2". The last absolute position is kept beside it. Document 02, R-3: "Bytes 36 to 39 .. become its send".
-- A word that is added later stands last. Assumes nothing.
use Rattle.std.specs.Prelude.{ℕ, ◌+◌, ◌*◌, ◌<◌, Bool, ◌&&◌, ltb, Float}
use Rattle.vectors.specs.Head.{Head, head_word, head_in}
use Rattle.vectors.specs.declared.Vec3.{Vec3}
use Rattle.formats.specs.NumberWords.{Single}
use Rattle.formats.specs.Format.{Format, one_word, float, ◌⊗◌, struct, ranged}
use Rattle.formats.specs.Vector.{Singles, vec_format}

-- ---- the head: flags, anchor and depth in one word

-- six flags, three anchors, four depths
abbrev pub flags_below : ℕ
flags_below = 64

abbrev pub anchor_below : ℕ
anchor_below = 3

abbrev pub depth_below : ℕ
depth_below = 4

pub record HeadIn (h : Head) : Type 0 where
  pub flags : h.flags < flags_below
  pub anchor : h.anchor < anchor_below
  pub depth : h.depth < depth_below

-- the depth stands above 65,536, so that the word has a bound where the depth has one
abbrev pub head_valid : ℕ → Bool
head_valid n = ltb n (depth_below * 65536) && ltb (head_in n).flags flags_below && ltb (head_in n).anchor anchor_below

abbrev pub info_head : Format Head
info_head = one_word head_word head_in head_valid HeadIn (λ n. Unit {0})

-- ---- the info

pub record ObjectInfo : Type 0 where
  pub head : Head
  pub gain : Float
  pub size : Float
  pub distance : Float
  pub screen : Float
  pub position : Vec3
  pub last : Vec3
  pub send : Float

pub record InfoIn (i : ObjectInfo) : Type 0 where
  pub head : HeadIn i.head
  pub gain : Single i.gain
  pub size : Single i.size
  pub distance : Single i.distance
  pub screen : Single i.screen
  pub position : Singles i.position
  pub last : Singles i.last
  pub send : Single i.send

abbrev pub info_format : Format ObjectInfo
info_format =
    ranged InfoIn
    (struct
    (λ i. (i.head, (i.gain, (i.size, (i.distance, (i.screen, (i.position, (i.last, i.send))))))))
    (λ (head, (gain, (size, (distance, (screen, (position, (last, send))))))).
    record { head = head; gain = gain; size = size; distance = distance; screen = screen; position = position; last = last; send = send })
    (info_head ⊗ float ⊗ float ⊗ float ⊗ float ⊗ vec_format ⊗ vec_format ⊗ float))

-- ---- where a field stands in the words of an info: at the place before it plus that field's width

abbrev pub gain_in : ℕ
gain_in = info_head.width

abbrev pub size_in : ℕ
size_in = gain_in + float.width

abbrev pub distance_in : ℕ
distance_in = size_in + float.width

abbrev pub screen_in : ℕ
screen_in = distance_in + float.width

abbrev pub position_in : ℕ
position_in = screen_in + float.width

abbrev pub last_in : ℕ
last_in = position_in + vec_format.width

abbrev pub send_in : ℕ
send_in = last_in + vec_format.width
