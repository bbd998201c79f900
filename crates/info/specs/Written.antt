-- What an update makes of one info: `apply_parsed_update` for an object in a block. An info is as in timed/specs/InfoSizes. Assumes nothing.
use Rattle.std.specs.Prelude.{ℕ, ◌+◌, Bool, cond, List}
use Rattle.words.specs.Words.{with_word}
use Rattle.vectors.specs.Head.{head_in, head_word, as_speaker, has}
use Rattle.timed.specs.InfoSizes.{gain_byte, size_byte, distance_byte, screen_byte, position_byte, send_byte}
unfoldable pub use Rattle.timed.specs.Infos.{with_three}
use Rattle.fields.specs.declared.object.Info.{Info}

-- a new info has its position and the last absolute one at the origin; a kept one keeps both
unfoldable pub cleared : Bool → ℕ → List ℕ → List ℕ
unfolding with_three
cleared fresh at is = cond fresh (with_three (with_three is at 0 0 0) (at + 12) 0 0 0) is

-- the position, where the record has one
unfoldable pub with_place : Info → ℕ → List ℕ → List ℕ
unfolding with_three
with_place i at is = cond (has i.head 8) (with_three is at i.x i.y i.z) is

-- the head; a bed or ISF object's anchor is speaker
abbrev pub head_of : Bool → Info → ℕ
head_of bed i = cond bed (head_word (as_speaker (head_in i.head))) i.head

-- head, gain, size, distance and screen factor, as the record has them
unfoldable pub with_head : ℕ → Info → ℕ → List ℕ → List ℕ
with_head head i at is =
    with_word (with_word (with_word (with_word (with_word is at head) (at + gain_byte) i.gain) (at + size_byte) i.size) (at + distance_byte) i.distance) (at + screen_byte)
    i.screen

-- the info at byte `at`; its send as the record has it
unfoldable pub with_info : Bool → Bool → Info → ℕ → List ℕ → List ℕ
unfolding with_head cleared with_place
with_info fresh bed i at is =
    with_word (with_place i (at + position_byte) (cleared fresh (at + position_byte) (with_head (head_of bed i) i at is))) (at + send_byte) i.send
