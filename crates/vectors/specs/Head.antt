-- The codes of an object in a block, and the head of an info, the word in which the state keeps them. Assumes nothing.
use Rattle.std.specs.Prelude.{ℕ, ◌+◌, ◌*◌, ◌/◌, ◌%◌, Bool, cond, eqb}
use Rattle.vectors.specs.declared.Anchor.{Anchor}
use Rattle.vectors.specs.declared.Anchor.TheVariants.{Room, Screen, Speaker}

-- "1 anchor (0 room, 1 screen, 2 speaker)"
abbrev pub anchor_of : ℕ → Anchor
anchor_of n = cond (eqb n 0) Room (cond (eqb n 1) Screen Speaker)

abbrev pub speaker_code : ℕ
speaker_code = 2

-- "2 flags (1 position valid, 2 differential, 4 gain, 8 position, 16 distance, 32 size present)": the one that stands for `bit`
abbrev pub has : ℕ → ℕ → Bool
has flags bit = eqb (flags / bit % 2) 1

-- flags, and the codes of an anchor and of a depth
pub record Head : Type 0 where
  pub flags : ℕ
  pub anchor : ℕ
  pub depth : ℕ

-- The word of a head: its lowest byte has the flags, the next the anchor, what is above the depth. proofs/Heads: a head is read back, a word is written back, and `has` of the
-- word is `has` of its flags.
abbrev pub head_word : Head → ℕ
head_word h = h.flags + h.anchor * 256 + h.depth * 65536

abbrev pub head_in : ℕ → Head
head_in n = record { flags = n % 256; anchor = n / 256 % 256; depth = n / 65536 }

abbrev pub as_speaker : Head → Head
as_speaker h = record { flags = h.flags; anchor = speaker_code; depth = h.depth }
