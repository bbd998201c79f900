-- "2, element: 1 blocks." "3, block: 8-15 offset, 16-23 ramp, both signed 64-bit." Assumes nothing.
use Rattle.std.specs.Prelude.{ℕ, ◌+◌, ◌*◌, Bool, ◌&&◌, List, ℤ, pos, negsuc, ◌==◌, int_le, nat_le}
use Rattle.words.specs.Words.{signed_at}
use Rattle.fields.specs.RecordBytes.{byte, kind, zero_bytes}
use Rattle.fields.specs.declared.block.Block.{Block}

abbrev pub blocks : List ℕ → ℕ → ℕ
blocks m e = byte m e 1

-- record r is an element as laid out; "8 blocks each"
unfoldable pub is_element : List ℕ → ℕ → Bool
is_element m r = kind m r == 2 && nat_le (blocks m r) 8 && zero_bytes m (40 * r + 2) 38

-- record r is a block as laid out
unfoldable pub is_block : List ℕ → ℕ → Bool
is_block m r = kind m r == 3 && zero_bytes m (40 * r + 1) 7 && zero_bytes m (40 * r + 24) 16

abbrev pub block_of : List ℕ → ℕ → Block ℤ
block_of m r = record { offset = signed_at m (40 * r + 8); ramp = signed_at m (40 * r + 16) }

-- not "outside ±1,048,576"
abbrev pub within : ℤ → Bool
within z = int_le (negsuc 1048575) z && int_le z (pos 1048576)

-- refusal 6 does not arise: "an offset or ramp outside ±1,048,576"
abbrev pub block_in_range : Block ℤ → Bool
block_in_range b = within b.offset && within b.ramp
