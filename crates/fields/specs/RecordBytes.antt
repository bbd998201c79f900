-- Document 01, "What a call receives": "Metadata is records of 40 bytes, no header, little-endian; byte 0 is the kind, unnamed bytes are zero."
-- Assumes nothing.
use Rattle.std.specs.Prelude.{ℕ, zero, suc, ◌+◌, ◌*◌, Bool, true, ◌&&◌, List, nat_eq, slice_index}
pub use Rattle.vectors.specs.Head.{has}

-- p holds of each number below n
unfoldable pub all : (ℕ → Bool) → ℕ → Bool
all p zero = true
all p (suc n) = all p n && p n

-- byte k of record r
abbrev pub byte : List ℕ → ℕ → ℕ → ℕ
byte m r k = slice_index m (40 * r + k)

abbrev pub kind : List ℕ → ℕ → ℕ
kind m r = slice_index m (40 * r)

-- the n bytes from `at` on are zero
abbrev pub zero_bytes : List ℕ → ℕ → ℕ → Bool
zero_bytes m at n = all (λ k. nat_eq (slice_index m (at + k)) 0) n
