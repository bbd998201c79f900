-- The laws of a head and its word. Assumes nothing.
use Prim.Native.Nat.{ℕ, ◌/◌, ◌%◌, ◌<◌}
use mathlib.Core.Path.{◌≡◌}
use native.Mathlib.Omega.{arith}
use Rattle.vectors.specs.Head.{Head, head_word, head_in, has}

module _ (h : Head) (flags : h.flags < 256) (anchor : h.anchor < 256) where
  pub flags_back : head_word h % 256 ≡ h.flags
  flags_back = omega arith

  pub anchor_back : head_word h / 256 % 256 ≡ h.anchor
  anchor_back = omega arith

  pub depth_back : head_word h / 65536 ≡ h.depth
  depth_back = omega arith

  pub head_reads_back : head_in (head_word h) ≡ h
  head_reads_back = rw (flags_back, anchor_back, depth_back)

pub word_reads_back : (n : ℕ) → head_word (head_in n) ≡ n
word_reads_back n = omega arith

-- the flags stand lowest, so a flag of the word is one of the flags
pub data IsBit : ℕ → Type 0 where
  valid : IsBit 1
  differential : IsBit 2
  gain : IsBit 4
  position : IsBit 8
  distance : IsBit 16
  size : IsBit 32

pub flag_of_word : {bit : ℕ} → IsBit bit → (n : ℕ) → has n bit ≡ has (head_in n).flags bit
flag_of_word valid n = let e : n / 1 % 2 ≡ n % 256 / 1 % 2 = omega arith in rw e
flag_of_word differential n = let e : n / 2 % 2 ≡ n % 256 / 2 % 2 = omega arith in rw e
flag_of_word gain n = let e : n / 4 % 2 ≡ n % 256 / 4 % 2 = omega arith in rw e
flag_of_word position n = let e : n / 8 % 2 ≡ n % 256 / 8 % 2 = omega arith in rw e
flag_of_word distance n = let e : n / 16 % 2 ≡ n % 256 / 16 % 2 = omega arith in rw e
flag_of_word size n = let e : n / 32 % 2 ≡ n % 256 / 32 % 2 = omega arith in rw e
