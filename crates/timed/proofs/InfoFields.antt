-- What the code reads of an info's bytes is what the info's format reads. Assumes nothing.
use mathlib.Core.Path.{◌≡◌, sym, ap}
use mathlib.Core.Bool.{cond}
use mathlib.Core.List.{List}
use Prim.Native.Nat.{ℕ, ◌+◌, ◌*◌, ◌<◌}
use native.Mathlib.Omega.{arith}
use lib.Dec.{lit<}
use lib.Ieee.{Float, binary32, of_bits}
use lib.ListN.{get_or}
use Rattle.std.specs.Prelude.{Some, None}
use Rattle.words.specs.Words.{words_at, float_at}
use Rattle.formats.specs.Info.{info_format, gain_in, size_in, distance_in, screen_in, position_in, last_in, send_in}
use Rattle.formats.proofs.Theorems.{word_of_run}
use Rattle.vectors.specs.Head.{head_in, anchor_of}
use Rattle.vectors.proofs.Theorems.{IsBit, flag_of_word}
use Rattle.timed.specs.InfoSizes.{gain_byte, size_byte, distance_byte, screen_byte, position_byte, last_byte, info_at}
use Rattle.timed.specs.Infos.{depth_of, info_of, present_with, gain_said, size_said, position_said, head_at, maybe_at, vec_at, gain_at, size_at, send_at, block_position}

module _ (is : List ℕ) (k : ℕ) where
  -- the float at a word of the info
  float_read : (i m : ℕ) → i < info_format.width → m ≡ info_at k + 4 * i → of_bits binary32 (get_or (words_at is (info_at k) info_format.width) i 0) ≡ float_at is m
  unfolding float_at
  float_read i m l e = ap (of_bits binary32) (word_of_run is (info_at k) info_format.width i m l e)

  pub gain_read : (info_of is k).gain ≡ float_at is (info_at k + gain_byte)
  gain_read = float_read gain_in _ (lit< tt) (omega arith)

  pub size_read : (info_of is k).size ≡ float_at is (info_at k + size_byte)
  size_read = float_read size_in _ (lit< tt) (omega arith)

  pub distance_read : (info_of is k).distance ≡ float_at is (info_at k + distance_byte)
  distance_read = float_read distance_in _ (lit< tt) (omega arith)

  pub screen_read : (info_of is k).screen ≡ float_at is (info_at k + screen_byte)
  screen_read = float_read screen_in _ (lit< tt) (omega arith)

  pub position_read : (info_of is k).position ≡ vec_at is (info_at k + position_byte)
  unfolding vec_at
  position_read = λ j.
      record {
        x = float_read position_in (info_at k + position_byte) (lit< tt) (omega arith) j;
        y = float_read (position_in + 1) (info_at k + position_byte + 4) (lit< tt) (omega arith) j;
        z = float_read (position_in + 2) (info_at k + position_byte + 8) (lit< tt) (omega arith) j;
      }

  pub last_read : (info_of is k).last ≡ vec_at is (info_at k + last_byte)
  unfolding vec_at
  last_read = λ j.
      record {
        x = float_read last_in (info_at k + last_byte) (lit< tt) (omega arith) j;
        y = float_read (last_in + 1) (info_at k + last_byte + 4) (lit< tt) (omega arith) j;
        z = float_read (last_in + 2) (info_at k + last_byte + 8) (lit< tt) (omega arith) j;
      }

  pub send_read : (info_of is k).send ≡ send_at is k
  send_read = float_read send_in _ (lit< tt) (omega arith)

  -- ---- what it says

  value_read : {bit : ℕ} → IsBit bit → (at : ℕ) (x : Float) → x ≡ float_at is (info_at k + at) → maybe_at is k bit at ≡ present_with (info_of is k).head.flags bit x
  unfolding maybe_at
  value_read {bit} b at x e = λ j. cond (flag_of_word b (head_at is k) j) (Some (sym e j)) None

  pub gain_said_is : gain_at is k ≡ gain_said (info_of is k)
  gain_said_is = value_read IsBit.gain gain_byte _ gain_read

  pub size_said_is : size_at is k ≡ size_said (info_of is k)
  size_said_is = value_read IsBit.size size_byte _ size_read

  pub position_said_is : block_position is k ≡ position_said (info_of is k)
  unfolding block_position
  position_said_is = λ j.
      record {
        valid = flag_of_word IsBit.valid (head_at is k) j;
        differential = flag_of_word IsBit.differential (head_at is k) j;
        anchor = anchor_of (head_in (head_at is k)).anchor;
        position = sym position_read j;
        last = sym last_read j;
        distance = value_read IsBit.distance distance_byte _ distance_read j;
        screen = sym screen_read j;
        depth = depth_of (head_in (head_at is k)).depth;
      }
