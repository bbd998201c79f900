-- Four samples stored at once, by the bytes of their bits. Assumes nothing.
use mathlib.Core.Path.{◌≡◌, refl, ap, ◌∙◌}
use mathlib.Core.List.{List, [], ◌∷◌, map}
use Prim.Native.Nat.{ℕ, ◌+◌, ◌-◌, ◌*◌, ◌^◌, ◌<◌, ◌≤◌}
use borrow.Rule.Slice.PartMut.{put_mid}
use lib.Dec.{T}
use lib.ListN.{length, length-map, take, drop}
use lib.Lanes.{Each1, put_chunk, number_l, digits_l}
use lib.Ieee.{Float, binary32, fits, to_bits}
use lib.Ieee.Bits.{to_bits-lt}
use Rattle.std.proofs.lemmas.Simd.{put_chunk_whole}
use Rattle.words.specs.Words.{with_float, with_number, with_words, with_floats}
use Rattle.words.proofs.Written.{number_put}
use Rattle.limiter.proofs.Blocks.{part_length}
use Rattle.limiter.proofs.LaneBits.{patterns, patterns_are}
use Rattle.limiter.proofs.LaneBytes.{digits_are, words_put}

bits_fit : (xs : List Float) → Each1 (λ x. T (fits binary32 x)) xs → Each1 (λ w. w < 256 ^ 4) (map (to_bits binary32) xs)
bits_fit [] h = tt
bits_fit (x ∷ xs) h = (to_bits-lt binary32 x h.0, bits_fit xs h.1)

floats_are : (s : List ℕ) (at : ℕ) (xs : List Float) → with_words s at (map (to_bits binary32) xs) ≡ with_floats s at xs
unfolding with_float
floats_are s at [] = refl
floats_are s at (x ∷ xs) = floats_are (with_float s at x) (at + 4) xs

-- what `put_lanes` leaves
pub lanes_put : (s : List ℕ) (at : ℕ) (xs : List Float) → length xs ≡ 4 → Each1 (λ x. T (fits binary32 x)) xs → at + 16 ≤ length s
    → put_mid at (at + 16 - at) s (put_chunk 0 (take (at + 16 - at) (drop at s)) (digits_l 256 16 (number_l (2 ^ 32) (patterns 4 xs)))) ≡ with_floats s at xs
lanes_put s at xs e f h =
    let ws = map (to_bits binary32) xs in
    let v = number_l (256 ^ 4) ws in
    ap (λ (w : List ℕ). put_mid at (at + 16 - at) s (put_chunk 0 (take (at + 16 - at) (drop at s)) (digits_l 256 16 (number_l (2 ^ 32) w)))) (patterns_are 4 xs e)
    ∙ number_put s at (at + 16) 16 v (put_chunk 0 (take (at + 16 - at) (drop at s)) (digits_l 256 16 v)) refl h
    (put_chunk_whole (take (at + 16 - at) (drop at s)) (digits_l 256 16 v) (part_length 16 at s h) ∙ digits_are 16 v)
    ∙ ap (λ (n : ℕ). with_number s at n v) (let e : 16 ≡ 4 * length ws = rw (length-map xs (to_bits binary32), e) refl in e)
    ∙ words_put s at ws (bits_fit xs f)
    ∙ floats_are s at xs
