-- "writing and then reading differs from the sample by at most 2^-23", of the bytes of both calls. Assumes nothing.
use mathlib.Core.Path.{◌≡◌, refl, sym, ap, subst, ◌∙◌}
use mathlib.Core.Bool.{Bool, true, false, cond}
use mathlib.Core.List.{List}
use Prim.Native.Nat.{ℕ, ◌+◌, ◌*◌, ◌/◌, ◌%◌, ◌≤◌, ◌<◌}
use native.Mathlib.Omega.{arith}
use borrow.Author.Tests.{ltb-false, le-ltb, eq-eqb}
use lib.Dec.{ltb}
use lib.ListN.{length, take}
use lib.Seq.{length-take-le}
use lib.Ieee.{binary32, of_bits}
use lib.Ieee.Bits.{of_bits-to_bits}
use lib.Ieee.Fits.{div-fits}
use Rattle.std.specs.Prelude.{Result, Ok, Err}
use Rattle.std.proofs.lemmas.List.{get_or-take}
use Rattle.words.specs.Words.{number, word, float_at}
use Rattle.pcm24.specs.Codes.{sample_24, code_24}
use Rattle.pcm24.specs.Interleaved.{in_rows, code_at, interleaved, in_channels}
use Rattle.pcm24.specs.Refused.{has_rows, writable, rows_writable, judged_to_write, judged_to_read}
use Rattle.pcm24.specs.WrittenRead.{StepApart, WrittenRead}
use Rattle.pcm24.specs.declared.Fault.{Fault}
use Rattle.pcm24.specs.declared.Fault.TheVariants.{Output, Count, Destination, Sample}
use Rattle.pcm24.proofs.Nearest.{code_small}
use Rattle.pcm24.proofs.Near.{near, sample_bounded}
use Rattle.pcm24.proofs.Passes.{unit_bounded, sample_passes}
use Rattle.pcm24.proofs.RoundTrip.{numbers_length, number_same, code_stands, channel_word}

-- what a call of writing that is accepted has been asked
record Asked (out : List ℕ) (stride n dest : ℕ) : Type 0 where
  room : 36 * n ≤ dest
  writable : rows_writable out stride n 12 0 ≡ true

abbrev IsOk : Result ℕ Fault → Type 0
IsOk (Ok n) = Unit {0}
IsOk (Err f) = ⊥

asked : (out : List ℕ) (stride n dest : ℕ) → judged_to_write out stride n dest ≡ Ok n → Asked out stride n dest
asked out stride n dest e = by (has_rows stride (length out)) (ltb stride n) (ltb dest (36 * n)) refl (rows_writable out stride n 12 0) refl (subst IsOk (sym e) tt)
  where
    by : (a b c : Bool) → ltb dest (36 * n) ≡ c → (d : Bool) → rows_writable out stride n 12 0 ≡ d
        → IsOk (cond a (cond b (Err Count) (cond c (Err Destination) (cond d (Ok n) (Err Sample)))) (Err Output)) → Asked out stride n dest
    by true false false p true q t = record { room = ltb-false dest (36 * n) p; writable = q }
    by true false false p false q t = absurd t
    by true false true p d q t = absurd t
    by true true c p d q t = absurd t
    by false b c p d q t = absurd t

-- ---- the bytes that are written, and the samples that are read from them
module _ (out dest into : List ℕ) (stride n : ℕ) (asks : Asked out stride n (length dest)) (enough : 48 * n ≤ length into) where
  abbrev laid : List ℕ
  laid = interleaved out stride n dest

  abbrev bytes : List ℕ
  bytes = take (36 * n) laid

  whole : length bytes ≡ 36 * n
  whole = length-take-le (36 * n) laid (let l = numbers_length 3 (in_rows (code_at out stride) n 12) dest 0 in let r = asks.room in omega arith)

  counted : length bytes / 36 ≡ n
  counted = omega (arith, whole)

  taken : judged_to_read (length bytes) (length into) ≡ Ok n
  taken =
      let a : 36 * n % 36 ≡ 0 = omega arith in
      let b : 36 * n / 36 ≡ n = omega arith in
      ap (λ (k : ℕ). judged_to_read k (length into)) whole ∙ rw (eq-eqb (36 * n % 36) 0 a, b, le-ltb (length into) (48 * n) enough) refl

  code_is : (c i : ℕ) → c < 12 → i < n → number bytes (36 * i + 3 * c) 3 ≡ code_at out stride i c
  code_is c i h q =
      number_same laid bytes (36 * i + 3 * c) 3 (λ k l. get_or-take (36 * n) laid k 0 (omega arith))
      ∙ code_stands out dest stride n asks.room i c q h

  read_is : (c i : ℕ) → c < 12 → i < n → float_at (in_channels bytes n into) (4 * (c * n + i)) ≡ sample_24 (code_at out stride i c)
  unfolding float_at
  read_is c i h q =
      ap (of_bits binary32) (channel_word bytes into n enough c i h q) ∙ of_bits-to_bits binary32 (sample_24 (number bytes (36 * i + 3 * c) 3)) (div-fits binary32 _ _)
      ∙ ap sample_24 (code_is c i h q)

  step : (c i : ℕ) → c < 12 → i < n → StepApart (sample_24 (code_at out stride i c)) (float_at out (4 * (c * stride + i)))
  unfolding float_at
  step c i h q =
      let w = word out (4 * (c * stride + i)) in
      let p : writable (of_bits binary32 w) ≡ true = sample_passes out stride n asks.writable c i h q in
      record { one = (sample_bounded (code_24 (of_bits binary32 w)) (code_small (of_bits binary32 w))).f32; other = (unit_bounded w p).f32; apart = near w p }

pub written_read : WrittenRead
written_read out stride n dest into e enough =
    let asks = asked out stride n (length dest) e in
    rw (e)
    (record {
      accepted = taken out dest into stride n asks enough;
      samples = λ c i h q.
          rw (taken out dest into stride n asks enough, counted out dest into stride n asks enough, read_is out dest into stride n asks enough c i h q)
          (step out dest into stride n asks enough c i h q);
    })
