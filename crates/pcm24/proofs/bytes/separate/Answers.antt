-- `separate`: four samples more, four channels more, and all. Assumes nothing.
use mathlib.Core.Path.{◌≡◌, sym, ap, ap₂, ◌∙◌}
use mathlib.Core.List.{List}
use Prim.Native.Nat.{ℕ, ◌+◌, ◌*◌, ◌/◌, ◌%◌, ◌^◌, ◌<◌, ◌≤◌}
use native.Mathlib.Nat.{mul-le-mul_right}
use native.Mathlib.Omega.{arith}
use lib.ListN.{get_or}
use lib.Ieee.{binary32, to_bits}
use Rattle.words.specs.Words.{Bytes, number}
use Rattle.pcm24.proofs.Three.{first_code, second_code, third_code, fourth_code}
use Rattle.pcm24.specs.Codes.{sample_24}
use Rattle.pcm24.specs.Interleaved.{in_rows, word_read}
use Rattle.pcm24.proofs.Table.{table_read}
use Rattle.pcm24.proofs.Separating.{word_small, none_spread, next_spread, spread_more, all_spread}
use Rattle.pcm24.proofs.bytes.separate.Goals as goal

pub loop-four-init : goal.loop-four-init
loop-four-init c = none_spread _ _ _ _ (omega arith) (λ i. (c.type_inv.dest i).fits)

pub loop-i-init : goal.loop-i-init
loop-i-init c = c.loop-four.invariant

-- the word of the float that code c of sample i is read as
word_of : (s : List ℕ) (n c i at k code w : ℕ) → c < 12 → i < n → at ≡ 36 * i + 3 * c → c * n + i ≡ k → code ≡ number s at 3 → w ≡ to_bits binary32 (sample_24 code)
    → (w < 2 ^ 32) × (w ≡ get_or (in_rows (word_read s) 12 n) k 0)
word_of s n c i at k code w h q e f is v =
    let r : w ≡ word_read s c i = v ∙ ap (λ (m : ℕ). to_bits binary32 (sample_24 m)) (is ∙ ap (λ (p : ℕ). number s p 3) e) in
    (rw r (word_small s c i), r ∙ sym (table_read (word_read s) n 12 c i h q) ∙ ap (λ (p : ℕ). get_or (in_rows (word_read s) 12 n) p 0) f)

pub loop-i-preserved : goal.loop-i-preserved
loop-i-preserved c =
    let s = c.args.source.now in
    let n = c.args.count in
    let four = c.loop-four.four in
    let i = c.loop-i.i in
    let at = 36 * i + 12 * four in
    let bytes : Bytes s = λ i. (c.type_inv.source i).fits in
    let room : 4 * four * n + 4 * n ≤ 12 * n = let k : (4 * four + 4) * n ≤ 12 * n = mul-le-mul_right n (omega arith) in omega arith in
    let u = c.u32_at-u.result in
    let v = c.u32_at-v.result in
    let w = c.u32_at-w.result in
    let ia : u % 16777216 ≡ number s at 3 = ap (λ (x : ℕ). x % 16777216) c.u32_at-u.ensures ∙ sym (first_code s bytes at) in
    let fb : u / 16777216 + v % 65536 * 256 % 4294967296 ≡ u / 16777216 + v % 65536 * 256 = omega arith in
    let ib : u / 16777216 + v % 65536 * 256 % 4294967296 ≡ number s (at + 3) 3 = fb ∙ ap₂ (λ (x y : ℕ). x / 16777216 + y % 65536 * 256) c.u32_at-u.ensures c.u32_at-v.ensures ∙ sym (second_code s bytes at) in
    let fd : v / 65536 + w % 256 * 65536 % 4294967296 ≡ v / 65536 + w % 256 * 65536 = omega arith in
    let id : v / 65536 + w % 256 * 65536 % 4294967296 ≡ number s (at + 6) 3 = fd ∙ ap₂ (λ (x y : ℕ). x / 65536 + y % 256 * 65536) c.u32_at-v.ensures c.u32_at-w.ensures ∙ sym (third_code s bytes at) in
    let ie : w / 256 ≡ number s (at + 9) 3 = ap (λ (x : ℕ). x / 256) c.u32_at-w.ensures ∙ sym (fourth_code s bytes at) in
    let a = word_of s n (4 * four) i at (4 * four * n + i) (u % 16777216) c.sample_bits-a.result (omega arith) c.loop-i-test.true (omega arith) (omega arith) ia c.sample_bits-a.ensures in
    let b = word_of s n (4 * four + 1) i (at + 3) (4 * four * n + n + i) (u / 16777216 + v % 65536 * 256 % 4294967296) c.sample_bits-b.result (omega arith) c.loop-i-test.true (omega arith) (omega arith) ib c.sample_bits-b.ensures in
    let d = word_of s n (4 * four + 2) i (at + 6) (4 * four * n + 2 * n + i) (v / 65536 + w % 256 * 65536 % 4294967296) c.sample_bits-c.result (omega arith) c.loop-i-test.true (omega arith) (omega arith) id c.sample_bits-c.ensures in
    let e = word_of s n (4 * four + 3) i (at + 9) (4 * four * n + 3 * n + i) (w / 256) c.sample_bits-d.result (omega arith) c.loop-i-test.true (omega arith) (omega arith) ie c.sample_bits-d.ensures in
    spread_more (λ k. get_or (in_rows (word_read s) 12 n) k 0) c.args.dest.now c.loop-i.dest n (4 * four * n) i (4 * (4 * four * n + i)) (omega arith) room c.loop-i-test.true (omega arith)
    a.0 b.0 d.0 e.0 a.1 b.1 d.1 e.1
    c.put_u32.ensures c.put_u32-in-loop-i.ensures c.put_u32-in-loop-i-2.ensures c.put_u32-in-loop-i-3.ensures c.loop-i.invariant

pub loop-four-preserved : goal.loop-four-preserved
loop-four-preserved c =
    next_spread _ c.args.dest.now c.loop-i.dest c.args.count (4 * c.loop-four.four * c.args.count) (4 * (c.loop-four.four + 1) * c.args.count) c.loop-i.i (omega arith) c.loop-i-test.false c.loop-i.invariant

pub returns : goal.returns
returns c =
    let k : 12 * c.args.count ≤ 4 * c.loop-four.four * c.args.count = mul-le-mul_right c.args.count (omega arith) in
    all_spread (word_read c.args.source.now) c.args.dest.now c.loop-four.dest c.args.count (4 * c.loop-four.four * c.args.count) (omega arith) c.loop-four.auto.dest c.requires.dest c.loop-four.invariant
