-- A count that is a number is the struct of that number. Assumes nothing.
use Prim.Native.Nat.{ℕ}
use mathlib.Core.Path.{◌≡◌, ap}
use Rattle.clock.specs.declared.StreamSample.{StreamSample}
use Rattle.clock.specs.declared.FrameOffset.{FrameOffset}

pub sample_is : (s : StreamSample) {n : ℕ} → s.0 ≡ n → ◌≡◌ {A = StreamSample} s (record { 0 = n })
sample_is s e = ap (λ (n : ℕ). record { 0 = n }) e

pub offset_is : (o : FrameOffset) {n : ℕ} → o.0 ≡ n → ◌≡◌ {A = FrameOffset} o (record { 0 = n })
offset_is o e = ap (λ (n : ℕ). record { 0 = n }) e
