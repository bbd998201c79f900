-- The samples of a strip, a part of a run: those of a shorter run. Assumes nothing.
use mathlib.Core.Path.{◌≡◌, sym, subst}
use mathlib.Core.List.{List}
use Prim.Native.Nat.{ℕ, ◌+◌, ◌*◌, ◌<◌, ◌≤◌}
use native.Mathlib.Omega.{arith}
use lib.ListN.{length}
use Rattle.mixing.specs.SampleBits.{Plain}
use Rattle.render.specs.Framed.{Framed}
use Rattle.render.specs.declared.Span.{Span}
use Rattle.render.proofs.ChannelRows.{reached}

-- k samples stand from `at` on, and none is a NaN
pub record Stand (pcm : List ℕ) (at k : ℕ) : Type 0 where
  pub room : at + 4 * k ≤ length pcm
  pub plain : Plain pcm at k

-- the k samples of channel j from the run's sample i on
pub strip_stands : (pcm : List ℕ) (s : Span) (m : ℕ) → Framed pcm m s.frame → (i k j at : ℕ) → j < m → i + k ≤ s.count
    → at ≡ 4 * (j * s.frame + (s.first + i)) → Stand pcm at k
strip_stands pcm s m f i k j at h l e =
    let t : Span = record { frame = s.frame; first = s.first + i; count = k; within = let w = s.within in omega arith; short = let w = s.short in omega arith } in
    let r = reached pcm t j m f h in
    record { room = let r = r.room in omega arith; plain = subst (λ (a : ℕ). Plain pcm a k) (sym e) r.plain }
