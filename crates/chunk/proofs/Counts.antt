-- What sounds in a chunk is within what the frame has. Assumes nothing.
use mathlib.Core.Path.{◌≡◌}
use mathlib.Core.Bool.{Bool, true, false, cond}
use mathlib.Core.List.{List}
use Prim.Native.Nat.{ℕ, ◌+◌, ◌*◌, ◌≤◌}
use native.Mathlib.Nat.{add-zero, mul-le-mul_right}
use native.Mathlib.Omega.{arith}
use Rattle.render.specs.Framed.{Framed}
use Rattle.render.specs.declared.Span.{Span}

-- ---- a count, or none before the first update

pub count_within : (q : Bool) {r count limit : ℕ} → r ≡ cond q count 0 → count ≤ limit → r ≤ limit
count_within true e h = rw e h
count_within false e h = rw e (omega arith)

-- PCM that suffices for more channels suffices for fewer
fewer : (pcm : List ℕ) (n a b : ℕ) → Framed pcm (a + b) n → Framed pcm a n
fewer pcm n a b f =
    let e : a * n ≤ (a + b) * n = mul-le-mul_right n (omega arith) in
    record { room = let r = f.room in omega arith; plain = λ j l. f.plain j (omega arith) }

pub framed_within : (q : Bool) (pcm : List ℕ) (m count : ℕ) (s : Span) {r : ℕ} → r ≡ cond q count 0 → Framed pcm (m + count) s.frame → Framed pcm (m + r) s.frame
framed_within true pcm m count s e h = rw e h
framed_within false pcm m count s e h = rw (e, add-zero) (fewer pcm s.frame m count h)
