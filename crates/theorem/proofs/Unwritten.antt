-- R-5: "Output places of absent channels are not written": by no call of any list, on the bytes of the output. Assumes nothing.
use Prim.Native.Nat.{ℕ, ◌+◌, ◌*◌, ◌≤◌, ◌<◌, zero-le}
use mathlib.Core.Path.{◌≡◌, sym, subst}
use mathlib.Core.Bool.{Bool, false, cond}
use mathlib.Core.List.{List, [], ◌∷◌, ◌++◌}
use lib.ListN.{length, get_or}
use Rattle.words.specs.Words.{Bytes}
use Rattle.panning.specs.Setup.{Setup, present}
use Rattle.rules.specs.Samples.{State, fresh}
use Rattle.rules.specs.Calls.{Call, step, final}
use Rattle.rules.specs.BlockCalls.{out_of, stride_of, made, final_on}
use Rattle.rules.specs.Demand3.{ready, GivenOut, AllGivenOut, Lent, AllLent}
use Rattle.theorem.specs.Instance.{hall, block}
use Rattle.theorem.specs.Halls.{MakesHall}
use Rattle.theorem.proofs.Demand3.{demand3_in}
use Rattle.theorem.proofs.Players.{all_lent}

last_given : (cs : List Call) (r : State hall) (b : List ℕ) (c : Call) → AllGivenOut hall block r b (cs ++ (c ∷ []))
    → GivenOut (final hall r cs).setup (stride_of c) (out_of c) (made hall block c (final_on hall block b cs))
last_given [] r b c h = h.0
last_given (d ∷ cs) r b c h = last_given cs (step hall r d).next (made hall block d b).state c h.1

-- the block d that a list leaves, from a renderer made for the hall h in any block b, and one call more
pub absent_unwritten : (b : List ℕ) → Bytes b → length b ≡ block.size → (m : Call) (h : Setup) → MakesHall m h → (cs : List Call) → AllLent cs → (c : Call) → Lent c
    → let d = final_on hall block (made hall block m b).state cs in
    (k i : ℕ) → k < 12 → present (final hall (fresh hall h) cs).setup.layout k ≡ false → i < 4 * stride_of c
    → get_or (made hall block c d).out (4 * (k * stride_of c) + i) 0 ≡ get_or (out_of c) (4 * (k * stride_of c) + i) 0
absent_unwritten b bytes e m h makes cs lent c l k i twelve away near =
    let all = (demand3_in makes b bytes e (cs ++ (c ∷ [])) (all_lent cs c lent l)).range in
    let o = last_given cs (fresh hall h) (made hall block m b).state c all in
    let n : ℕ = ready (made hall block c (final_on hall block (made hall block m b).state cs)).answer in
    o.beside k i twelve (subst (λ (x : Bool). 4 * cond x n 0 ≤ i) (sym away) zero-le) near
