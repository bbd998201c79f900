-- R-4 is met by samples that are there: two pushes of one sample each, in a renderer made in any block, and both stand in the block's places, one behind the other. Assumes
-- nothing.
use Prim.Native.Nat.{ℕ, ◌<◌}
use mathlib.Core.Path.{◌≡◌, refl, ap, ◌∙◌}
use mathlib.Core.Bool.{◌&&◌}
use mathlib.Core.List.{List, [], ◌∷◌}
use lib.Dec.{T, lit<, lit≤}
use lib.ListN.{length, get_or}
use lib.Ieee.{Float, binary32, lt, of_bits}
use Rattle.words.specs.Words.{Bytes, word, float_at}
use Rattle.formats.specs.Areas.{row_places}
use Rattle.rules.specs.Parts.{0·0}
use Rattle.rules.specs.Samples.{hall_with, State, fresh}
use Rattle.rules.specs.Refusals.{Args}
use Rattle.rules.specs.Demand3.{AllLent}
use Rattle.rules.specs.Calls.{Call, push, make, step, final}
use Rattle.rules.specs.BlockCalls.{made, final_on}
use Rattle.rules.proofs.Theorems.{right_hall}
use Rattle.theorem.specs.Instance.{hall, block, block_encode}
use Rattle.theorem.specs.Appends.{place_at}
use Rattle.theorem.proofs.BlockRanges.{AllRanged}
use Rattle.theorem.proofs.Demand3.{layout_made, demand3_in, fresh_within, stepped_within}
use Rattle.theorem.proofs.Opened.{everything}
use Rattle.theorem.proofs.Heard.{frame, bed, lent}
use Rattle.theorem.proofs.Appends.{encoded_word}

-- a sample of 0.25 more, behind the 0.5
abbrev pub again : Args
again = frame (0 ∷ 0 ∷ 128 ∷ 62 ∷ []) [] (0 ∷ []) 0

abbrev calls : List Call
calls = push bed ∷ push again ∷ []

abbrev second : State hall
second = final hall (fresh hall (hall_with 0)) calls

-- y is heard, and x is louder
abbrev pub Louder : Float → Float → Type 0
Louder x y = T (lt 0·0 y && lt y x)

-- ---- by the rules

told_both : Louder (of_bits binary32 (get_or (second.pending.places 0) 0 0)) (of_bits binary32 (get_or (second.pending.places 0) 1 0))
unfolding everything
told_both = tt

lent_calls : AllLent calls
lent_calls = ((lent bed.pcm bed.meta bed.codes 0 tt tt tt).0, ((lent again.pcm [] again.codes 0 tt tt tt).0, tt))

ranged : AllRanged second
ranged =
    stepped_within (step hall (fresh hall (hall_with 0)) (push bed)).next (push again) lent_calls.1.0
    (stepped_within (fresh hall (hall_with 0)) (push bed) lent_calls.0 (fresh_within (hall_with 0) (right_hall 0 (lit≤ tt))))

-- ---- on the block's bytes

float_of : (b : List ℕ) (at : ℕ) → float_at b at ≡ of_bits binary32 (word b at)
unfolding float_at
float_of b at = refl

pub both_wait : (b : List ℕ) → Bytes b → length b ≡ block.size → let d = final_on hall block (made hall block (make 0) b).state calls in
    Louder (float_at d (place_at 0 0)) (float_at d (place_at 0 1))
both_wait b bytes e =
    let d : final_on hall block (made hall block (make 0) b).state calls ≡ block_encode second = (demand3_in (layout_made 0 (lit≤ tt)) b bytes e calls lent_calls).block in
    let at : (i : ℕ) → i < row_places → float_at (block_encode second) (place_at 0 i) ≡ of_bits binary32 (get_or (second.pending.places 0) i 0) =
    λ i h. float_of (block_encode second) (place_at 0 i) ∙ ap (of_bits binary32) (encoded_word second ranged 0 i (lit< tt) h) in
    rw (d, at 0 (lit< tt), at 1 (lit< tt)) told_both
