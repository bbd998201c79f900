-- R-12 heard: an update that is sent with the first frame and lies two samples ahead. The frames have one sample each; in the third, which brings no metadata, the object is heard
-- where that update puts it. Where the third brings an update of its own at that sample, the one that waited comes first, so the frame's own decides. Assumes nothing.
use Prim.Native.Nat.{ℕ}
use mathlib.Core.Path.{refl}
use mathlib.Core.List.{List, [], ◌∷◌, ◌++◌}
use lib.ListN.{replicate}
use Rattle.rules.specs.Refusals.{Args}
use Rattle.rules.specs.Calls.{Call, push}
use Rattle.rules.specs.Demand3.{Lent, AllLent}
use Rattle.theorem.proofs.ZeroBytes.{zero_bytes}
use Rattle.theorem.proofs.Opened.{everything, judging}
use Rattle.theorem.proofs.Heard.{frame, half, small_bytes}
use Rattle.theorem.proofs.HoldHeard.{zero_word, at_once, eight, block_from, at_front, element, emptied, to_right, Told, Hears, hears, lent_out}

-- ---- the calls

-- one dynamic object at offset 0, which starts at the origin; and an update of kind 9 with the offset 2 that puts it at the front left
abbrev one_object : List ℕ
one_object = 1 ∷ 0 ∷ 0 ∷ 0 ∷ 1 ∷ replicate 35 0

abbrev far_update : List ℕ
far_update =
    ((9 ∷ 0 ∷ 0 ∷ 0 ∷ 1 ∷ 0 ∷ 0 ∷ 1 ∷ replicate 20 0) ++ (2 ∷ replicate 11 0)) ++ element (block_from at_once (eight 0)) (at_front zero_word)

abbrev sending : Args
sending = frame half (one_object ++ far_update) [] 1

abbrev plain : Args
plain = frame half [] [] 1

abbrev pub ahead : List Call
ahead = push sending ∷ emptied ∷ push plain ∷ emptied ∷ push plain ∷ emptied ∷ []

-- the third brings an update of its own, which puts the object at the front right
abbrev pub overtaken : List Call
overtaken = push sending ∷ emptied ∷ push plain ∷ emptied ∷ push (to_right 0) ∷ emptied ∷ []

-- ---- by the rules

told_first : Told ahead 1 (2 ∷ 6 ∷ 7 ∷ [])
unfolding everything judging
told_first = refl

told_second : Told ahead 3 (2 ∷ 6 ∷ 7 ∷ [])
unfolding everything judging
told_second = refl

told_third : Told ahead 5 (0 ∷ [])
unfolding everything judging
told_third = refl

told_own : Told overtaken 5 (1 ∷ [])
unfolding everything judging
told_own = refl

-- ---- in a renderer of layout 0 made in any block, as the host sees it

lent_sending : Lent (push sending)
lent_sending = (small_bytes half tt, small_bytes sending.meta tt, zero_bytes 3072, small_bytes [] tt)

lent_plain : Lent (push plain)
lent_plain = (small_bytes half tt, small_bytes [] tt, zero_bytes 3072, small_bytes [] tt)

lent_own : Lent (push (to_right 0))
lent_own = (small_bytes half tt, small_bytes (to_right 0).meta tt, zero_bytes 3072, small_bytes [] tt)

lent_ahead : AllLent ahead
lent_ahead = (lent_sending, (lent_out, (lent_plain, (lent_out, (lent_plain, (lent_out, tt))))))

-- "is applied in the frame where its sample falls": not in the first and the second, but in the third
pub heard_ahead : Hears ahead 1 (2 ∷ 6 ∷ 7 ∷ []) × Hears ahead 3 (2 ∷ 6 ∷ 7 ∷ []) × Hears ahead 5 (0 ∷ [])
heard_ahead = (
  hears ahead 1 (2 ∷ 6 ∷ 7 ∷ []) lent_ahead told_first,
  hears ahead 3 (2 ∷ 6 ∷ 7 ∷ []) lent_ahead told_second,
  hears ahead 5 (0 ∷ []) lent_ahead told_third,
)

-- "before that frame's own updates of the same offset"
pub own_decides : Hears overtaken 5 (1 ∷ [])
own_decides = hears overtaken 5 (1 ∷ []) (lent_sending, (lent_out, (lent_plain, (lent_out, (lent_own, (lent_out, tt)))))) told_own
