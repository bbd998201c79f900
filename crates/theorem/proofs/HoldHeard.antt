-- R-11 heard: "During rehearsal an operator freezes one object although its ramp has not ended." An object is at the front left and then moves to the front right. Held, it is heard
-- on the left speaker yet, where without the hold it is on its way; released, it goes on from there with what remains of its ramp, and past the ramp's end it is at its target.
-- Each push has one sample and an update at offset 0, which starts a slot. Assumes nothing.
use Prim.Native.Nat.{ℕ, ◌+◌}
use mathlib.Core.Path.{◌≡◌, refl, subst, sym}
use mathlib.Core.List.{List, [], ◌∷◌, ◌++◌}
use lib.Dec.{lit≤}
use lib.ListN.{length, get_or, replicate}
use Rattle.words.specs.Words.{Bytes}
use Rattle.panning.specs.Setup.{hall_with}
use Rattle.rules.specs.Samples.{fresh}
use Rattle.rules.specs.Refusals.{Args}
use Rattle.rules.specs.Calls.{Call, push, flush, hold, release, make}
use Rattle.rules.specs.BlockCalls.{made, Seen, seen_on, told}
use Rattle.rules.specs.Demand3.{Lent, AllLent}
use Rattle.theorem.specs.Instance.{hall, block}
use Rattle.theorem.proofs.ZeroBytes.{zero_bytes}
use Rattle.theorem.proofs.Demand3.{layout_made, demand3_in}
use Rattle.theorem.proofs.Opened.{everything, judging}
use Rattle.theorem.proofs.Heard.{frame, half, small_bytes, unseen}
use Rattle.theorem.proofs.Elsewhere.{HeardOn}

-- ---- the calls

abbrev pub zero_word : List ℕ
zero_word = replicate 4 0

abbrev pub one_word : List ℕ
one_word = 0 ∷ 0 ∷ 128 ∷ 63 ∷ []

-- a block with an offset and a ramp of eight bytes each
abbrev pub block_from : List ℕ → List ℕ → List ℕ
block_from offset ramp = (3 ∷ replicate 7 0) ++ (offset ++ (ramp ++ replicate 16 0))

abbrev pub eight : ℕ → List ℕ
eight n = n ∷ replicate 7 0

abbrev pub at_once : List ℕ
at_once = replicate 8 255

-- an object in a block: one that says nothing; at gain 1 and x on the floor at the front. Its factors are 1.
abbrev factors : List ℕ
factors = one_word ++ (one_word ++ zero_word)

abbrev pub silent : List ℕ
silent = (4 ∷ replicate 27 0) ++ factors

abbrev pub at_front : List ℕ → List ℕ
at_front x = (4 ∷ 0 ∷ 13 ∷ 0 ∷ []) ++ (one_word ++ (x ++ (replicate 16 0 ++ factors)))

-- an element of one object and two blocks: the first has the offset 0 and says nothing
abbrev pub element : List ℕ → List ℕ → List ℕ
element second said = (2 ∷ 2 ∷ replicate 38 0) ++ (block_from (eight 0) (eight 0) ++ (second ++ (silent ++ said)))

-- an update of one object and such an element, at offset 0
abbrev update : List ℕ → List ℕ → List ℕ
update second said = (1 ∷ 0 ∷ 0 ∷ 0 ∷ 1 ∷ 0 ∷ 0 ∷ 1 ∷ replicate 32 0) ++ element second said

-- at the front left; moved to the front right by a ramp of which so much is left at once; a new slot of the same element, no block of which is due
abbrev pub at_left : Args
at_left = frame half (update (block_from at_once (eight 0)) (at_front zero_word)) [] 1

abbrev pub to_right : ℕ → Args
to_right left = frame half (update (block_from at_once (eight (1 + left))) (at_front one_word)) [] 1

abbrev next_slot : Args
next_slot = frame half (update (block_from (eight 5) (eight 0)) silent) [] 1

abbrev pub emptied : Call
emptied = flush (replicate 3072 0) 64

-- with and without the hold
abbrev pub holding : List Call
holding = push at_left ∷ emptied ∷ hold 0 ∷ push (to_right 192) ∷ emptied ∷ []

abbrev pub moving : List Call
moving = push at_left ∷ emptied ∷ push (to_right 192) ∷ emptied ∷ []

-- 192 samples of the ramp were left at the held slot, 128 are at the next: half of the way from where it stands
abbrev pub releasing : List Call
releasing = push at_left ∷ emptied ∷ hold 0 ∷ push (to_right 192) ∷ emptied ∷ release 0 ∷ push next_slot ∷ emptied ∷ []

-- none is left
abbrev pub releasing_late : List Call
releasing_late = push at_left ∷ emptied ∷ hold 0 ∷ push (to_right 64) ∷ emptied ∷ release 0 ∷ push next_slot ∷ emptied ∷ []

-- ---- by the rules, of call number i of the list

abbrev pub Told : List Call → ℕ → List ℕ → Type 0
Told cs i channels = HeardOn channels (get_or (told hall block (fresh hall (hall_with 0)) cs) i unseen)

told_before : Told holding 1 (0 ∷ [])
unfolding everything judging
told_before = refl

told_held : Told holding 4 (0 ∷ [])
unfolding everything judging
told_held = refl

told_moving : Told moving 3 (0 ∷ 2 ∷ [])
unfolding everything judging
told_moving = refl

told_released : Told releasing 7 (2 ∷ [])
unfolding everything judging
told_released = refl

told_late : Told releasing_late 4 (0 ∷ []) × Told releasing_late 7 (1 ∷ [])
unfolding everything judging
told_late = (refl, refl)

-- ---- in a renderer of layout 0 made in any block, as the host sees it

abbrev pub Hears : List Call → ℕ → List ℕ → Type 0
Hears cs i channels =
    (b : List ℕ) → Bytes b → length b ≡ block.size → HeardOn channels (get_or (seen_on hall block (made hall block (make 0) b).state cs) i unseen)

pub hears : (cs : List Call) (i : ℕ) (channels : List ℕ) → AllLent cs → Told cs i channels → Hears cs i channels
hears cs i channels l t b bs e = subst (λ (s : List (Seen hall block)). HeardOn channels (get_or s i unseen)) (sym (demand3_in (layout_made 0 (lit≤ tt)) b bs e cs l).seen) t

lent_left : Lent (push at_left)
lent_left = (small_bytes half tt, small_bytes at_left.meta tt, zero_bytes 3072, small_bytes [] tt)

lent_right : Lent (push (to_right 192))
lent_right = (small_bytes half tt, small_bytes (to_right 192).meta tt, zero_bytes 3072, small_bytes [] tt)

lent_soon : Lent (push (to_right 64))
lent_soon = (small_bytes half tt, small_bytes (to_right 64).meta tt, zero_bytes 3072, small_bytes [] tt)

lent_next : Lent (push next_slot)
lent_next = (small_bytes half tt, small_bytes next_slot.meta tt, zero_bytes 3072, small_bytes [] tt)

pub lent_out : Lent emptied
lent_out = zero_bytes 3072

lent_holding : AllLent holding
lent_holding = (lent_left, (lent_out, (tt, (lent_right, (lent_out, tt)))))

-- held, it is on the left speaker before and after; without the hold it is on its way
pub hold_heard : Hears holding 1 (0 ∷ []) × Hears holding 4 (0 ∷ []) × Hears moving 3 (0 ∷ 2 ∷ [])
hold_heard = (
  hears holding 1 (0 ∷ []) lent_holding told_before,
  hears holding 4 (0 ∷ []) lent_holding told_held,
  hears moving 3 (0 ∷ 2 ∷ []) (lent_left, (lent_out, (lent_right, (lent_out, tt)))) told_moving,
)

-- "Release takes effect at the next slot: an unfinished ramp goes on from the held position with what remains, a finished one puts the object at its target": halfway between left and
-- right is the centre, and the target is the right speaker, until then the left one
pub release_heard : Hears releasing 7 (2 ∷ []) × Hears releasing_late 4 (0 ∷ []) × Hears releasing_late 7 (1 ∷ [])
release_heard =
    let late : AllLent releasing_late = (lent_left, (lent_out, (tt, (lent_soon, (lent_out, (tt, (lent_next, (lent_out, tt)))))))) in (
      hears releasing 7 (2 ∷ []) (lent_left, (lent_out, (tt, (lent_right, (lent_out, (tt, (lent_next, (lent_out, tt)))))))) told_released,
      hears releasing_late 4 (0 ∷ []) late told_late.0,
      hears releasing_late 7 (1 ∷ []) late told_late.1,
    )
