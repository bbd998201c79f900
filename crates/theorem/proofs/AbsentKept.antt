-- No call but a making call and a reset changes a byte of the places of a channel that the block's hall lacks: on a block of any bytes. Assumes nothing.
use Prim.Native.Nat.{ℕ, ◌+◌, ◌*◌, ◌/◌, ◌%◌, ◌<◌}
use mathlib.Core.Path.{◌≡◌, refl, ap, ◌∙◌, subst}
use mathlib.Core.Bool.{Bool, true, false, cond}
use mathlib.Core.List.{List, []}
use native.Mathlib.Omega.{arith}
use lib.Dec.{T, eqb, lit≤}
use lib.ListN.{length, get_or}
use Rattle.words.specs.Words.{Bytes}
use Rattle.formats.specs.Areas.{row_count, row_bytes}
use Rattle.panning.specs.Setup.{Setup, present, hall_with}
use Rattle.rules.specs.Samples.{State}
use Rattle.rules.specs.Ranges.{Ranged}
use Rattle.rules.specs.Absent.{starts_anew}
use Rattle.rules.specs.Refusals.{Found, clear, stop, is_clear}
use Rattle.rules.specs.Making.{hall_of, layout_found, table_found}
use Rattle.rules.specs.Calls.{Call, push, flush, reset, make, make_with, mark, find, Answer, refused, rendered, nothing, cleared, marked, place, making, step}
use Rattle.rules.specs.BlockCalls.{left, out_of, stride_of}
use Rattle.rules.specs.Demand3.{Lent}
use Rattle.rules.proofs.Theorems as rules
use Rattle.store.specs.Layout.{places_at, hall_at, size, layout_of, decode}
use Rattle.theorem.specs.Instance.{hall, block, front, block_decode, block_encode, block_valid}
use Rattle.theorem.specs.Appends.{place_at}
use Rattle.theorem.specs.AbsentKept.{SameByte, AbsentKept}
use Rattle.theorem.proofs.BlockRanges.{AllRanged, decoded_of}
use Rattle.theorem.proofs.Front.{front_word}
use Rattle.theorem.proofs.Demand3.{stepped_within}
use Rattle.theorem.proofs.Appends.{place_kept}

module _ (b : List ℕ) (bytes : Bytes b) (call : Call) (lent : Lent call) (h : starts_anew call ≡ false) (c k : ℕ) (row : c < row_count) (near : k < row_bytes) where
  module _ (away : present (block_decode b).setup.layout c ≡ false) (v : block_valid b ≡ true) where
    abbrev next : State hall
    next = (step hall (block_decode b) call).next

    ranged : AllRanged next
    ranged = stepped_within (block_decode b) call lent (decoded_of b bytes v)

    -- byte k is one of place k / 4
    encoded_kept : SameByte b (block_encode next) c k
    encoded_kept =
        let i : ℕ = k / 4 in
        let j : ℕ = k % 4 in
        let s : place_at c i + j ≡ places_at + row_bytes * c + k = omega arith in
        subst (λ (x : ℕ). get_or (block_encode next) x 0 ≡ get_or b x 0) s
        (place_kept b bytes next ranged c i j row (omega arith) (omega arith) (ap (λ (ws : List ℕ). get_or ws i 0) (rules.absent_kept hall (block_decode b) call h c away)))

    by_answer : (a : Answer) → SameByte b (left hall block a next (out_of call) (stride_of call) b).state c k
    by_answer (refused n x y) = refl
    by_answer (rendered given m) = encoded_kept
    by_answer nothing = refl
    by_answer cleared = encoded_kept
    by_answer (marked true) = encoded_kept
    by_answer (marked false) = refl
    by_answer (place p) = refl

  by : (v : Bool) → block_valid b ≡ v → present (block_decode b).setup.layout c ≡ false
      → SameByte b (cond v (left hall block (step hall (block_decode b) call).answer (step hall (block_decode b) call).next (out_of call) (stride_of call) b)
      (record { answer = refused 1 0 0; state = b; out = out_of call })).state c k
  by true e away = by_answer away e (step hall (block_decode b) call).answer
  by false e away = refl

-- a making call that is refused, by what it finds or for the block's length
refused_so : (b : List ℕ) (c k : ℕ) (long : Bool) (v : Found) (h : Setup) → is_clear v ≡ false → let x = making hall v h (block_decode b) in
    SameByte b (cond long (left hall block x.answer x.next [] 0 b) (record { answer = refused 1 0 0; state = b; out = [] })).state c k
refused_so b c k true clear h e = absurd (subst T e tt)
refused_so b c k true (stop n x y) h e = refl
refused_so b c k false v h e = refl

-- the hall is read in the front
same_hall : (b : List ℕ) (c : ℕ) → present (layout_of b) c ≡ false → present (block_decode b).setup.layout c ≡ false
unfolding decode
same_hall b c e = ap (λ (n : ℕ). present n c) (front_word b hall_at (lit≤ tt)) ∙ e

pub absent_kept : AbsentKept
unfolding decode
absent_kept b bytes (push a) lent h c k row away near = by b bytes (push a) lent h c k row near (block_valid b) refl (same_hall b c away)
absent_kept b bytes (flush out stride) lent h c k row away near = by b bytes (flush out stride) lent h c k row near (block_valid b) refl (same_hall b c away)
absent_kept b bytes reset lent h c k row away near = absurd (subst T h tt)
absent_kept b bytes (make n) lent h c k row away near = refused_so b c k (eqb (length b) block.size) (layout_found n) (hall_with n) h
absent_kept b bytes (make_with n t) lent h c k row away near = refused_so b c k (eqb (length b) block.size) (table_found n t) (hall_of n t) h
absent_kept b bytes (mark w d) lent h c k row away near = by b bytes (mark w d) lent h c k row near (block_valid b) refl (same_hall b c away)
absent_kept b bytes (find m) lent h c k row away near = by b bytes (find m) lent h c k row near (block_valid b) refl (same_hall b c away)
