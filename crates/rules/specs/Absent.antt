-- R-5: the places of a channel that the hall lacks, in a renderer of any bits: no rule reads them, and no call but one that starts anew writes them. Assumes nothing.
use Rattle.std.specs.Prelude.{ℕ, ◌≡◌, Bool, true, false, List, T, map}
use Rattle.panning.specs.Setup.{present}
use Rattle.rules.specs.Leaves.{Leaves}
use Rattle.rules.specs.Samples.{State}
use Rattle.rules.specs.Refusals.{is_clear}
use Rattle.rules.specs.Making.{layout_found, table_found}
use Rattle.rules.specs.Calls.{Call, push, flush, reset, make, make_with, mark, find, Result, run, final}

-- a reset and an accepted making call start anew
abbrev pub starts_anew : Call → Bool
starts_anew (push a) = false
starts_anew (flush out stride) = false
starts_anew reset = true
starts_anew (make n) = is_clear (layout_found n)
starts_anew (make_with n t) = is_clear (table_found n t)
starts_anew (mark w d) = false
starts_anew (find m) = false

module _ (L : Leaves) where
  -- r and s are alike but for the places of the channels that their hall lacks
  pub record AlikeButAbsent (r s : State L) : Type 0 where
    pub setup : r.setup ≡ s.setup
    pub rate : r.rate ≡ s.rate
    pub clock : r.clock ≡ s.clock
    pub limiter : r.limiter ≡ s.limiter
    pub filter : r.filter ≡ s.filter
    pub meta : r.meta ≡ s.meta
    pub count : r.pending.count ≡ s.pending.count
    pub waits : r.waits ≡ s.waits
    pub places : (c : ℕ) → T (present r.setup.layout c) → r.pending.places c ≡ s.pending.places c

  -- the same answer, with its samples and meters, the same moments, and next renderers that are alike so too
  pub record SameButAbsent (x y : Result L) : Type 0 where
    pub answer : x.answer ≡ y.answer
    pub moments : x.moments ≡ y.moments
    pub next : AlikeButAbsent x.next y.next

  -- so for each call of a list, and at its end
  pub record SameAlong (r s : State L) (cs : List Call) : Type 0 where
    pub answers : map (λ (x : Result L). x.answer) (run L r cs) ≡ map (λ (x : Result L). x.answer) (run L s cs)
    pub moments : map (λ (x : Result L). x.moments) (run L r cs) ≡ map (λ (x : Result L). x.moments) (run L s cs)
    pub final : AlikeButAbsent (final L r cs) (final L s cs)
