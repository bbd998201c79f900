-- "These must not pass": the six players that document 01 names, and for each the theorem that no renderer of the rules is one. Each is about every list of calls from a
-- renderer made for any hall in its ranges, with the built-in table or its own, and one call more; `after h cs` is the renderer that the list leaves. Assumes nothing.
use Prim.Native.Nat.{ℕ, ◌+◌, ◌*◌, ◌/◌, ◌%◌, ◌≤◌, ◌<◌}
use mathlib.Core.Path.{◌≡◌, refl, sym, ap, ◌∙◌, subst}
use mathlib.Core.Logic.{inl, inr}
use mathlib.Core.Bool.{true}
use mathlib.Core.List.{List, [], ◌∷◌, ◌++◌}
use native.Mathlib.Omega.{arith}
use lib.Dec.{T, lit≤, lit<}
use lib.Ieee.{le, neg, of_bits}
use lib.ListN.{length}
use Rattle.fields.specs.RecordBytes.{all}
use Rattle.fields.specs.Update.{codes_fit, is_update}
use Rattle.records.specs.Runs.{some, last, each}
use Rattle.records.specs.Laid.{is_whole_update, is_updates, update_at, element_at, laid_out, count}
use Rattle.records.specs.ValuesInRange.{record_in_range, in_range}
use Rattle.records.specs.Falls.{offset_in}
use Rattle.waits.specs.Area.{waits_of}
use Rattle.waits.specs.Settled.{fits}
use Rattle.timed.specs.Turns.{times}
use Rattle.store.specs.Layout.{blank}
use Rattle.words.specs.Words.{number}
use Rattle.panning.specs.Setup.{Setup}
use Rattle.rules.specs.Samples.{State, fresh, pushed}
use Rattle.rules.specs.Ranges.{HallRanged}
use Rattle.rules.specs.Refusals.{Args, clear, room}
use Rattle.rules.specs.Calls.{Call, push, flush, make, given, answered, frame_of, found, step, final}
use Rattle.rules.specs.Accepted.{Acceptable}
use Rattle.rules.specs.Sounds.{limited_blocks, unlimited, whole}
use Rattle.rules.specs.Promises.{count_on, CallHolds, AllHold, AtSample, PushHolds, FlushHolds}
use Rattle.rules.specs.Demand3.{Lent, AllLent}
use Rattle.rules.proofs.Theorems.{accepts}
use Rattle.theorem.specs.Instance.{hall}
use Rattle.theorem.specs.Halls.{MakesHall}
use Rattle.theorem.proofs.Demand3.{demand3_from}
use Rattle.theorem.proofs.Heard.{bed, object, Hears, heard_of, heard_of_object}

-- ---- the last call of a list

last_holds : (cs : List Call) (r : State hall) (c : Call) → AllHold hall r (cs ++ (c ∷ [])) → CallHolds hall (final hall r cs) c
last_holds [] r c h = h.0
last_holds (d ∷ cs) r c h = last_holds cs (step hall r d).next c h.1

pub all_lent : (cs : List Call) (c : Call) → AllLent cs → Lent c → AllLent (cs ++ (c ∷ []))
all_lent [] c h l = (l, tt)
all_lent (d ∷ cs) c h l = (h.0, all_lent cs c h.1 l)

-- "a player that outputs silence": a push of a bed in a renderer of each hall, and one of an object in one of each layout, made in any block, of which the host reads a sample
-- above 0
pub not_silent : ((m : Call) (h : Setup) → MakesHall m h → Hears m bed 0) × ((n : ℕ) → n ≤ 3 → Hears (make n) object 512)
not_silent = (heard_of, heard_of_object)

module _ (h : Setup) (ranged : HallRanged h) where
  abbrev pub after : List Call → State hall
  after cs = final hall (fresh hall h) cs

  holds : (cs : List Call) → AllLent cs → (c : Call) → Lent c → CallHolds hall (after cs) c
  holds cs lent c l = last_holds cs (fresh hall h) c (demand3_from h ranged (cs ++ (c ∷ [])) (all_lent cs c lent l)).calls

  pushed_holds : (cs : List Call) → AllLent cs → (a : Args) → Lent (push a) → found hall (after cs) a ≡ clear → PushHolds hall (after cs) a
  pushed_holds cs lent a l e = (holds cs lent (push a) l).1 e

  -- "one that refuses all frames": a push that no reason of document 01 speaks against is rendered
  pub not_all_refused : (cs : List Call) → AllLent cs → (a : Args) → Lent (push a) → Acceptable hall (after cs) a
      → (step hall (after cs) (push a)).answer ≡ answered hall (pushed hall (frame_of hall (after cs) a) (after cs))
  not_all_refused cs lent a l k = (pushed_holds cs lent a l (accepts hall (after cs) a k)).answer

  -- such a push: the bed of `not_silent`, on a new renderer
  pub bed_acceptable : Acceptable hall (after []) bed
  unfolding laid_out fits waits_of offset_in is_updates is_whole_update is_update codes_fit all some last count update_at element_at in_range record_in_range each times number blank le neg of_bits
  bed_acceptable = record {
    room = refl;
    sized = refl;
    listed = refl;
    position = lit≤ tt;
    laid_out = refl;
    in_range = refl;
    passes = refl;
    rate = inl refl;
    fits = refl;
    told = inr refl;
    some = lit< tt;
    present = λ e. absurd (subst T (sym e) tt);
    updates = (λ _. record { objects = refl; beds = ((λ e. omega arith, λ e. omega arith), tt) }, tt);
  }

  -- "one that leaves input unmixed": at each sample every bed has its input and every object is there, they are heard with the PCM's samples, and the sums are laid
  pub all_mixed : (cs : List Call) → AllLent cs → (a : Args) → Lent (push a) → found hall (after cs) a ≡ clear → (t : ℕ) → t < a.samples → AtSample hall (after cs) a t
  all_mixed cs lent a l e = (pushed_holds cs lent a l e).samples

  -- "one that limits or pans the first block only": every whole block is limited by the gain that it meets; at every sample the objects are those of the timed state of that sample
  -- (`all_mixed`)
  pub every_block : (cs : List Call) → AllLent cs → (a : Args) → Lent (push a) → found hall (after cs) a ≡ clear → (c : ℕ) → c < 12
      → given (step hall (after cs) (push a)).answer c ≡ limited_blocks a.rate (after cs).limiter.gain (unlimited hall (after cs) a) (whole hall (after cs) a) c
  every_block cs lent a l e c q = let p = pushed_holds cs lent a l e in ap (λ x. given x c) p.answer ∙ p.gives c q

  -- "a ready count unrelated to pending samples": whole blocks of 64 of what was pending and came are ready on each channel that is there, and the remainder is pending
  pub ready_counts : (cs : List Call) → AllLent cs → (a : Args) → Lent (push a) → found hall (after cs) a ≡ clear
      → ((c : ℕ) → c < 12 → length (given (step hall (after cs) (push a)).answer c) ≡ count_on (after cs).setup (64 * (((after cs).pending.count + a.samples) / 64)) c)
      × ((step hall (after cs) (push a)).next.pending.count ≡ ((after cs).pending.count + a.samples) % 64)
  ready_counts cs lent a l e =
      let p = pushed_holds cs lent a l e in
      (λ c q. ap (λ x. length (given x c)) p.answer ∙ p.ready c q, ap (λ (r : State hall). r.pending.count) p.next ∙ p.waits)

  -- "a flush that says none while samples wait": with room it gives all that is pending, limited, and says none only where nothing is
  pub flush_gives : (cs : List Call) → AllLent cs → (out : List ℕ) (stride : ℕ) → Lent (flush out stride) → room stride (length out) ≡ true
      → FlushHolds hall (after cs) (step hall (after cs) (flush out stride))
  flush_gives cs lent out stride l e = (holds cs lent (flush out stride) l).1 e
