-- Document 01, demand 3, closed: for every list of calls, on the real timed state, metadata and state block. Assumes nothing.
use Prim.Native.Nat.{ℕ, ◌≤◌}
use mathlib.Core.Path.{◌≡◌, refl, ap}
use mathlib.Core.Bool.{true}
use mathlib.Core.List.{List}
use lib.ListN.{length, replicate, length-replicate}
use Rattle.words.specs.Words.{Bytes}
use Rattle.panning.specs.Setup.{Setup, hall_with, table_right}
use Rattle.rules.specs.Demand3.{Lent, AllLent, Demand3, EveryList, EveryLayout, EveryTable, BuiltInAlike, LeftAlone, FindAlike, Keeps}
use Rattle.rules.proofs.Theorems.{Facts, Passed, pushed_ranged, flushed_ranged}
use Rattle.rules.specs.Refusals.{Args, clear}
use Rattle.rules.specs.Making.{table_words, hall_of}
use Rattle.rules.specs.Samples.{State, fresh, pushed, flushed}
use Rattle.rules.specs.Ranges.{HallRanged, Ranged}
use Rattle.rules.specs.Held.{HeldStill}
use Rattle.rules.specs.Calls.{Call, make, make_with, is_refused, frame_of, found, asked, step}
use Rattle.rules.specs.BlockCalls.{made}
use Rattle.rules.proofs.Theorems as rules
use Rattle.rules.proofs.Keeps.{fresh_all, asked_ranged, step_ranged}
use Rattle.theorem.specs.Instance.{hall, block}
use Rattle.theorem.specs.Halls.{MakesHall}
use Rattle.theorem.proofs.Sound.{Sound, Within}
use Rattle.theorem.proofs.AheadRanges.{Ahead, Kept, ahead_none, kept_none}
use Rattle.theorem.proofs.AheadSettled.{ahead_settle, kept_settle}
use Rattle.theorem.proofs.Checked.{Checked, Shaped, checked, shaped}
use Rattle.theorem.proofs.Applied.{sound_apply, within_apply}
use Rattle.theorem.proofs.TimedShapes.{mixable, shape_apply, shape_slot, shape_objects, shape_beds}
use Rattle.theorem.proofs.SlotSound.{sound_slot}
use Rattle.theorem.proofs.SlotWithin.{within_slot}
use Rattle.theorem.proofs.Wanting.{sound_want, within_want, shape_want, beds_want, objects_want, wants_want, want_back, wants_other, wants_blank, wants_slot, held_slot, wants_apply, objects_apply, ends_apply}
use Rattle.theorem.proofs.Blank.{sound_blank, within_blank, within_later}
use Rattle.theorem.proofs.BlockRanges.{AllRanged, setup_of, size_of, valid_of, hall_valid_of, back_of, decoded_of}

-- what the rules take from the crates `timed`, `updates`, `records` and `store`
unfoldable pub facts : Facts hall block
facts =
    record {
      Ahead = Ahead;
      Kept = Kept;
      ahead_none = ahead_none;
      kept_none = kept_none;
      ahead_settle = ahead_settle;
      kept_settle = kept_settle;
      Checked = Checked;
      checked = checked;
      Shaped = Shaped;
      shaped = shaped;
      Sound = Sound;
      sound_blank = sound_blank;
      sound_apply = sound_apply;
      sound_slot = sound_slot;
      mixable = mixable;
      shape_apply = λ n u m c h. shape_apply n u m c h.codes;
      sent_started = λ u c. refl;
      shape_slot = λ n m h. shape_slot n m;
      shape_objects = λ m h e. shape_objects m;
      shape_beds = λ m h e. shape_beds m;
      sound_want = sound_want;
      shape_want = shape_want;
      beds_want = beds_want;
      objects_want = objects_want;
      wants_want = wants_want;
      want_back = λ w d m h l. want_back w d m;
      wants_other = λ w d k m. wants_other w d m k;
      wants_blank = wants_blank;
      wants_slot = λ n d m h l. wants_slot n d m;
      held_slot = λ n d m h l. held_slot n d m l;
      wants_apply = λ n d u m. wants_apply n u m d;
      objects_apply = objects_apply;
      ends_apply = λ n d u m. ends_apply n u m d;
      Within = Within;
      within_blank = within_blank;
      within_later = within_later;
      within_apply = within_apply;
      within_want = λ n w d m. within_want w d m n;
      within_slot = within_slot;
      setup = setup_of;
      size = size_of;
      valid = valid_of;
      hall_valid = hall_valid_of;
      back = back_of;
      decoded = decoded_of;
    }

pub demand3 : EveryList hall block
demand3 = rules.every_list hall block facts

-- each layout is made in each block of the right length
pub makes_accepted : EveryLayout hall block
makes_accepted = rules.every_layout hall block facts

-- and with each table that keeps the rules
pub tables_accepted : EveryTable hall block
tables_accepted = rules.every_table hall block facts

-- the built-in table, handed over, makes the block that is made without one
pub built_in_alike : BuiltInAlike hall block
built_in_alike = rules.built_in_alike hall block facts

pub layout_made : (n : ℕ) → n ≤ 3 → MakesHall (make n) (hall_with n)
layout_made n h = record { lent = tt; makes = refl; accepted = λ b e. makes_accepted b e n h }

pub table_made : (n : ℕ) → n ≤ 3 → (t : List ℕ) → Bytes t → length t ≡ 144 → table_right (table_words t) ≡ true → MakesHall (make_with n t) (hall_of n t)
table_made n h t bytes long right = record { lent = bytes; makes = refl; accepted = λ b e. tables_accepted b e n h t long right }

-- so demand 3 holds from what such a making call leaves
pub demand3_in : {m : Call} {h : Setup} → MakesHall m h → (b : List ℕ) → Bytes b → length b ≡ block.size → (cs : List Call) → AllLent cs
    → Demand3 hall block h (made hall block m b).state cs
demand3_in {m} {h} made b bytes e = demand3 b bytes m made.lent h made.makes (ap is_refused (made.accepted b e))

-- from a new renderer in any hall in its ranges, as those are that can be made
pub demand3_from : (h : Setup) → HallRanged h → (cs : List Call) → AllLent cs → Demand3 hall block h (block.encode (fresh hall h)) cs
demand3_from = rules.from_fresh hall block facts

pub made_ranged : {m : Call} {h : Setup} → MakesHall m h → HallRanged h
made_ranged {m} {h} made =
    let b : List ℕ = replicate block.size 0 in
    (rules.made_in hall block facts b m made.lent h made.makes (ap is_refused (made.accepted b (length-replicate {A = ℕ} block.size 0)))).0

-- a call that is accepted, on a block of any bytes, leaves a valid block
pub keeps : Keeps hall block
keeps = rules.keeps hall block facts

-- R-11: "A second hold, or a release without one, changes nothing", and a search does not: no byte of a block
pub left_alone : LeftAlone hall block
left_alone = rules.left_alone hall block

-- R-11: "the object's panned position stops": over any calls, until its release, a reset, a making call or another number of objects
pub held_still : HeldStill hall
held_still = rules.held_still hall block facts

-- R-13: a search answers by the hall alone
pub find_alike : FindAlike hall block
find_alike = rules.find_alike hall block

-- the same of the renderers between blocks
pub stepped_within : (r : State hall) (c : Call) → Lent c → AllRanged r → AllRanged (step hall r c).next
unfolding facts
stepped_within = step_ranged hall block facts

pub fresh_within : (h : Setup) → HallRanged h → AllRanged (fresh hall h)
unfolding facts
fresh_within = fresh_all hall block facts

-- an accepted push needs its metadata alone to be bytes
pub accepted_within : (r : State hall) (a : Args) → Bytes a.meta → found hall r a ≡ clear → AllRanged r → AllRanged (asked hall clear a r).next
unfolding facts
accepted_within r a h e g = asked_ranged hall block facts r a h clear e g

-- within a push, before what waits is settled; and a flush
pub pushed_within : (r : State hall) (a : Args) → Bytes a.meta → Passed hall r a → AllRanged r → Ranged hall Within (pushed hall (frame_of hall r a) r).next
unfolding facts
pushed_within r a b p g = pushed_ranged hall block facts r a b p g.renderer g.ahead

pub flushed_within : (r : State hall) → Ranged hall Within r → Ranged hall Within (flushed hall r).next
unfolding facts
flushed_within = flushed_ranged hall block facts
