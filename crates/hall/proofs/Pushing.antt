-- What stops a push of a whole block, and what is known when none does. Assumes nothing.
use Prim.Native.Nat.{ℕ}
use mathlib.Core.Path.{◌≡◌, sym, ap, ap₂, ◌∙◌}
use mathlib.Core.Bool.{Bool, true, false}
use mathlib.Core.List.{List, ◌++◌, map-append}
use Rattle.std.specs.Prelude.{Ok}
use Rattle.words.specs.Words.{words_at}
use Rattle.records.specs.Runs.{each}
use Rattle.records.specs.Laid.{count}
use Rattle.records.specs.LayoutAnswers.{Placed}
use Rattle.records.specs.declared.metadata.Metadata.{Metadata}
use Rattle.waits.specs.Area.{waiting_count}
use Rattle.waits.specs.Settled.{fits, area_settled}
use Rattle.waits.specs.ValidAreas.{area_valid}
use Rattle.rules.specs.Refusals.{Args, Found, clear, stop, ◌then◌, unless, early, Announced, later}
use Rattle.rules.specs.Samples.{State}
use Rattle.rules.specs.Calls.{updates_in, announced, found, ahead_after}
use Rattle.store.specs.declared.renderer.Renderer714.{Renderer714}
use Rattle.store.specs.Fields.{small_of}
use Rattle.store.specs.Layout.{small_width, decode}
use Rattle.theorem.specs.Instance.{Sent, hall, shape_of, ahead_at, sent_from, front, area_of, block_decode, block_valid}
use Rattle.theorem.proofs.Theorems.{own_sent}
use Rattle.refusals.specs.RefusalNumbers.{stop_of}
use Rattle.refusals.specs.FirstFound.{args_in}
use Rattle.refusals.specs.PresentShape.{told_by}
use Rattle.refusals.specs.declared.Frame.{Frame}
use Rattle.refusals.specs.declared.Refusal.{Refusal}
use Rattle.refusals.specs.declared.Refusal.TheVariants.{TooManyAhead}
use Rattle.refusals.proofs.Theorems.{loaded}
use Rattle.frame.specs.Loop.{Accepted}
use Rattle.hall.specs.Ahead.{IsKept}
use Rattle.hall.proofs.Known.{valid_front, valid_ahead, loaded_position}

module _ (b : List ℕ) (v : block_valid b ≡ true) (s : Renderer714) (e : s ≡ small_of (words_at (front b) 0 small_width)) where
  pub position_is : (block_decode b).clock.position ≡ s.clock.position.0
  position_is = loaded_position (front b) s e

  pub ahead_valid : area_valid s.clock.position.0 (area_of b) ≡ true
  ahead_valid = ap (λ (p : ℕ). area_valid p (area_of b)) (sym position_is) ∙ valid_ahead b v

  -- 9 to 14 of a push with the updates us
  abbrev after_eight : List Announced → Args → State hall → Found
  after_eight us a r = later us a.objects a.codes a.samples a.rate r.rate (shape_of r.meta.state)

  -- one of 1 to 8
  pub early_found : (a : Args) (r : Refusal) → stop_of r ≡ early hall (block_decode b) a → stop_of r ≡ found hall (block_decode b) a
  early_found a r q =
      ap (λ (f : Found). f then (unless (fits (block_decode b).clock.position a.samples (area_of b) a.meta) 25 0 0 then after_eight (announced hall (updates_in hall (block_decode b) a)) a (block_decode b))) q

  -- in a frame that passed them
  module _ (f : Frame) (out : List ℕ) (none : clear ≡ early hall (block_decode b) (args_in f out)) where
    abbrev own_records : List ℕ
    own_records = f.metadata.records.now

    pub area_found : fits s.clock.position.0 f.n.samples (area_of b) own_records ≡ false → stop_of TooManyAhead ≡ found hall (block_decode b) (args_in f out)
    area_found full =
        ap₂ (λ (x : Found) (t : Bool). x then (unless t 25 0 0 then after_eight (announced hall (updates_in hall (block_decode b) (args_in f out))) (args_in f out) (block_decode b))) none
        (sym full ∙ ap (λ (p : ℕ). fits p f.n.samples (area_of b) own_records) (sym position_is))

    -- with the updates that wait
    module _ (kept : Metadata) (k : IsKept s.clock.position.0 f.n.samples (area_of b) own_records (Ok kept)) (placed : Placed f.n.samples own_records f.metadata.layout) where
      abbrev both : List Sent
      both = sent_from kept ++ sent_from f.metadata

      pub both_are : both ≡ updates_in hall (block_decode b) (args_in f out)
      both_are =
          ap₂ ◌++◌ (k.1 ∙ ap (λ (p : ℕ). each (ahead_at p f.n.samples (area_of b)) (waiting_count (area_of b))) (sym position_is)) (own_sent f.n.samples f.metadata f.metadata.laid placed)

      -- what the code looks for is what the rules find
      told_are : after_eight (told_by kept ++ told_by f.metadata) (args_in f out) (block_decode b) ≡ after_eight (announced hall both) (args_in f out) (block_decode b)
      told_are = ap (λ (us : List Announced). after_eight us (args_in f out) (block_decode b)) (sym (map-append _ (sent_from kept) (sent_from f.metadata)))

      asked_are : later (told_by kept ++ told_by f.metadata) f.n.objects f.codes.list.now f.n.samples f.n.rate s.rate (shape_of s.state)
          ≡ after_eight (announced hall both) (args_in f out) (block_decode b)
      asked_are =
          ap (λ (r : State hall). after_eight (told_by kept ++ told_by f.metadata) (args_in f out) r) (loaded (front b) s e) ∙ told_are

      found_are : after_eight (announced hall both) (args_in f out) (block_decode b) ≡ found hall (block_decode b) (args_in f out)
      found_are =
          ap (λ (us : List Sent). after_eight (announced hall us) (args_in f out) (block_decode b)) both_are
          ∙ ap₂ (λ (x : Found) (t : Bool). x then (unless t 25 0 0 then after_eight (announced hall (updates_in hall (block_decode b) (args_in f out))) (args_in f out) (block_decode b))) none
          (sym k.0 ∙ ap (λ (p : ℕ). fits p f.n.samples (area_of b) own_records) (sym position_is))

      pub later_found : {x : Found} → x ≡ later (told_by kept ++ told_by f.metadata) f.n.objects f.codes.list.now f.n.samples f.n.rate s.rate (shape_of s.state)
          → x ≡ found hall (block_decode b) (args_in f out)
      later_found q = q ∙ asked_are ∙ found_are

      pub is_accepted : clear ≡ later (told_by kept ++ told_by f.metadata) f.n.objects f.codes.list.now f.n.samples f.n.rate s.rate (shape_of s.state)
          → Accepted s (front b) both (args_in f out)
      is_accepted q =
          record {
            small = e;
            valid = valid_front b v;
            clear = sym (ap₂ (λ (x y : Found). x then y) none (q ∙ asked_are));
          }

      pub ahead_is : area_settled s.clock.position.0 f.n.samples (area_of b) own_records ≡ ahead_after hall (block_decode b) (args_in f out)
      ahead_is = ap (λ (p : ℕ). area_settled p f.n.samples (area_of b) own_records) (sym position_is)
