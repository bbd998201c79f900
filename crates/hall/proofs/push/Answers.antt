-- `push`: each way out by its law.
use Prim.Native.Nat.{ℕ}
use mathlib.Core.List.{List, ◌++◌}
use mathlib.Core.Path.{◌≡◌, refl, sym, ap, ap₂, subst, ◌∙◌}
use mathlib.Core.Bool.{true}
use native.Mathlib.Omega.{arith}
use Rattle.std.proofs.lemmas.Result.{err_from_is_err_and}
use Rattle.std.specs.Prelude.{Ok, Err, Result}
use Rattle.words.specs.Words.{Bytes, words_at}
use Rattle.records.specs.LayoutAnswers.{Placed}
use Rattle.records.specs.declared.metadata.Metadata.{Metadata}
use Rattle.waits.specs.Settled.{area_settled}
use Rattle.waits.specs.ValidAreas.{area_valid}
use Rattle.rules.specs.Calls.{push, found, frame_with}
use Rattle.rules.specs.Samples.{pushed}
use Rattle.rules.specs.BlockCalls.{made}
use Rattle.rules.specs.Ranges.{Ranged}
use Rattle.rules.specs.Refusals.{Args, clear, args_of, early}
use Rattle.refusals.specs.FirstFound.{args_in}
use Rattle.refusals.specs.RefusalNumbers.{stop_of}
use Rattle.refusals.specs.declared.Frame.{Frame}
use Rattle.refusals.specs.declared.Refusal.{Refusal}
use Rattle.store.specs.Fields.{small_of}
use Rattle.store.specs.Layout.{small_width, size, decode}
use Rattle.store.proofs.Decoded.{bytes_take}
use Rattle.frame.specs.Loop.{Accepted}
use Rattle.theorem.specs.Instance.{hall, block, block_valid, block_decode, front, area_of, sent_from}
use Rattle.theorem.proofs.Theorems.{Within}
use Rattle.rendering.specs.Held.{held}
use Rattle.hall.specs.Answers.{Left, Worked, given_as}
use Rattle.hall.specs.Ahead.{IsKept}
use Rattle.hall.proofs.Appending.{appended}
use Rattle.hall.proofs.WaysOut.{leaves_as, wrong, refused_push}
use Rattle.hall.proofs.Done.{pushed_left}
use Rattle.hall.proofs.Known.{valid_front, loaded_ranged, whole_again}
use Rattle.hall.proofs.Pushing.{position_is, ahead_valid, early_found, area_found, both_are, later_found, is_accepted, ahead_is}
use Rattle.hall.proofs.push.Goals as goal
use Rattle.hall.proofs.push.Goals.{After-load-s}

-- the block is valid, in its two parts, and s is loaded from it
module _ (c : After-load-s) where
  is_valid : block_valid c.args.state.now ≡ true
  is_valid = sym c.is_valid.ensures ∙ c.if-not-is_valid.false

  first : c.unwrap.result.0.now ≡ front c.args.state.now
  first = (rw c.unwrap.ensures at c.split_first_chunk_mut.ensures.cases).0

  second : c.unwrap-area.result.now ≡ area_of c.args.state.now
  second = (rw c.unwrap-area.ensures at c.as_mut_array.ensures.cases).same ∙ (rw c.unwrap.ensures at c.split_first_chunk_mut.ensures.cases).1

  again : c.unwrap.result.0.now ++ c.unwrap-area.result.now ≡ c.args.state.now
  again = ap (λ (t : List ℕ). c.unwrap.result.0.now ++ t) second ∙ whole_again c.args.state.now first

  is_loaded : c.load-s.result ≡ small_of (words_at (front c.args.state.now) 0 small_width)
  is_loaded = c.load-s.ensures ∙ ap (λ (t : List ℕ). small_of (words_at t 0 small_width)) first

  is_bytes : Bytes c.args.state.now
  is_bytes = λ i. omega (arith, c.slice_known-1.given i)

  ranged : Ranged hall Within (held c.load-s.result (front c.args.state.now))
  ranged = loaded_ranged (front c.args.state.now) c.load-s.result is_loaded (bytes_take size c.args.state.now is_bytes) (valid_front c.args.state.now is_valid)

  -- what the host handed in
  abbrev given : Args
  given = args_of c.args.pcm.now c.args.meta.now c.args.out.now c.args.codes.now c.args.rate c.args.samples c.args.objects c.args.stride

  -- a frame of these arguments, with no early refusal
  module _ (f : Frame) (same : args_in f c.args.out.now ≡ given) (none : clear ≡ early hall (block_decode c.args.state.now) given) where
    no_early : clear ≡ early hall (block_decode c.args.state.now) (args_in f c.args.out.now)
    no_early = none ∙ ap (early hall (block_decode c.args.state.now)) (sym same)

    samples_are : f.n.samples ≡ c.args.samples
    samples_are = ap (λ (a : Args). a.samples) same

    -- what `ahead::kept` answered
    kept_is : (r : Result Metadata Refusal) → IsKept c.load-s.result.clock.position.0 c.args.samples c.unwrap-area.result.now f.metadata.records.now r
        → IsKept c.load-s.result.clock.position.0 f.n.samples (area_of c.args.state.now) f.metadata.records.now r
    kept_is r = subst (λ (ws : List ℕ). IsKept c.load-s.result.clock.position.0 c.args.samples c.unwrap-area.result.now f.metadata.records.now r
        → IsKept c.load-s.result.clock.position.0 f.n.samples ws f.metadata.records.now r) second
        (subst (λ (n : ℕ). IsKept c.load-s.result.clock.position.0 n c.unwrap-area.result.now f.metadata.records.now r
        → IsKept c.load-s.result.clock.position.0 f.n.samples c.unwrap-area.result.now f.metadata.records.now r) samples_are (λ k. k))

    ahead_asks : Placed f.n.samples f.metadata.records.now f.metadata.layout
        → (area_valid c.load-s.result.clock.position.0 c.unwrap-area.result.now ≡ true) × Placed c.args.samples f.metadata.records.now f.metadata.layout
    ahead_asks p = (
      ap (area_valid c.load-s.result.clock.position.0) second ∙ ahead_valid c.args.state.now is_valid c.load-s.result is_loaded,
      subst (λ (n : ℕ). Placed n f.metadata.records.now f.metadata.layout) samples_are p,
    )

pub returns-then-not-is_valid : goal.returns-then-not-is_valid
returns-then-not-is_valid c =
    let s = c.args in
    let a = args_of s.pcm.now s.meta.now s.out.now s.codes.now s.rate s.samples s.objects s.stride in
    record {
      left = leaves_as (wrong (push a) s.state.now (sym c.is_valid.ensures ∙ c.if-not-is_valid.true)) (record { answer = refl; block = refl; output = refl });
      appends = tt;
    }

pub returns-in_err-frame-clause-left : goal.returns-in_err-frame-clause-left
returns-in_err-frame-clause-left c =
    let d = (goal.at.returns-in_err-frame-clause-left c).After-load-s in
    let s = c.args in
    let b = s.state.now in
    let a = args_of s.pcm.now s.meta.now s.out.now s.codes.now s.rate s.samples s.objects s.stride in
    let r = c.in_err-frame.field-0.0 in
    let found = c.in_err-frame.ensures.found s.out.now refl (block_decode b) (position_is b (is_valid d) c.load-s.result (is_loaded d)) in
    let p = err_from_is_err_and c.from_residual.result c.from_residual.ensures.1 in
    let same = again d in
    rw (p.1, p.2, same) (refused_push a b r (is_valid d) (early_found b (is_valid d) c.load-s.result (is_loaded d) a r found))

pub kept-requires : goal.kept-requires
kept-requires c =
    let d = (goal.at.kept-requires c).After-load-s in
    let k = c.in_ok-frame.ensures in
    let none = k.found c.args.out.now refl (block_decode c.args.state.now) (position_is c.args.state.now (is_valid d) c.load-s.result (is_loaded d)) in
    ahead_asks d c.in_ok-frame.frame (k.frame.same c.args.out.now) none k.frame.placed

pub returns-in_err-kept-clause-left : goal.returns-in_err-kept-clause-left
returns-in_err-kept-clause-left c =
    let d = (goal.at.returns-in_err-kept-clause-left c).After-load-s in
    let s = c.args in
    let b = s.state.now in
    let a = args_of s.pcm.now s.meta.now s.out.now s.codes.now s.rate s.samples s.objects s.stride in
    let f = c.in_ok-frame.frame in
    let k = c.in_ok-frame.ensures in
    let none = k.found s.out.now refl (block_decode b) (position_is b (is_valid d) c.load-s.result (is_loaded d)) in
    let r = c.in_err-kept.field-0.0 in
    let no = kept_is d f (k.frame.same s.out.now) none (Err r) c.in_err-kept.ensures in
    let p = err_from_is_err_and c.from_residual-in_err-kept.result c.from_residual-in_err-kept.ensures.1 in
    let found = ap stop_of no.1 ∙ area_found b (is_valid d) c.load-s.result (is_loaded d) f s.out.now (no_early d f (k.frame.same s.out.now) none) no.0 ∙ ap (found hall (block_decode b)) (k.frame.same s.out.now) in
    let same = again d in
    rw (p.1, p.2, same) (refused_push a b r (is_valid d) found)

pub check_later-requires : goal.check_later-requires
check_later-requires c =
    let w = (ranged (goal.at.check_later-requires c).After-load-s).meta.state.within in
    (w.beds, w.objects)

pub returns-in_err-check_later-clause-left : goal.returns-in_err-check_later-clause-left
returns-in_err-check_later-clause-left c =
    let d = (goal.at.returns-in_err-check_later-clause-left c).After-load-s in
    let s = c.args in
    let b = s.state.now in
    let a = args_of s.pcm.now s.meta.now s.out.now s.codes.now s.rate s.samples s.objects s.stride in
    let f = c.in_ok-frame.frame in
    let k = c.in_ok-frame.ensures in
    let none = k.found s.out.now refl (block_decode b) (position_is b (is_valid d) c.load-s.result (is_loaded d)) in
    let kept = kept_is d f (k.frame.same s.out.now) none (Ok c.in_ok-kept.kept) c.in_ok-kept.ensures in
    let r = c.in_err-check_later.field-0.0 in
    let p = err_from_is_err_and c.from_residual-in_err-check_later.result c.from_residual-in_err-check_later.ensures.1 in
    let found = later_found b (is_valid d) c.load-s.result (is_loaded d) f s.out.now (no_early d f (k.frame.same s.out.now) none) c.in_ok-kept.kept kept k.frame.placed c.in_err-check_later.ensures
    ∙ ap (found hall (block_decode b)) (k.frame.same s.out.now) in
    let same = again d in
    rw (p.1, p.2, same) (refused_push a b r (is_valid d) found)

pub render-given-requires : goal.render-given-requires
render-given-requires c =
    let d = (goal.at.render-given-requires c).After-load-s in
    let s = c.args in
    let b = s.state.now in
    let f = c.in_ok-frame.frame in
    let k = c.in_ok-frame.ensures in
    let none = k.found s.out.now refl (block_decode b) (position_is b (is_valid d) c.load-s.result (is_loaded d)) in
    let kept = kept_is d f (k.frame.same s.out.now) none (Ok c.in_ok-kept.kept) c.in_ok-kept.ensures in
    subst (λ (t : List ℕ). Accepted c.load-s.result t (sent_from c.in_ok-kept.kept ++ sent_from f.metadata) (args_in f s.out.now)) (sym (first d))
    (is_accepted b (is_valid d) c.load-s.result (is_loaded d) f s.out.now (no_early d f (k.frame.same s.out.now) none) c.in_ok-kept.kept kept k.frame.placed c.in_ok-check_later.ensures)

pub settle-requires : goal.settle-requires
settle-requires c =
    let d = (goal.at.settle-requires c).After-load-s in
    let k = c.in_ok-frame.ensures in
    let none = k.found c.args.out.now refl (block_decode c.args.state.now) (position_is c.args.state.now (is_valid d) c.load-s.result (is_loaded d)) in
    let g = ahead_asks d c.in_ok-frame.frame (k.frame.same c.args.out.now) none k.frame.placed in
    (g.0, (ranged d).position, g.1, c.in_ok-kept.ensures.0)

-- what the push left, for the arguments as handed in
pub returns-clause-left : goal.returns-clause-left
returns-clause-left c =
    let d = (goal.at.returns-clause-left c).After-load-s in
    let s = c.args in
    let b = s.state.now in
    let f = c.in_ok-frame.frame in
    let k = c.in_ok-frame.ensures in
    let same = k.frame.same s.out.now in
    let none = k.found s.out.now refl (block_decode b) (position_is b (is_valid d) c.load-s.result (is_loaded d)) in
    let early_none = no_early d f same none in
    let kept = kept_is d f same none (Ok c.in_ok-kept.kept) c.in_ok-kept.ensures in
    let us = sent_from c.in_ok-kept.kept ++ sent_from f.metadata in
    let clear_is = sym (later_found b (is_valid d) c.load-s.result (is_loaded d) f s.out.now early_none c.in_ok-kept.kept kept k.frame.placed c.in_ok-check_later.ensures) in
    let work = subst (λ (t : List ℕ). Worked (pushed hall (frame_with hall us (args_in f s.out.now)) (decode t)) f.n.stride (given_as c.render-given.result) c.render-given.new.state s.out.now c.render-given.new.out)
    (first d) c.render-given.ensures in
    let after = c.settle.ensures
    ∙ ap₂ (λ (n : ℕ) (ws : List ℕ). area_settled c.load-s.result.clock.position.0 n ws f.metadata.records.now) (sym (samples_are d f same none)) (second d)
    ∙ ahead_is b (is_valid d) c.load-s.result (is_loaded d) f s.out.now early_none c.in_ok-kept.kept kept k.frame.placed in
    subst (λ (a : Args). Left (made hall block (push a) b) (given_as c.render-given.result) (c.render-given.new.state ++ c.settle.new.area) c.render-given.new.out) same
    (pushed_left (args_in f s.out.now) b (is_valid d) us (both_are b (is_valid d) c.load-s.result (is_loaded d) f s.out.now early_none c.in_ok-kept.kept kept k.frame.placed) clear_is work after)

pub returns-clause-appends : goal.returns-clause-appends
returns-clause-appends c =
    let s = c.args in
    let a = args_of s.pcm.now s.meta.now s.out.now s.codes.now s.rate s.samples s.objects s.stride in
    let meta : Bytes s.meta.now = λ i. omega (arith, c.type_inv.meta i) in
    appended a s.state.now (is_bytes (goal.at.returns-clause-appends c).After-load-s, meta) c.render-given.result (returns-clause-left c)
