-- `render_in` meets its contract: the loop keeps `Running`, and what is left of the frame falls at each turn. Assumes nothing.
use Prim.Native.Nat.{ℕ, ◌+◌, ◌<◌}
use mathlib.Core.Path.{◌≡◌, refl, sym, ap, ◌∙◌, subst}
use mathlib.Core.List.{List}
use mathlib.Core.Bool.{Bool, true, false, cond, ◌||◌}
use lib.Dec.{T, ltb}
use lib.Ieee.{of_bits}
use native.Mathlib.Omega.{arith}
use native.Mathlib.Nat.{le_of_lt}
use borrow.Author.Rules.{rules}
use borrow.Author.Tests.{ltb-false}
use Rattle.std.specs.Ordering.{is_lt, nat_cmp}
use Rattle.panning.specs.Setup.{Setup, marks_of}
use Rattle.panning.specs.Hall.{setup_of}
use Rattle.limiter.specs.Meters.{unmet}
use Rattle.rules.specs.Calls.{frame_with}
use Rattle.rules.specs.Samples.{Renderer, updated, slotted}
use Rattle.timed.specs.State.{Timed}
use Rattle.theorem.specs.Instance.{hall, sent_from}
use Rattle.refusals.specs.FirstFound.{args_in}
use Rattle.render.specs.Run.{silent_rows}
use Rattle.store.specs.declared.renderer.Renderer714.{Renderer714}
use Rattle.store.specs.Layout.{layout_of, setup_in}
use Rattle.rendering.specs.Held.{held, IsNext, Leads}
use Rattle.rendering.specs.declared.Rendering.{Rendering}
use Rattle.rendering.specs.Begin.{CanStart}
use Rattle.rendering.specs.Give.{AbsentSilent, GaveRows}
use Rattle.rendering.specs.Pass.{moment_here, Waits}
use Rattle.chunk.specs.ChunkRows.{Listing, Laid}
use Rattle.rendering.proofs.Theorems.{slotted_after, none_applied, slot_rests, slot_changes_nothing}
use Rattle.frame.proofs.Running.{both_sent, both_leads, next_sent, all_shaped, Taken, takes, is_rate, Running, opens, can_begin, end_above, few, Turning, turn_some, turn_within, turn_passes}
use Rattle.clock.proofs.Before.{more_left, none_left}
use Rattle.frame.proofs.Running.{turn_setup, turn_runs, turn_skips, rendered}
use Rattle.frame.proofs.ChunkOnBlock.{rows_silent, can_give_rows, same_layout, can_give, passes_on, passes_given, passes_whole}
use Rattle.chunk.proofs.Theorems.{fit_all, as_laid}
use Rattle.render.proofs.Theorems.{full_fits, no_lists_sized}
use Rattle.frame.proofs.ListsKept.{listed_given, listed_rows}
use Rattle.frame.proofs.push.render_in.Goals as goal
use Rattle.frame.proofs.push.render_in.Goals.{In-loop-pcm, After-pass-work, After-run_length-k, After-open, Joined-is_kept, Joined-is_sent, Joined-is_sent-2, Joined-slot_starts, then-is_sent, else-is_sent, then-is_sent-2, else-is_sent-2, then-slot_starts+then-not-rests, else-slot_starts, else-slot_starts-via-then-slot_starts+else-not-rests, else-slot_starts-via-else-slot_starts, then-is_kept, else-is_kept, then-k-eq64, else-k-eq64+then-work-eq64, else-k-eq64+else-work-eq64}

-- ---- at the start

-- what is lent was accepted
taken : (c : After-open) → let s = c.args in Taken s.state.now (args_in s.frame s.out.now) (both_sent s.kept.now s.frame.metadata)
taken c =
    let s = c.args in
    takes s.s s.state.now (args_in s.frame s.out.now) s.kept.now s.frame.metadata c.requires.0 (λ i. search rules)
    (all_shaped s.kept.now s.kept.now.bytes s.kept.now.laid s.kept.now.fits)
    (all_shaped s.frame.metadata s.frame.metadata.bytes s.frame.metadata.laid s.frame.metadata.fits)

pub open-requires : goal.open-requires
open-requires c =
    let s = c.args in
    is_rate s.s s.state.now (both_sent s.kept.now s.frame.metadata) (args_in s.frame s.out.now) c.requires.0

pub loop-pcm-init : goal.loop-pcm-init
unfolding of_bits silent_rows
loop-pcm-init c =
    let s = c.args in (
      opens s.s c.of-work.result s.state.now (args_in s.frame s.out.now) (both_sent s.kept.now s.frame.metadata) c.requires.0
          (taken (goal.at.loop-pcm-init c).After-open)
          (c.of-work.ensures ∙ ap (λ (r : Renderer714). record { renderer = r; ready = 0; meters = unmet }) c.«open».ensures),
      refl,
      (λ h. refl),
      full_fits _ _ _ _ no_lists_sized refl,
    )

-- ---- a turn

-- what may begin at t
may_begin : (c : In-loop-pcm) → let s = c.args in let x = c.loop-pcm in
    Taken s.state.now (args_in s.frame s.out.now) (both_sent s.kept.now s.frame.metadata) → CanStart (updated hall x.t.0 (both_sent s.kept.now s.frame.metadata) (held x.work.renderer x.state))
may_begin c k =
    let s = c.args in
    let x = c.loop-pcm in
    can_begin s.state.now (args_in s.frame s.out.now) s.kept.now s.frame.metadata k x.t.0 x.work x.state x.out x.invariant.0 (more_left _ _ _ c.lt.ensures c.loop-pcm-test.true)

-- after those that wait, and then the frame's own
kept_done : (c : Joined-is_sent) → let s = c.args in let x = c.loop-pcm in
    Leads (updated hall x.t.0 (sent_from s.kept.now) (held x.work.renderer x.state)) x.work x.state c.if-is_sent.work c.if-is_sent.state
kept_done c =
    let s = c.args in
    let x = c.loop-pcm in
    elim c.if-is_sent.branch [
      | then-is_sent w ↦ rw (w.work-is, w.state-is) w.apply_sent-work.ensures
      | else-is_sent w ↦ rw (w.work-is, w.state-is)
          (record {
            next = none_applied s.kept.now x.t.0 x.work.renderer x.state (rw w.if-is_sent.false at c.is_sent.ensures);
            ready = refl;
            meters = refl;
          })
    ]

updates_done : (c : Joined-is_sent-2) → let s = c.args in let x = c.loop-pcm in
    Leads (updated hall x.t.0 (sent_from s.kept.now) (held x.work.renderer x.state)) x.work x.state c.if-is_sent.work c.if-is_sent.state
    → Leads (updated hall x.t.0 (both_sent s.kept.now s.frame.metadata) (held x.work.renderer x.state)) x.work x.state c.if-is_sent-2.work c.if-is_sent-2.state
updates_done c k =
    let s = c.args in
    let x = c.loop-pcm in
    let r = held x.work.renderer x.state in
    elim c.if-is_sent-2.branch [
      | then-is_sent-2 w ↦ rw (w.work-is, w.state-is) (both_leads s.kept.now s.frame.metadata x.t.0 r k w.apply_sent-work-then-is_sent-2.ensures)
      | else-is_sent-2 w ↦ rw (w.work-is, w.state-is)
          (both_leads s.kept.now s.frame.metadata x.t.0 r k
          (record {
            next = none_applied s.frame.metadata x.t.0 c.if-is_sent.work.renderer c.if-is_sent.state (rw w.if-is_sent-2.false at c.is_sent-in-loop-pcm.ensures);
            ready = refl;
            meters = refl;
          }))
    ]

-- the slot that starts may
slot_at : (c : Joined-is_sent-2) → let s = c.args in let x = c.loop-pcm in
    CanStart (updated hall x.t.0 (both_sent s.kept.now s.frame.metadata) (held x.work.renderer x.state))
    → Leads (updated hall x.t.0 (both_sent s.kept.now s.frame.metadata) (held x.work.renderer x.state)) x.work x.state c.if-is_sent-2.work c.if-is_sent-2.state
    → CanStart (held c.if-is_sent-2.work.renderer c.if-is_sent-2.state)
slot_at c b a = rw a.next.holds b

pub rests-requires : goal.rests-requires
rests-requires c =
    let p = goal.at.rests-requires c in
    let k = taken p.After-open in
    let s = slot_at p.Joined-is_sent-2 (may_begin p.In-loop-pcm k) (updates_done p.Joined-is_sent-2 (kept_done p.Joined-is_sent)) in
    (s.start, s.within)

pub start_slot-work-requires : goal.start_slot-work-requires
start_slot-work-requires c =
    let p = goal.at.start_slot-work-requires c in
    let k = taken p.After-open in
    let a = updates_done p.Joined-is_sent-2 (kept_done p.Joined-is_sent) in
    (slot_at p.Joined-is_sent-2 (may_begin p.In-loop-pcm k) a, sym c.slot_starts.ensures ∙ c.if-slot_starts.true)

-- After the updates and the slot the lists are those of the timed state, or full: each of them forgets the lists.
kept_listed : (c : Joined-is_sent) → let s = c.args in
    Listing (setup_of s.setup.now) c.if-is_sent.work.renderer.state s.frame.n.objects s.frame.codes.list.now c.if-is_sent.lists
kept_listed c =
    elim c.if-is_sent.branch [
      | then-is_sent w ↦ rw (w.work-is, w.lists-is) (full_fits _ _ _ _ w.forget.ensures.0 w.forget.ensures.1)
      | else-is_sent w ↦ rw (w.work-is, w.lists-is) c.loop-pcm.invariant.3
    ]

updates_listed : (c : Joined-is_sent-2) → let s = c.args in let v = c.if-is_sent in let x = c.if-is_sent-2 in
    Listing (setup_of s.setup.now) v.work.renderer.state s.frame.n.objects s.frame.codes.list.now v.lists
    → Listing (setup_of s.setup.now) x.work.renderer.state s.frame.n.objects s.frame.codes.list.now x.lists
updates_listed c k =
    elim c.if-is_sent-2.branch [
      | then-is_sent-2 w ↦ rw (w.work-is, w.lists-is) (full_fits _ _ _ _ w.forget-then-is_sent-2.ensures.0 w.forget-then-is_sent-2.ensures.1)
      | else-is_sent-2 w ↦ rw (w.work-is, w.lists-is) k
    ]

slot_listed : (c : Joined-slot_starts) → let s = c.args in let v = c.if-is_sent-2 in let x = c.if-slot_starts in
    Listing (setup_of s.setup.now) v.work.renderer.state s.frame.n.objects s.frame.codes.list.now v.lists
    → Listing (setup_of s.setup.now) x.work.renderer.state s.frame.n.objects s.frame.codes.list.now x.lists
slot_listed c k =
    elim c.if-slot_starts.branch [
      | then-slot_starts+then-not-rests w ↦ rw (w.work-is, w.lists-is) (full_fits _ _ _ _ w.forget-then-not-rests.ensures.0 w.forget-then-not-rests.ensures.1)
      | else-slot_starts w ↦ rw (w.work-is, w.lists-is) k
    ]

pub forget-requires-then-not-rests : goal.forget-requires-then-not-rests
forget-requires-then-not-rests c =
    let p = goal.at.forget-requires-then-not-rests c in
    (updates_listed p.Joined-is_sent-2 (kept_listed p.Joined-is_sent)).sized

-- with no slot, or one that changes nothing, what the updates left goes on
leads_on : {r : Renderer Timed (List ℕ)} {w w' : Rendering} {b b' : List ℕ} → Leads r w b w' b' → IsNext (slotted hall (held w'.renderer b')) b' w'.renderer b'
    → Leads (slotted hall r) w b w' b'
leads_on a n = record { next = slotted_after a.next n; ready = a.ready; meters = a.meters }

begun : (c : Joined-slot_starts) → let s = c.args in let x = c.loop-pcm in
    Leads (updated hall x.t.0 (both_sent s.kept.now s.frame.metadata) (held x.work.renderer x.state)) x.work x.state c.if-is_sent-2.work c.if-is_sent-2.state
    → Leads (slotted hall (updated hall x.t.0 (both_sent s.kept.now s.frame.metadata) (held x.work.renderer x.state))) x.work x.state c.if-slot_starts.work c.if-slot_starts.state
begun c a =
    let slot = sym c.slot_starts.ensures in
    elim c.if-slot_starts.branch [
      | then-slot_starts+then-not-rests w ↦
          let b = w.start_slot-work.ensures in
          rw (w.work-is, w.state-is) (record { next = slotted_after a.next b.next; ready = b.ready ∙ a.ready; meters = b.meters ∙ a.meters })
      | else-slot_starts w ↦ rw (w.work-is, w.state-is)
          (leads_on a (elim w.else-slot_starts.branch [
            | else-slot_starts-via-then-slot_starts+else-not-rests v ↦
                slot_changes_nothing _ _ (slot ∙ v.if-slot_starts.true) (sym v.rests.ensures ∙ v.if-not-rests.false)
            | else-slot_starts-via-else-slot_starts v ↦ slot_rests _ _ (slot ∙ v.if-slot_starts.false)
          ]))
    ]

pub run_length-k-requires : goal.run_length-k-requires
run_length-k-requires c =
    let p = goal.at.run_length-k-requires c in
    let s = c.args in
    let x = c.loop-pcm in
    let a = args_in s.frame s.out.now in
    let k = taken p.After-open in
    let e = c.next_offset-next.result.0 in
    let l : c.loop-pcm.t.0 < c.args.frame.n.samples = more_left _ _ _ c.lt.ensures c.loop-pcm-test.true in
    let n = c.next_offset-next.ensures ∙ ap (next_sent s.frame.metadata x.t.0) (rw x.invariant.1 at c.next_offset.ensures) in
    let f = few s.state.now a s.kept.now s.frame.metadata k x.t.0 x.work x.state x.out x.invariant.0 l e n c.if-slot_starts.work c.if-slot_starts.state
    (begun p.Joined-slot_starts (updates_done p.Joined-is_sent-2 (kept_done p.Joined-is_sent))) in
    (f.0, f.1, le_of_lt (end_above s.state.now a s.kept.now s.frame.metadata k x.t.0 x.work x.state x.out x.invariant.0 l e n))

turning : (c : After-run_length-k) → let s = c.args in let x = c.loop-pcm in
    Taken s.state.now (args_in s.frame s.out.now) (both_sent s.kept.now s.frame.metadata)
    → Leads (slotted hall (updated hall x.t.0 (both_sent s.kept.now s.frame.metadata) (held x.work.renderer x.state))) x.work x.state c.if-slot_starts.work c.if-slot_starts.state
    → Turning s.state.now (args_in s.frame s.out.now) s.kept.now s.frame.metadata x.t.0 x.work x.state x.out c.next_offset-next.result.0
    c.if-slot_starts.work c.if-slot_starts.state c.run_length-k.result
turning c k b =
    record {
      taken = k;
      running = c.loop-pcm.invariant.0;
      more = more_left _ _ _ c.lt.ensures c.loop-pcm-test.true;
      ends = c.next_offset-next.ensures ∙ ap (next_sent c.args.frame.metadata c.loop-pcm.t.0) (rw c.loop-pcm.invariant.1 at c.next_offset.ensures);
      begun = b;
      count = c.run_length-k.ensures;
    }

-- the hall is still that of the block
hall_here : (c : After-run_length-k) → let s = c.args in let x = c.loop-pcm in let v = c.if-slot_starts in
    Turning s.state.now (args_in s.frame s.out.now) s.kept.now s.frame.metadata x.t.0 x.work x.state x.out c.next_offset-next.result.0
    v.work v.state c.run_length-k.result
    → setup_of c.args.setup.now ≡ setup_in v.state
hall_here c q = c.requires.1 ∙ sym (turn_setup q)

marks_here : (c : After-run_length-k) → let s = c.args in let x = c.loop-pcm in let v = c.if-slot_starts in
    Turning s.state.now (args_in s.frame s.out.now) s.kept.now s.frame.metadata x.t.0 x.work x.state x.out c.next_offset-next.result.0
    v.work v.state c.run_length-k.result
    → c.args.setup.now.present ≡ marks_of (layout_of v.state)
marks_here c q = c.args.setup.now.marked ∙ ap (λ (h : Setup). marks_of h.layout) (hall_here c q)

-- the turn's span lies in the frame, and PCM for the beds and the objects is there
pub invariant_of-span : goal.invariant_of-span
invariant_of-span c =
    let p = goal.at.invariant_of-span c in
    let k = taken p.After-open in
    let q = turn_passes (turning p.After-run_length-k k (begun p.Joined-slot_starts (updates_done p.Joined-is_sent-2 (kept_done p.Joined-is_sent)))) in
    record { within = rw c.index.ensures q.span; short = omega (arith, q.passes.pending) }

pub invariant_of-input : goal.invariant_of-input
invariant_of-input c =
    let p = goal.at.invariant_of-input c in
    let k = taken p.After-open in
    let q = turn_passes (turning p.After-run_length-k k (begun p.Joined-slot_starts (updates_done p.Joined-is_sent-2 (kept_done p.Joined-is_sent)))) in
    record { few = q.few; framed = q.framed }

pub pass-work-requires : goal.pass-work-requires
pass-work-requires c =
    let p = goal.at.pass-work-requires c in
    let k = taken p.After-open in
    let q = turn_passes (turning p.After-run_length-k k (begun p.Joined-slot_starts (updates_done p.Joined-is_sent-2 (kept_done p.Joined-is_sent)))) in (
      q.passes,
      c.loop-pcm.invariant.2 (more_left _ _ _ c.lt.ensures c.loop-pcm-test.true),
      slot_listed p.Joined-slot_starts (updates_listed p.Joined-is_sent-2 (kept_listed p.Joined-is_sent)),
    )

-- what it leaves, by the offset
passed_at : (c : After-pass-work) → let s = c.args in let v = c.if-slot_starts in
    setup_of c.args.setup.now ≡ setup_in v.state
    → Waits (moment_here (frame_with hall (both_sent s.kept.now s.frame.metadata) (args_in s.frame s.out.now)) c.loop-pcm.t.0 c.run_length-k.result v.work.renderer v.state)
    v.work c.loop-pcm.t.0 c.run_length-k.result c.pass-work.new.rows c.pass-work.result
passed_at c h = rw c.index.ensures at (c.pass-work.ensures.waits c.args.frame.n.rate (both_sent c.args.kept.now c.args.frame.metadata) c.if-slot_starts.state h)

pub up_to-requires : goal.up_to-requires
up_to-requires c =
    let l : c.loop-pcm.t.0 < c.args.frame.n.samples = more_left _ _ _ c.lt.ensures c.loop-pcm-test.true in
    omega (arith, l, c.loop-pcm.invariant.1)

pub lay-requires : goal.lay-requires
lay-requires c =
    let p = goal.at.lay-requires c in
    let k = taken p.After-open in
    let q = turn_passes (turning p.After-run_length-k k (begun p.Joined-slot_starts (updates_done p.Joined-is_sent-2 (kept_done p.Joined-is_sent)))) in
    q.passes.pending

neither : (a b : Bool) → (a || b) ≡ false → (a ≡ false) × (b ≡ false)
neither true b e = absurd (subst T e tt)
neither false b e = (refl, e)

-- where it is no whole block, it was laid
laid_part : (c : Joined-is_kept) → let s = c.args in let x = c.loop-pcm in let v = c.if-slot_starts in
    Turning s.state.now (args_in s.frame s.out.now) s.kept.now s.frame.metadata x.t.0 x.work x.state x.out c.next_offset-next.result.0
    v.work v.state c.run_length-k.result
    → c.args.setup.now.present ≡ marks_of (layout_of v.state)
    → (c.run_length-k.result ≡ 64 → ⊥)
    → Laid (marks_of (layout_of v.state)) c.pass-work.new.rows v.work.renderer.pending c.run_length-k.result v.state c.if-is_kept.state
laid_part c q m h =
    let p = (turn_passes q).passes.pending in
    let v = c.if-slot_starts in
    elim c.if-is_kept.branch [
      | then-is_kept w ↦ rw w.state-is
          (subst (λ (here : List Bool). Laid here c.pass-work.new.rows v.work.renderer.pending c.run_length-k.result v.state w.lay.new.state) m w.lay.ensures)
      | else-is_kept w ↦
          let x = ltb-false c.run_length-k.result 64 (neither (ltb c.run_length-k.result 64) _ (sym c.is_kept.ensures ∙ w.if-is_kept.false)).0 in
          absurd (h (omega arith))
    ]

pub give_rows-work-requires : goal.give_rows-work-requires
give_rows-work-requires c =
    let p = goal.at.give_rows-work-requires c in
    let s = c.args in
    let k = taken p.After-open in
    let f = frame_with hall (both_sent s.kept.now s.frame.metadata) (args_in s.frame s.out.now) in
    let q = turning p.After-run_length-k k (begun p.Joined-slot_starts (updates_done p.Joined-is_sent-2 (kept_done p.Joined-is_sent))) in
    let y = passed_at p.After-pass-work (hall_here p.After-run_length-k q) in
    let e = c.if-k-eq64.true in (
      can_give_rows f (turn_passes q) y e,
      subst (λ (here : List Bool). AbsentSilent here c.pass-work.new.rows) (sym (marks_here p.After-run_length-k q)) (rows_silent f (turn_passes q) y e),
    )

pub give-work-requires : goal.give-work-requires
give-work-requires c =
    let p = goal.at.give-work-requires c in
    let s = c.args in
    let k = taken p.After-open in
    let q = turning p.After-run_length-k k (begun p.Joined-slot_starts (updates_done p.Joined-is_sent-2 (kept_done p.Joined-is_sent))) in
    let f = frame_with hall (both_sent s.kept.now s.frame.metadata) (args_in s.frame s.out.now) in
    let y = passed_at p.After-pass-work (hall_here p.After-run_length-k q) in
    let m = marks_here p.After-run_length-k q in
    let l = laid_part p.Joined-is_kept q m c.if-k-eq64.false in
    (can_give f (turn_passes q) y l c.if-work-eq64.true, m ∙ ap marks_of (sym (same_layout f (turn_passes q) y l)))

pub overflow_cast-k : goal.overflow_cast-k
overflow_cast-k c =
    let p = goal.at.overflow_cast-k c in
    let k = taken p.After-open in
    let q = turning p.After-run_length-k k (begun p.Joined-slot_starts (updates_done p.Joined-is_sent-2 (kept_done p.Joined-is_sent))) in
    let m = k.samples in
    let n = turn_within q in
    omega arith

pub plus-t-requires : goal.plus-t-requires
plus-t-requires c =
    let p = goal.at.plus-t-requires c in
    let k = taken p.After-open in
    let q = turning p.After-run_length-k k (begun p.Joined-slot_starts (updates_done p.Joined-is_sent-2 (kept_done p.Joined-is_sent))) in
    let m = k.samples in
    let n = turn_within q in
    omega arith

pub loop-pcm-smaller : goal.loop-pcm-smaller
loop-pcm-smaller c =
    let p = goal.at.loop-pcm-smaller c in
    let k = taken p.After-open in
    let q = turning p.After-run_length-k k (begun p.Joined-slot_starts (updates_done p.Joined-is_sent-2 (kept_done p.Joined-is_sent))) in
    let m = turn_some q in
    let n = turn_within q in
    omega (arith, c.plus-t.ensures)

-- a whole block: laid, or as much follows
whole_runs : (c : Joined-is_kept) (r : Rendering) (o : List ℕ) → let s = c.args in let x = c.loop-pcm in let v = c.if-slot_starts in
    Turning s.state.now (args_in s.frame s.out.now) s.kept.now s.frame.metadata x.t.0 x.work x.state x.out c.next_offset-next.result.0
    v.work v.state c.run_length-k.result
    → Waits (moment_here (frame_with hall (both_sent s.kept.now s.frame.metadata) (args_in s.frame s.out.now)) x.t.0 c.run_length-k.result v.work.renderer v.state)
    v.work x.t.0 c.run_length-k.result c.pass-work.new.rows c.pass-work.result
    → c.args.setup.now.present ≡ marks_of (layout_of v.state)
    → c.run_length-k.result ≡ 64
    → GaveRows c.args.setup.now.present c.pass-work.result c.pass-work.new.rows s.frame.n.stride x.out r o
    → Running s.state.now (args_in s.frame s.out.now) (both_sent s.kept.now s.frame.metadata) (x.t.0 + c.run_length-k.result) r c.if-is_kept.state o
whole_runs c r o q y m e g₀ =
    let s = c.args in
    let v = c.if-slot_starts in
    let ys = c.pass-work.new.rows in
    let g = subst (λ (here : List Bool). GaveRows here c.pass-work.result ys s.frame.n.stride c.loop-pcm.out r o) m g₀ in
    let f = frame_with hall (both_sent s.kept.now s.frame.metadata) (args_in s.frame s.out.now) in
    let p = turn_passes q in
    elim c.if-is_kept.branch [
      | then-is_kept w ↦
          let l = subst (λ (here : List Bool). Laid here ys v.work.renderer.pending c.run_length-k.result v.state w.lay.new.state) m w.lay.ensures in
          rw w.state-is (turn_runs q r _ o (passes_whole f p y l c.pass-work.array_long e g))
      | else-is_kept w ↦
          let k = c.run_length-k.result in
          let left = c.up_to.result in
          let x = ltb-false left 128 (neither (ltb k 64) (ltb left 128) (sym c.is_kept.ensures ∙ w.if-is_kept.false)).1 in
          let l = as_laid (marks_of (layout_of v.state)) refl ys v.work.renderer.pending k p.passes.pending v.state (fit_all ys g.fit) v.array_long in
          rw w.state-is
          (turn_skips q r l.0 o (passes_whole f p y l.1 c.pass-work.array_long e g) l.1 (ap (λ (s : Renderer714). s.pending) g.renderer)
          (omega (arith, x, c.up_to.ensures, c.loop-pcm.invariant.1)))
    ]

is_more : (t end : ℕ) (b : Bool) → b ≡ is_lt (nat_cmp t end) → t < end → b ≡ true
is_more t end b e h = search rules

pub loop-pcm-preserved : goal.loop-pcm-preserved
loop-pcm-preserved c =
    let s = c.args in
    let z = c.if-k-eq64 in
    let at = goal.at.loop-pcm-preserved c in
    let a = args_in s.frame s.out.now in
    let k = taken at.After-open in
    let q = turning at.After-run_length-k k (begun at.Joined-slot_starts (updates_done at.Joined-is_sent-2 (kept_done at.Joined-is_sent))) in
    let p = turn_passes q in
    let f = frame_with hall (both_sent s.kept.now s.frame.metadata) a in
    let m = marks_here at.After-run_length-k q in
    let y = passed_at at.After-pass-work (hall_here at.After-run_length-k q) in (
      subst (λ (t : ℕ). Running s.state.now a (both_sent s.kept.now s.frame.metadata) t z.work c.if-is_kept.state z.out) (sym c.plus-t.ensures)
          (elim z.branch [
            | then-k-eq64 w ↦ rw (w.work-is, w.out-is) (whole_runs at.Joined-is_kept _ _ q y m w.if-k-eq64.true w.give_rows-work.ensures)
            | else-k-eq64+then-work-eq64 w ↦ rw (w.work-is, w.out-is)
                (turn_runs q _ _ _ (passes_given f p y (laid_part at.Joined-is_kept q m w.if-k-eq64.false) w.if-work-eq64.true w.give-work.ensures))
            | else-k-eq64+else-work-eq64 w ↦ rw (w.work-is, w.out-is)
                (turn_runs q _ _ _ (passes_on f p y (laid_part at.Joined-is_kept q m w.if-k-eq64.false) w.if-work-eq64.false))
          ]),
      c.loop-pcm.invariant.1,
      (λ h. c.clear_rows.ensures ∙ ap (λ (more : Bool). cond more silent_rows c.pass-work.new.rows) (is_more _ _ _ c.lt-in-loop-pcm.ensures (subst (λ (n : ℕ). c.plus-t.result.0 < n) (sym c.loop-pcm.invariant.1) h))),
      (let h = setup_of s.setup.now in let i = s.frame.codes.list.now in let l = c.pass-work.ensures.lists in
          elim z.branch [
            | then-k-eq64 w ↦ rw w.work-is (listed_rows h s.frame.n.objects i c.pass-work.new.lists w.give_rows-work.ensures l)
            | else-k-eq64+then-work-eq64 w ↦ rw w.work-is (listed_given h s.frame.n.objects i c.pass-work.new.lists w.give-work.ensures l)
            | else-k-eq64+else-work-eq64 w ↦ rw w.work-is l
          ]),
    )

-- ---- at the end

pub returns : goal.returns
returns c =
    let s = c.args in
    let x = c.loop-pcm in
    rendered s.state.now (args_in s.frame s.out.now) (both_sent s.kept.now s.frame.metadata) x.t.0 x.work x.state x.out x.invariant.0
    (none_left _ _ _ c.lt.ensures c.loop-pcm-test.false)
