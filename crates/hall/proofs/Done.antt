-- What an accepted push and a flush with samples waiting leave is what the rules say. Assumes nothing.
use Prim.Native.Nat.{ℕ, ◌≤◌}
use native.Mathlib.Nat.{le_of_lt}
use native.Mathlib.Omega.{arith}
use mathlib.Core.Path.{◌≡◌, refl, sym, ap, ap₂, subst, ◌∙◌}
use mathlib.Core.Logic.{◌⊎◌, inl, inr}
use mathlib.Core.Bool.{Bool, true, false, cond}
use mathlib.Core.List.{List, [], ◌++◌}
use lib.Dec.{T, eqb}
use lib.ListN.{length, take, length-map}
use lib.Seq.{length-take-le}
use lib.Ieee.{Float, binary32, of_bits}
use borrow.Author.Tests.{ne_eqb}
use Rattle.words.specs.Words.{Bytes, words_at}
use Rattle.timed.specs.State.{Timed}
use Rattle.rules.specs.Parts.{floats}
use Rattle.panning.specs.Setup.{present}
use Rattle.panning.proofs.Theorems.{front_present}
use Rattle.limiter.specs.Meters.{unmet, call_meters}
use Rattle.limiter.specs.declared.meters.Meters.{Meters}
use Rattle.rules.specs.Refusals.{Args, clear, room, listed}
use Rattle.rules.specs.Samples.{Renderer, State, After, pushed, flushed, waiting}
use Rattle.rules.specs.Ranges.{Ranged}
use Rattle.rules.specs.Calls.{push, flush, updates_in, frame_with, frame_of, with_waits, ahead_after, answered, found}
use Rattle.rules.specs.BlockCalls.{written, made}
use Rattle.rules.proofs.Theorems.{after_with, pushed_waits, flushed_waits, is_listed, rate_high, is_roomy, length_limited}
use Rattle.store.specs.declared.renderer.Renderer714.{Renderer714}
use Rattle.store.specs.Fields.{small_of}
use Rattle.store.specs.Layout.{small_width, decode, encode}
use Rattle.store.specs.ValidBlocks.{valid}
use Rattle.theorem.specs.Instance.{Sent, hall, block, block_valid, block_decode, block_encode, front, area_of}
use Rattle.theorem.proofs.Theorems.{Within}
use Rattle.rendering.specs.Held.{held}
use Rattle.hall.specs.Answers.{Left, Worked, ready_of, code_of}
use Rattle.hall.specs.declared.answer.Answer.{Answer}
use Rattle.rendering.specs.Give.{CanGive}
use Rattle.hall.proofs.WaysOut.{leaves_as, accepted, flushes}
use Rattle.refusals.proofs.Theorems.{loaded}
use Rattle.hall.proofs.Known.{loaded_ranged}

-- ---- the renderer's part

pub worked : (d : After hall) (s : Renderer714) (ready : ℕ) (m : Meters) (c : List ℕ) → held s c ≡ d.next → ready ≡ length (d.given 0) → m ≡ call_meters d.meters
    → (stride : ℕ) (state out to : List ℕ) → state ≡ encode (held s c) → to ≡ written d.given stride out → Worked d stride (ready_of ready m) state out to
worked d s ready m c h n l stride state out to j o = record { answer = ap₂ ready_of n l; block = j ∙ ap encode h; output = o }

-- what waits stands behind it
encode_waits : (ws : List ℕ) (r : State hall) → encode (with_waits hall ws r) ≡ encode r
unfolding encode
encode_waits ws r = refl

-- ---- push

module _ (a : Args) (b : List ℕ) (v : block_valid b ≡ true) (us : List Sent) (same : us ≡ updates_in hall (block_decode b) a)
    (e : found hall (block_decode b) a ≡ clear) where
  pub pushed_left : {r : Answer} {state ws to : List ℕ} → Worked (pushed hall (frame_with hall us a) (decode (front b))) a.stride r state a.out to
      → ws ≡ ahead_after hall (block_decode b) a → Left (made hall block (push a) b) r (state ++ ws) to
  pushed_left {r = r} {state = state} {ws = ws} {to = to} w k =
      let x : After hall = pushed hall (frame_with hall us a) (decode (front b)) in
      let y : pushed hall (frame_of hall (block_decode b) a) (block_decode b) ≡ after_with hall (area_of b) x =
      ap (λ (vs : List Sent). pushed hall (frame_with hall vs a) (block_decode b)) (sym same) ∙ pushed_waits hall (area_of b) (frame_with hall us a) (decode (front b)) in
      leaves_as (accepted a b v e)
      (record {
        answer = w.answer ∙ ap (λ (d : After hall). code_of (answered hall d)) (sym y);
        block =
            ap₂ ◌++◌ (w.block ∙ sym (encode_waits (ahead_after hall (block_decode b) a) x.next)) k
            ∙ ap (λ (d : After hall). block_encode (with_waits hall (ahead_after hall (block_decode b) a) d.next)) (sym y);
        output = w.output ∙ ap (λ (d : After hall). written d.given a.stride a.out) (sym y);
      })

-- ---- flush

rate_small : (n : ℕ) → (n ≡ 0) ⊎ (listed n ≡ true) → n ≤ 16777216
rate_small n (inl z) = omega arith
rate_small n (inr l) = le_of_lt (rate_high (is_listed n l))

here : (b : Bool) → T b → (n : ℕ) (xs : List Float) → n ≤ length xs → length (take n (cond b xs [])) ≡ n
here true t n xs l = length-take-le n xs l
here false t n xs l = absurd t

-- as many samples as wait, on channel 0, which each layout has
flushed_long : (r : Renderer Timed (List ℕ)) → Ranged hall Within r → length ((flushed hall r).given 0) ≡ r.pending.count
unfolding flushed
flushed_long r g =
    length_limited r.limiter.gain (waiting hall r) 0
    ∙ here (present r.setup.layout 0) (front_present r.setup.layout g.setup.layout) r.pending.count (floats r.pending.places 0)
    (let l = g.long 0 (omega arith) in let p = g.pending in let m = length-map (r.pending.places 0) (of_bits binary32) in omega arith)

module _ (b : List ℕ) (s : Renderer714) (e : s ≡ small_of (words_at b 0 small_width)) (bytes : Bytes b) (v : valid b ≡ true) (out : List ℕ) (stride : ℕ)
    (k : room stride (length out) ≡ true) where
  pub can_give : CanGive (record { renderer = s; ready = 0; meters = unmet }) out stride
  can_give =
      let g = loaded_ranged b s e bytes v in
      let q = is_roomy stride (length out) k in
      let p = g.pending in
      let w = q.some in
      record {
        pending = le_of_lt g.pending;
        rate = rate_small s.rate g.rate;
        room = omega arith;
        short = let m = q.most in omega arith;
        output = q.long;
      }

  pub flushed_worked : (t : Renderer714) (m : Meters) → held t b ≡ (flushed hall (held s b)).next → m ≡ call_meters (flushed hall (held s b)).meters
      → (ready : ℕ) (state to : List ℕ) → ready ≡ s.pending → state ≡ encode (held t b)
      → to ≡ written (flushed hall (held s b)).given stride out → Worked (flushed hall (decode b)) stride (ready_of ready m) state out to
  flushed_worked t m h q ready state to i j o =
      subst (λ (x : State hall). Worked (flushed hall x) stride (ready_of ready m) state out to) (loaded b s e)
      (worked (flushed hall (held s b)) t ready m b h (i ∙ sym (flushed_long (held s b) (loaded_ranged b s e bytes v))) q stride state out to j o)

-- a flush of a whole block
pub flushed_left : (b out : List ℕ) (stride : ℕ) → block_valid b ≡ true → room stride (length out) ≡ true → ((block_decode b).pending.count ≡ 0 → ⊥)
    → {r : Answer} {state to : List ℕ} → Worked (flushed hall (decode (front b))) stride r state out to → Left (made hall block (flush out stride) b) r (state ++ area_of b) to
flushed_left b out stride v k some {r = r} {state = state} {to = to} w =
    let x : After hall = flushed hall (decode (front b)) in
    let y : flushed hall (block_decode b) ≡ after_with hall (area_of b) x = flushed_waits hall (area_of b) (decode (front b)) in
    leaves_as (flushes out stride b v k (ne_eqb (block_decode b).pending.count 0 some))
    (record {
      answer = w.answer ∙ ap (λ (d : After hall). code_of (answered hall d)) (sym y);
      block = ap (λ (c : List ℕ). c ++ area_of b) (w.block ∙ sym (encode_waits (area_of b) x.next)) ∙ ap (λ (d : After hall). block_encode d.next) (sym y);
      output = w.output ∙ ap (λ (d : After hall). written d.given stride out) (sym y);
    })
