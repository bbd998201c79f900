-- A record's call, or none; calls in a row. Assumes nothing.
use Rattle.std.specs.Prelude.{Result, Ok, Err}
use Prim.Native.Nat.{ℕ, ◌+◌, ◌<◌}
use mathlib.Core.Path.{◌≡◌, refl, sym, ap, subst, ◌∙◌}
use mathlib.Core.Bool.{Bool, true, false, cond, ◌&&◌, ◌||◌}
use mathlib.Core.List.{List, [], ◌∷◌, ◌++◌}
use native.Mathlib.Omega.{arith}
use lib.Dec.{eqb}
use lib.ListN.{get_or, length, take, drop}
use lib.Seq.{take_at}
use borrow.Author.Tests.{ne_eqb}
use Rattle.rules.specs.Calls.{push, flush, reset}
use Rattle.rules.specs.BlockCalls.{made, final_on}
use Rattle.theorem.specs.Instance.{hall, block}
use Rattle.framing.specs.declared.request.Plain.{Plain}
use Rattle.framing.specs.declared.request.Plain.TheVariants.{Flush, Reset}
use Rattle.framing.specs.Framing.{is_frame, is_plain, is_body, metadata_bytes, pcm_bytes, pcm_of, pcm_records, record_bytes, record_count, are_pcm}
use Rattle.framing.specs.PcmTaken.{Unpacked}
use Rattle.framing.specs.Requested.{plain_of}
use Rattle.framing.proofs.Theorems.{none_are, frame_kind}
use Rattle.calls.specs.Asked.{frame_args, push_of, asked_alone, plain_call, call_of}
use Rattle.calls.specs.CallResults.{Called}
use Rattle.hallrender.specs.declared.End.{End}
use Rattle.hallrender.specs.declared.Program.{Program}
use Rattle.hallrender.specs.ProgramRun.{calls_of, out_on, Ran}
use Rattle.hallrender.specs.RunResults.{NotAlone, Pushed, FrameTaken, Answered, Handled, Took, RecordTaken}

-- ---- a frame

pub clash : {t : Bool} → t ≡ false → t ≡ true → ⊥
clash e f = let z : ◌≡◌ {A = ℕ} 0 1 = cc in omega arith

-- a body that is all empty is not cut
pub cut_alone : (r : List ℕ) {m n k got : ℕ} → m ≡ metadata_bytes r → n ≡ pcm_bytes r → k ≡ record_bytes n → got < m + k → NotAlone r
cut_alone r p q e l f z = omega arith

-- a body that is all empty has no record that is not as laid out
pub bad_alone : (r s pcm : List ℕ) (n : ℕ) {A E : Type 0} (got : Result A E) {e : E} → n ≡ pcm_bytes r → got ≡ Err e → Unpacked s n got pcm → NotAlone r
bad_alone r s pcm n got q g u f z =
    let w = subst (λ t. Unpacked s n t pcm) g u in
    let e : n ≡ 0 = omega arith in
    let no : are_pcm 0 s (record_count 0) ≡ false = subst (λ (i : ℕ). are_pcm i s (record_count i) ≡ false) e w in
    let yes = none_are 0 s in
    cc

-- a frame of which the body was read and unpacked
pub framed : (r body pcm rest : List ℕ) (p q : Program) (m n i x : ℕ) {A E : Type 0} (got : Result A E) {v : A}
    → m ≡ metadata_bytes r → n ≡ pcm_bytes r → is_frame r ≡ true → i ≡ record_bytes n → x ≡ n → length pcm ≡ n → got ≡ Ok v
    → Unpacked (take i (drop m body)) x got pcm → Called (push (frame_args r (take m body) (take n (pcm ++ rest)) p.out)) p.state p.out q.state q.out q.text → Pushed r body p q
framed r body pcm rest p q m n i x got pm pn f e h l g u c =
    let w = subst (λ t. Unpacked (take i (drop m body)) x t pcm) g u in
    let same : take i (drop m body) ≡ pcm_records r body = rw (e, pm, pn) in
    let count : x ≡ pcm_bytes r = h ∙ pn in
    let are : is_body r body ≡ true = rw (sym same, sym count) w.0 in
    let held : take n (pcm ++ rest) ≡ pcm_of r body = take_at pcm rest n l ∙ w.1 ∙ rw (same, count) in
    let call : push (frame_args r (take m body) (take n (pcm ++ rest)) p.out) ≡ push_of r body p.out = rw (held, pm) in
    record {
      laid = rw (f, are);
      called = subst (λ z. Called z p.state p.out q.state q.out q.text) call c;
    }

-- ---- a record's call

either : (a : Bool) {b : Bool} → b ≡ true → a || b ≡ true
either true e = refl
either false e = e

alone_is : (b : Bool) (o : List ℕ) → asked_alone (cond b Flush Reset) o ≡ cond b (flush o 256) reset
alone_is true o = refl
alone_is false o = refl

module _ (r : List ℕ) where
  frame_call : (body o : List ℕ) → get_or r 0 0 ≡ 5 → push_of r body o ≡ call_of r body o
  unfolding call_of
  frame_call body o k = rw k

  frame_not_plain : get_or r 0 0 ≡ 5 → is_plain r ≡ false
  unfolding is_plain
  frame_not_plain k = rw k

  pub frame_handled : (body : List ℕ) (p q : Program) {A : Type 0} (got : Result A End) → is_frame r ≡ true → FrameTaken r body p q got → Handled r body p q got
  frame_handled body p q (Err e) f (l, k) = (frame_not_plain (frame_kind r f), l, k)
  frame_handled body p q (Ok v) f t = record {
    laid = rw (t.laid);
    called = subst (λ x. Called x p.state p.out q.state q.out q.text) (frame_call body p.out (frame_kind r f)) t.called;
  }

  not_five : is_plain r ≡ true → eqb (get_or r 0 0) 5 ≡ false
  not_five e = ne_eqb (get_or r 0 0) 5 (λ k. let n = frame_not_plain k in cc)

  plain_is : (body o : List ℕ) → is_plain r ≡ true → asked_alone (plain_of r) o ≡ call_of r body o
  unfolding plain_of plain_call call_of
  plain_is body o e = alone_is (eqb (get_or r 0 0) 7) o ∙ simp (not_five e)

  pub plain_handled : (body : List ℕ) (p q : Program) (call : Plain) → is_plain r ≡ true → call ≡ plain_of r
      → Called (asked_alone call p.out) p.state p.out q.state q.out q.text → Answered r body p q
  plain_handled body p q call e k c = record {
    laid = either (is_frame r && is_body r body) e;
    called = subst (λ x. Called x p.state p.out q.state q.out q.text) (ap (λ x. asked_alone x p.out) k ∙ plain_is body p.out e) c;
  }

  -- a record that was read and handled
  pub handled_one : (body : List ℕ) (p q : Program) {A : Type 0} (got : Result A End) → length r ≡ 40 → Handled r body p q got → RecordTaken body p q got
  handled_one body p q (Err e) w (l, n, k) = k
  handled_one body p q (Ok v) w a = record { rec = r; whole = w; call = a }

-- ---- calls in a row: what is run from q on was run from p on

abbrev pub From : Program → Program → Type 0
From p q = (u v : List ℕ) → Ran q.state q.out u v → Ran p.state p.out u v

-- a record that makes no call ends the run
pub stops : (body : List ℕ) (p q s : Program) {A : Type 0} (got : Result A End) {e : End} → got ≡ Err e → From p q → RecordTaken body q s got → Ran p.state p.out s.state s.out
stops body p q s got g f k =
    let w = subst (λ r. RecordTaken body q s r) g k in
    f s.state s.out (record { inputs = []; block = w.block; output = w.output })

pub goes : (body : List ℕ) (p q s : Program) → length body ≡ 86720 → From p q → Took body q s → From p s
goes body p q s room f t u v ran =
    let a = t.call in
    let c = call_of t.rec body q.out in
    let xs = ran.inputs in
    let now : List ℕ = (made hall block c q.state).state in
    f u v (record {
      inputs = record { rec = t.rec; body = body; whole = t.whole; laid = a.laid; room = room } ∷ xs;
      block = ran.block ∙ ap (λ z. final_on hall block z (calls_of xs z s.out)) a.called.block ∙ ap (λ z. final_on hall block now (calls_of xs now z)) a.called.output;
      output = ran.output ∙ ap (λ z. out_on xs z s.out) a.called.block ∙ ap (λ z. out_on xs now z) a.called.output;
    })
