-- The rules' `made`, one law for each way out of an entry. Assumes nothing.
use Prim.Native.Nat.{ℕ}
use mathlib.Core.Path.{◌≡◌, refl, sym, ap, ◌∙◌, subst}
use mathlib.Core.Bool.{Bool, true, false, cond}
use mathlib.Core.List.{List, []}
use lib.Dec.{eqb}
use lib.ListN.{length}
use Rattle.rules.specs.Refusals.{Args, Found, clear, stop, room}
use Rattle.refusals.specs.RefusalNumbers.{numbers_of, stop_of}
use Rattle.refusals.specs.declared.Refusal.{Refusal}
use Rattle.refusals.specs.declared.Refusal.TheVariants.{Lent}
use Rattle.std.specs.Prelude.{Ok, Err}
use Rattle.rules.specs.Samples.{fresh, pushed, flushed}
use Rattle.rules.specs.Calls as rules
use Rattle.rules.specs.Calls.{Call, push, flush, reset, make, make_with, find, refused, rendered, nothing, cleared, marked, place, Result, frame_of, with_waits, ahead_after, found, answered, asked, drained, making, step}
use Rattle.rules.specs.BlockCalls.{Outcome, out_of, stride_of, written, left, takes, made}
use Rattle.rules.proofs.Theorems.{number_of, never_seven}
use Rattle.finding.specs.Search.{search}
use Rattle.rules.specs.Making.{layout_found, table_found, hall_of}
use Rattle.panning.specs.Setup.{Setup, hall_with}
use Rattle.store.specs.Layout.{setup_in, decode}
use Rattle.store.specs.ValidBlocks.{hall_valid}
use Rattle.theorem.specs.Instance.{hall, block, block_size, block_valid, block_decode, block_encode, front}
use Rattle.hall.specs.declared.answer.Answer.{Answer}
use Rattle.hall.specs.declared.answer.Outcome.TheVariants.{Fresh}
use Rattle.hall.specs.Answers.{code_of, coded, Left, MadeNew}

-- ---- a block that is not taken, and one that is

-- what a result leaves
abbrev pub leaves : Call → List ℕ → Result hall → Outcome
leaves c b x = left hall block x.answer x.next (out_of c) (stride_of c) b

pub wrong : (c : Call) (b : List ℕ) → takes hall block c b ≡ false → made hall block c b ≡ record { answer = refused 1 0 0; state = b; out = out_of c }
wrong c b e = ap (λ (t : Bool). cond t (leaves c b (step hall (block_decode b) c)) (record { answer = refused 1 0 0; state = b; out = out_of c })) e

pub taken : (c : Call) (b : List ℕ) (x : Result hall) → takes hall block c b ≡ true → step hall (block_decode b) c ≡ x → made hall block c b ≡ leaves c b x
taken c b x e s = ap (λ (t : Bool). cond t (leaves c b (step hall (block_decode b) c)) (record { answer = refused 1 0 0; state = b; out = out_of c })) e ∙ ap (leaves c b) s

-- an entry left what o says, o being given by a law above
pub leaves_as : {o p : Outcome} {r : Answer} {state out : List ℕ} → o ≡ p → Left p r state out → Left o r state out
leaves_as {r = r} {state = state} {out = out} e h = subst (λ (x : Outcome). Left x r state out) (sym e) h

pub made_as : {o p : Outcome} {r : Answer} {state : List ℕ} → o ≡ p → MadeNew p r state → MadeNew o r state
made_as {r = r} {state = state} e h = subst (λ (x : Outcome). MadeNew x r state) (sym e) h

-- ---- push

pub stopped : (a : Args) (b : List ℕ) (n x y : ℕ) → block_valid b ≡ true → found hall (block_decode b) a ≡ stop n x y
    → made hall block (push a) b ≡ record { answer = refused n x y; state = b; out = a.out }
stopped a b n x y v e = taken (push a) b _ v (ap (λ (f : Found). asked hall f a (block_decode b)) e)

-- whatever stopped it
pub refused_push : (a : Args) (b : List ℕ) (r : Refusal) → block_valid b ≡ true → stop_of r ≡ found hall (block_decode b) a → Left (made hall block (push a) b) (coded (Err r)) b a.out
refused_push a b r v e =
    let n = numbers_of r in
    leaves_as (stopped a b n.number n.first n.second v (sym e)) (record { answer = refl; block = refl; output = refl })

pub accepted : (a : Args) (b : List ℕ) → block_valid b ≡ true → found hall (block_decode b) a ≡ clear → made hall block (push a) b ≡
    record {
      answer = answered hall (pushed hall (frame_of hall (block_decode b) a) (block_decode b));
      state = block_encode (with_waits hall (ahead_after hall (block_decode b) a) (pushed hall (frame_of hall (block_decode b) a) (block_decode b)).next);
      out = written (pushed hall (frame_of hall (block_decode b) a) (block_decode b)).given a.stride a.out;
    }
accepted a b v e = taken (push a) b _ v (ap (λ (f : Found). asked hall f a (block_decode b)) e)

-- ---- flush

module _ (out : List ℕ) (stride : ℕ) (b : List ℕ) (v : block_valid b ≡ true) where
  abbrev by_tests : Bool → Bool → Result hall
  by_tests t idle = drained hall t idle (block_decode b)

  pub no_room : room stride (length out) ≡ false → made hall block (flush out stride) b ≡ record { answer = refused 1 0 0; state = b; out = out }
  no_room e = taken (flush out stride) b _ v (ap (λ (t : Bool). by_tests t (eqb (block_decode b).pending.count 0)) e)

  pub nothing_waits : room stride (length out) ≡ true → eqb (block_decode b).pending.count 0 ≡ true
      → made hall block (flush out stride) b ≡ record { answer = nothing; state = b; out = out }
  nothing_waits e p = taken (flush out stride) b _ v (ap (λ (t : Bool). by_tests t (eqb (block_decode b).pending.count 0)) e ∙ ap (by_tests true) p)

  pub flushes : room stride (length out) ≡ true → eqb (block_decode b).pending.count 0 ≡ false → made hall block (flush out stride) b ≡
      record {
        answer = answered hall (flushed hall (block_decode b));
        state = block_encode (flushed hall (block_decode b)).next;
        out = written (flushed hall (block_decode b)).given stride out;
      }
  flushes e p = taken (flush out stride) b _ v (ap (λ (t : Bool). by_tests t (eqb (block_decode b).pending.count 0)) e ∙ ap (by_tests true) p)

-- ---- making and reset

-- c is a call that finds f and makes the hall h
pub record IsMaking (c : Call) (f : Found) (h : Setup) : Type 0 where
  pub taken : (b : List ℕ) → takes hall block c b ≡ eqb (length b) block_size
  pub steps : (b : List ℕ) → step hall (block_decode b) c ≡ making hall f h (block_decode b)

pub is_make : (n : ℕ) → IsMaking (make n) (layout_found n) (hall_with n)
is_make n = record { taken = λ b. refl; steps = λ b. refl }

pub is_make_with : (n : ℕ) (t : List ℕ) → IsMaking (make_with n t) (table_found n t) (hall_of n t)
is_make_with n t = record { taken = λ b. refl; steps = λ b. refl }

module _ {c : Call} {f : Found} {h : Setup} (m : IsMaking c f h) (b : List ℕ) where
  pub not_taken : eqb (length b) block_size ≡ false → MadeNew (made hall block c b) (coded (Err Lent)) b
  not_taken e = made_as (wrong c b (m.taken b ∙ e)) (record { answer = refl; block = refl })

  module _ (e : eqb (length b) block_size ≡ true) where
    found_as : {g : Found} → g ≡ f → made hall block c b ≡ leaves c b (making hall g h (block_decode b))
    found_as k = taken c b _ (m.taken b ∙ e) (m.steps b ∙ ap (λ (x : Found). making hall x h (block_decode b)) (sym k))

    -- whatever stopped it
    pub not_made : (r : Refusal) → stop_of r ≡ f → {state : List ℕ} → state ≡ b → MadeNew (made hall block c b) (coded (Err r)) state
    not_made r k same = made_as (found_as k) (record { answer = refl; block = same })

    pub makes : clear ≡ f → {state : List ℕ} → state ≡ block_encode (fresh hall h) → MadeNew (made hall block c b) (coded (Ok Fresh)) state
    makes k new = made_as (found_as k) (record { answer = refl; block = new })

-- reset asks for the length before it looks at the hall
pub too_short : (b : List ℕ) → eqb (length b) block_size ≡ false → takes hall block reset b ≡ false
too_short b e = rw e refl

module _ (b : List ℕ) (e : eqb (length b) block_size ≡ true) where
  pub no_hall : hall_valid (front b) ≡ false → made hall block reset b ≡ record { answer = refused 1 0 0; state = b; out = [] }
  no_hall h = wrong reset b (rw (e, h) refl)

  pub resets : hall_valid (front b) ≡ true → made hall block reset b ≡ record { answer = cleared; state = block_encode (fresh hall (setup_in (front b))); out = [] }
  unfolding decode
  resets h = taken reset b _ (rw (e, h) refl) refl

-- ---- a search

pub searched : (m : ℕ) (b : List ℕ) → block_valid b ≡ true → (made hall block (find m) b).answer ≡ place (search (setup_in (front b)) m)
unfolding decode
searched m b v = ap (λ (o : Outcome). o.answer) (taken (find m) b _ v refl)

-- ---- R-1: "7 never occurs again"

number_told : (x : rules.Answer) → (code_of x).number ≡ number_of x
number_told (refused n a b) = refl
number_told (rendered given m) = refl
number_told nothing = refl
number_told cleared = refl
number_told (marked c) = refl
number_told (place p) = refl

-- whatever an entry is lent, its contract being `Left` of what is made of the block
pub seven_unanswered : (c : Call) (b : List ℕ) (r : Answer) (state out : List ℕ) → Left (made hall block c b) r state out → r.number ≡ 7 → ⊥
seven_unanswered c b r state out h e = never_seven hall block c b (sym (number_told (made hall block c b).answer) ∙ ap (λ (x : Answer). x.number) (sym h.answer) ∙ e)
