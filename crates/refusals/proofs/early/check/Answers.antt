-- `early::check`: each early answer is a test that fails after those that hold. Assumes nothing.
use mathlib.Core.Path.{◌≡◌, ap, ◌∙◌}
use mathlib.Core.Bool.{Bool, true}
use mathlib.Core.List.{List, []}
use lib.ListN.{length}
use Prim.Native.Nat.{ℕ}
use Rattle.rules.specs.Refusals.{Args, args_of, room}
use Rattle.rules.proofs.Judged.{is_sized}
use Rattle.refusals.specs.FirstFound.{args_with}
use Rattle.refusals.specs.declared.Push.{Push}
use Rattle.refusals.proofs.First.{failed, passed, handed_on}
use Rattle.refusals.proofs.LowestFirst.{refuses, refuses_none, faulty, pcm_samples}
use Rattle.records.proofs.Theorems.{faultless}
use Rattle.refusals.proofs.early.check.Goals as goal

-- the output has the room that the code asks its length for
roomy : (p : Push) (bytes : ℕ) {r : Bool} → r ≡ room p.n.stride bytes → r ≡ true → (out : List ℕ) → length out ≡ bytes → room p.n.stride (length out) ≡ true
roomy p bytes e t out q = ap (room p.n.stride) q ∙ passed e t

pub returns-then-not-room-clause-found : goal.returns-then-not-room-clause-found
returns-then-not-room-clause-found c out q r p =
    refuses c.args.position.0 r p (args_with c.args.push out) 0 tt (ap (room c.args.push.n.stride) q ∙ failed c.room.ensures c.if-not-room.true)

pub returns-then-not-sized-clause-found : goal.returns-then-not-sized-clause-found
returns-then-not-sized-clause-found c out q r p =
    refuses c.args.position.0 r p (args_with c.args.push out) 1 (roomy c.args.push c.args.bytes c.room.ensures c.if-not-room.false out q, tt)
    (failed c.sized.ensures c.if-not-sized.true)

pub returns-then-not-listed-clause-found : goal.returns-then-not-listed-clause-found
returns-then-not-listed-clause-found c out q r p =
    refuses c.args.position.0 r p (args_with c.args.push out) 2 (roomy c.args.push c.args.bytes c.room.ensures c.if-not-room.false out q, (passed c.sized.ensures c.if-not-sized.false, tt)) (failed c.listed.ensures c.if-not-listed.true)

pub returns-then-not-has_room-clause-found : goal.returns-then-not-has_room-clause-found
returns-then-not-has_room-clause-found c out q r p =
    let first = roomy c.args.push c.args.bytes c.room.ensures c.if-not-room.false out q in
    refuses c.args.position.0 r p (args_with c.args.push out) 3 (first, (passed c.sized.ensures c.if-not-sized.false, (passed c.listed.ensures c.if-not-listed.false, tt))) (failed c.has_room.ensures c.if-not-has_room.true)

pub returns-in_err-metadata-clause-found : goal.returns-in_err-metadata-clause-found
returns-in_err-metadata-clause-found c out q r p =
    let first = roomy c.args.push c.args.bytes c.room.ensures c.if-not-room.false out q in
    handed_on _ _ c.from_residual.ensures.1 (faulty c.args.position.0 r p (args_with c.args.push out) c.in_err-metadata.field-0.0 (first, (passed c.sized.ensures c.if-not-sized.false, (passed c.listed.ensures c.if-not-listed.false, (passed c.has_room.ensures c.if-not-has_room.false, tt)))) c.in_err-metadata.ensures.number)

pub returns-then-not-samples_pass-clause-found : goal.returns-then-not-samples_pass-clause-found
returns-then-not-samples_pass-clause-found c out q r p =
    let a = args_with c.args.push out in
    let first = roomy c.args.push c.args.bytes c.room.ensures c.if-not-room.false out q in
    let sized = passed c.sized.ensures c.if-not-sized.false in
    let fit = faultless c.args.push.meta.now c.in_ok-metadata.ensures.number in
    refuses c.args.position.0 r p a 6 (first, (sized, (passed c.listed.ensures c.if-not-listed.false, (passed c.has_room.ensures c.if-not-has_room.false, (fit.0, (fit.1, tt)))))) (pcm_samples a sized ∙ failed c.samples_pass.ensures c.if-not-samples_pass.true)

pub invariant_of-codes : goal.invariant_of-codes
invariant_of-codes c = record { few = (is_sized (args_with c.args.push []) (passed c.sized.ensures c.if-not-sized.false)).codes }

pub returns-clause-found : goal.returns-clause-found
returns-clause-found c out q r p =
    let a = args_with c.args.push out in
    let first = roomy c.args.push c.args.bytes c.room.ensures c.if-not-room.false out q in
    let sized = passed c.sized.ensures c.if-not-sized.false in
    let fit = faultless c.args.push.meta.now c.in_ok-metadata.ensures.number in
    let last = pcm_samples a sized ∙ passed c.samples_pass.ensures c.if-not-samples_pass.false in
    refuses_none c.args.position.0 r p a (first, (sized, (passed c.listed.ensures c.if-not-listed.false, (passed c.has_room.ensures c.if-not-has_room.false, (fit.0, (fit.1, (last, tt)))))))

pub returns-clause-frame : goal.returns-clause-frame
returns-clause-frame c =
    let p = c.args.push in
    let args : List ℕ → (List ℕ → Args) = λ m out. args_of p.pcm.now m out p.codes.now p.n.rate p.n.samples p.n.objects p.n.stride in
    record { same = λ out. ap (λ (m : List ℕ). args m out) c.in_ok-metadata.ensures.same.0; placed = c.in_ok-metadata.ensures.same.1 }
