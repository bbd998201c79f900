-- A reader may skip this file: what each function leaves, by what it answers. Assumes nothing.
use Rattle.std.specs.Prelude.{ℕ, ◌+◌, ◌≡◌, true, false, ◌&&◌, List, length, Result, Ok, Err}
use Rattle.framing.specs.Framing.{is_frame, is_plain, is_body, metadata_bytes, pcm_bytes}
use Rattle.calls.specs.Asked.{push_of, call_of, is_call}
use Rattle.calls.specs.CallResults.{Called}
use Rattle.hallrender.specs.declared.End.{End}
use Rattle.hallrender.specs.declared.Program.{Program}

-- no call was made
pub record Kept (p q : Program) : Type 0 where
  pub block : q.state ≡ p.state
  pub output : q.out ≡ p.out

-- something is to be read behind the record r, or r is no frame's header
abbrev pub NotAlone : List ℕ → Type 0
NotAlone r = is_frame r ≡ true → metadata_bytes r + pcm_bytes r ≡ 0 → ⊥

-- the push of a frame with the header r, whose body was read
pub record Pushed (r body : List ℕ) (p q : Program) : Type 0 where
  pub laid : is_frame r && is_body r body ≡ true
  pub called : Called (push_of r body p.out) p.state p.out q.state q.out q.text

-- a frame with the header r: its push, with a text; or an end and no call
abbrev pub FrameTaken : {A : Type 0} → List ℕ → List ℕ → Program → Program → Result A End → Type 0
FrameTaken r body p q (Err _) = NotAlone r × Kept p q
FrameTaken r body p q (Ok _) = Pushed r body p q

-- the call that a record r asks for, with the body that was read for a frame
pub record Answered (r body : List ℕ) (p q : Program) : Type 0 where
  pub laid : is_call r body ≡ true
  pub called : Called (call_of r body p.out) p.state p.out q.state q.out q.text

-- a record r: its call, with a text; or an end and no call, where more is to be read or r is not as laid out
abbrev pub Handled : {A : Type 0} → List ℕ → List ℕ → Program → Program → Result A End → Type 0
Handled r body p q (Err _) = (is_plain r ≡ false) × NotAlone r × Kept p q
Handled r body p q (Ok _) = Answered r body p q

-- the call of some record, which was read
pub record Took (body : List ℕ) (p q : Program) : Type 0 where
  pub rec : List ℕ
  pub whole : length rec ≡ 40
  pub call : Answered rec body p q

abbrev pub RecordTaken : {A : Type 0} → List ℕ → Program → Program → Result A End → Type 0
RecordTaken body p q (Err _) = Kept p q
RecordTaken body p q (Ok _) = Took body p q
