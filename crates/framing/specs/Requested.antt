-- What a record asks for, or that it is none as laid out. Assumes nothing.
use Rattle.std.specs.Prelude.{ℕ, ◌≡◌, true, false, cond, List, eqb, get_or, Result, Ok, Err}
use Rattle.framing.specs.declared.BadRecord.{BadRecord}
use Rattle.framing.specs.declared.request.Plain.{Plain}
use Rattle.framing.specs.declared.request.Plain.TheVariants.{Flush, Reset}
use Rattle.framing.specs.declared.request.Request.{Request}
use Rattle.framing.specs.declared.request.Request.TheVariants.{Frame, Plain as Alone}
use Rattle.framing.specs.Framing.{is_frame, is_plain}

-- "7, flush; 8, reset."
unfoldable pub plain_of : List ℕ → Plain
plain_of r = cond (eqb (get_or r 0 0) 7) Flush Reset

-- a frame's header, a flush or a reset
abbrev pub Requested : List ℕ → Result Request BadRecord → Type 0
Requested r (Ok (Frame h)) = h.rec ≡ r
Requested r (Ok (Alone p)) = (is_plain r ≡ true) × (p ≡ plain_of r)
Requested r (Err _) = (is_frame r ≡ false) × (is_plain r ≡ false)
