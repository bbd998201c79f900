-- Where nothing waits, and no own update comes that does: 25 does not arise, and the area stays. Assumes nothing.
use Prim.Native.Nat.{ℕ, ◌<◌}
use mathlib.Core.Path.{◌≡◌, sym, ap, ◌∙◌}
use mathlib.Core.Bool.{false}
use Rattle.records.specs.Falls.{waits_in}
use Rattle.records.specs.Laid.{count}
use Rattle.records.specs.LayoutAnswers.{offset_at, Placed}
use Rattle.records.specs.declared.metadata.Metadata.{Metadata}
use Rattle.waits.specs.Settled.{comes}
use Rattle.waits.proofs.Theorems.{none_comes}

-- what the code asks of the own updates
pub no_own : (n : ℕ) (m : Metadata) → Placed n m.records.now m.layout → waits_in (offset_at m.layout) m.layout.count ≡ false → (i : ℕ) → i < count m.records.now
    → comes n m.records.now i ≡ false
no_own n m p e = none_comes n m.records.now (offset_at m.layout) p (ap (waits_in (offset_at m.layout)) (sym m.laid.counted) ∙ e)
