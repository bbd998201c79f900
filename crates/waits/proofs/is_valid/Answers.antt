-- `waits::is_valid`: test by test. Assumes nothing.
use Rattle.std.proofs.Common.{◌≡◌, ℕ, Bool, true, false, ◌&&◌, leb, List, refl, sym, ap, ap₂, ◌∙◌}
use Rattle.fields.specs.RecordBytes.{all}
use Rattle.fields.specs.Update.{is_far}
use Rattle.records.specs.Laid.{update_at, is_updates}
use Rattle.records.specs.ValuesInRange.{all_fit}
use Rattle.waits.specs.Area.{waiting_count, records_ahead, kept_records}
use Rattle.waits.specs.ValidAreas.{positions_ahead, all_far, area_valid}
use Rattle.waits.proofs.is_valid.Goals as goal

-- an area whose counts, positions, updates and values pass or fail
area_by : (position : ℕ) (ws : List ℕ) (a b c d : Bool) → (leb (waiting_count ws) 8 && leb (records_ahead ws) 1200) ≡ a → positions_ahead position ws ≡ b
    → all_far ws ≡ c → all_fit (kept_records ws) ≡ d → (a && b && c && d) ≡ area_valid position ws
unfolding area_valid
area_by position ws a b c d p q r s = sym (ap₂ (λ (x y : Bool). x && y) (ap₂ (λ (x y : Bool). x && y) (ap₂ (λ (x y : Bool). x && y) p q) r) s)

pub returns-then-not-counts_fit : goal.returns-then-not-counts_fit
returns-then-not-counts_fit c = area_by c.args.position.0 c.args.area.now false _ _ _ (sym c.counts_fit.ensures ∙ c.if-not-counts_fit.true) refl refl refl

pub returns-then-not-positions_ahead : goal.returns-then-not-positions_ahead
returns-then-not-positions_ahead c =
    let ws = c.args.area.now in
    area_by c.args.position.0 ws true false (all_far ws) (all_fit (kept_records ws)) (sym c.counts_fit.ensures ∙ c.if-not-counts_fit.false) (sym c.positions_ahead.ensures ∙ c.if-not-positions_ahead.true)
    refl refl

pub returns-then-not-all_far : goal.returns-then-not-all_far
returns-then-not-all_far c =
    let ws = c.args.area.now in
    let k = c.kept_records-records.ensures in
    let far = ap₂ (λ (m : List ℕ) (n : ℕ). is_updates m n && all (λ i. is_far m (update_at m i)) n) (sym k) (sym c.waiting_count.ensures) ∙ sym c.all_far.ensures ∙ c.if-not-all_far.true in
    area_by c.args.position.0 ws true true false (all_fit (kept_records ws)) (sym c.counts_fit.ensures ∙ c.if-not-counts_fit.false) (sym c.positions_ahead.ensures ∙ c.if-not-positions_ahead.false) far
    refl

pub returns : goal.returns
returns c =
    let ws = c.args.area.now in
    let k = c.kept_records-records.ensures in
    let far = ap₂ (λ (m : List ℕ) (n : ℕ). is_updates m n && all (λ i. is_far m (update_at m i)) n) (sym k) (sym c.waiting_count.ensures) ∙ sym c.all_far.ensures ∙ c.if-not-all_far.false in
    c.all_fit.ensures
    ∙ ap all_fit k
    ∙ area_by c.args.position.0 ws true true true (all_fit (kept_records ws)) (sym c.counts_fit.ensures ∙ c.if-not-counts_fit.false) (sym c.positions_ahead.ensures ∙ c.if-not-positions_ahead.false)
    far refl
