-- Those that stay, moved to the area's begin: one after the other. Assumes nothing.
use Rattle.std.proofs.Common.{◌≡◌, ℕ, ◌+◌, ◌-◌, ◌*◌, ◌<◌, ◌≤◌, true, false, cond, ltb, List, length, take, drop, sym, ap, ap₂, ◌∙◌, arith}
use lib.ListN.{length-drop}
use lib.Seq.{length-take-le}
use Rattle.words.specs.Words.{long, with_long}
use Rattle.records.specs.Runs.{each}
use Rattle.records.specs.Laid.{update_at}
use Rattle.records.specs.LayoutAnswers.{sent_place}
use Rattle.records.specs.declared.sent.Layout.{Layout}
use Rattle.waits.specs.Area.{waiting_count, records_ahead, position_ahead, kept_records, records_of, wait_at}
use Rattle.waits.specs.Settled.{stays, staying, with_run, laid_from}
use Rattle.waits.specs.ValidAreas.{area_valid}
use Rattle.waits.specs.Answers.{PlacesOf}
use Rattle.waits.specs.declared.load.Load.{Load}
use Rattle.waits.proofs.LaidFrom.{laid_more, position_behind, records_behind}
use Rattle.waits.proofs.Prefixes.{one_stays, one_falls}
use Rattle.waits.proofs.ValidArea.{few, few_records, not_before, below_end, length_kept_records, update_ends, update_begins}
use Rattle.waits.proofs.Loads.{Staying, staying_more, staying_less, records_stand, end_is}

-- A is the area after i of the updates, load is what stays of them
module _ (ws A : List ℕ) (l : Layout) (load : Load) (start n i : ℕ) (size : length ws ≡ 48072) (valid : area_valid start ws ≡ true) (p : PlacesOf ws l) (one : i < l.count)
    (laid : A ≡ laid_from ws 0 72 (staying start n (each (wait_at ws) i))) (st : Staying start n ws load i) where
  pub of_those : i < waiting_count ws
  of_those = let c = p.count in omega (arith, c, one)

  pub below_eight : i < 8
  below_eight = let c = of_those in let f = few start ws valid in omega (arith, c, f)

  whole : length (kept_records ws) ≡ 40 * records_ahead ws
  whole = length_kept_records start ws valid size

  pub near : start ≤ 2199023255552
  near = let a = not_before start ws valid i of_those in let b = below_end start ws valid i of_those in omega (arith, a, b)

  pub starts : sent_place l i ≡ update_at (kept_records ws) i
  starts = p.laid.places i (let c = p.laid.counted in omega (arith, c, one))

  pub end_found : cond (ltb (i + 1) l.count) (sent_place l (i + 1)) (records_ahead ws) ≡ update_at (kept_records ws) (i + 1)
  end_found = end_is ws l i p whole one

  pub rises : update_at (kept_records ws) i < update_at (kept_records ws) (i + 1)
  rises = update_begins (kept_records ws) l p.laid i one

  within : 40 * update_at (kept_records ws) (i + 1) ≤ length (kept_records ws)
  within = update_ends (kept_records ws) l p.laid i one

  pub ends : 40 * update_at (kept_records ws) (i + 1) ≤ 48000
  ends = let a = within in let b = whole in let f = few_records start ws valid in omega (arith, a, b, f)

  room : 8 + 8 * length (staying start n (each (wait_at ws) i)) ≤ 72
  room = let a = st.load.count in let b = st.few in let c = below_eight in omega (arith, a, b, c)

  behind : length (staying start n (each (wait_at ws) i)) ≤ i
  behind = let a = st.load.count in let b = st.few in omega (arith, a, b)

  pub position_is : long A (8 + 8 * i) ≡ position_ahead ws i
  position_is =
      let c = below_eight in
      ap (λ (s : List ℕ). long s (8 + 8 * i)) laid
      ∙ position_behind ws 72 (staying start n (each (wait_at ws) i)) room (omega (arith, size)) i behind (omega (arith, c))

  from : ℕ
  from = 72 + 40 * update_at (kept_records ws) i

  bytes : ℕ
  bytes = 40 * (update_at (kept_records ws) (i + 1) - update_at (kept_records ws) i)

  stand : take bytes (drop from ws) ≡ records_of (kept_records ws) i
  unfolding from bytes
  stand = records_stand ws i size whole within (few_records start ws valid)

  found_at : take bytes (drop from A) ≡ records_of (kept_records ws) i
  unfolding from
  found_at =
      let a = st.load.bytes in
      let b = st.small in
      let e = ends in
      let r = rises in
      ap (λ (s : List ℕ). take bytes (drop from s)) laid
      ∙ ap (take bytes) (records_behind ws 72 (staying start n (each (wait_at ws) i)) room (omega (arith, size)) from (omega (arith, a, b)) (omega (arith, e, r, size)))
      ∙ stand

  as_long : length (records_of (kept_records ws) i) ≡ bytes
  unfolding from bytes
  as_long =
      let e = ends in
      let r = rises in
      let d = length-drop from ws in
      sym (ap length stand) ∙ length-take-le bytes (drop from ws) (omega (arith, d, size, e, r))

  pub kept_more : (B : List ℕ) (r : Load) (place end position : ℕ) → place ≡ update_at (kept_records ws) i → end ≡ update_at (kept_records ws) (i + 1) → position ≡ position_ahead ws i
      → stays start n (wait_at ws i) ≡ true
      → B ≡ with_run (with_long A (8 + 8 * load.count) position) (72 + load.bytes) (take (40 * (end - place)) (drop (72 + 40 * place) A))
      → r.count ≡ load.count + 1 → r.bytes ≡ load.bytes + 40 * (end - place)
      → (B ≡ laid_from ws 0 72 (staying start n (each (wait_at ws) (i + 1)))) × Staying start n ws r (i + 1)
  unfolding from bytes
  kept_more B r place end position pp pe pq e is counted sized =
      let vs = staying start n (each (wait_at ws) i) in
      let a = st.load.count in
      let b = st.load.bytes in
      let c = below_eight in
      let f = st.few in
      let records : take (40 * (end - place)) (drop (72 + 40 * place) A) ≡ records_of (kept_records ws) i =
      ap₂ (λ (x y : ℕ). take (40 * (x - y)) (drop (72 + 40 * y) A)) pe pp ∙ found_at in
      let size_is : 40 * (end - place) ≡ length (records_of (kept_records ws) i) = ap₂ (λ (x y : ℕ). 40 * (x - y)) pe pp ∙ sym as_long in (
        is
            ∙ ap₂ (λ (x : ℕ) (xs : List ℕ). with_run (with_long A (8 + 8 * load.count) x) (72 + load.bytes) xs) pq records
            ∙ laid_more ws A 0 72 load.count (72 + load.bytes) vs (wait_at ws i) laid (omega (arith, a)) (omega (arith, b)) (omega (arith, f, c)) (omega (arith, size))
            ∙ ap (laid_from ws 0 72) (sym (one_stays start n (wait_at ws) i e)),
        staying_more start n ws load r i st e counted (sized ∙ ap (λ (k : ℕ). load.bytes + k) size_is),
      )

  pub kept_less : stays start n (wait_at ws i) ≡ false → (A ≡ laid_from ws 0 72 (staying start n (each (wait_at ws) (i + 1)))) × Staying start n ws load (i + 1)
  kept_less e = (laid ∙ ap (laid_from ws 0 72) (sym (one_falls start n (wait_at ws) i e)), staying_less start n ws load i st e)
