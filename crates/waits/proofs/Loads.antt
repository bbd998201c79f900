-- How many updates wait after a frame, of how many bytes: one after the other. Assumes nothing.
use Rattle.std.proofs.Common.{◌≡◌, ℕ, suc, ◌+◌, ◌-◌, ◌*◌, ◌/◌, ◌<◌, ◌≤◌, Bool, true, false, ◌&&◌, cond, leb, ltb, List, [], ◌∷◌, ◌++◌, length, take, drop, refl, sym, ap, ap₂, subst, ◌∙◌, append_assoc, append-nil, length-append, leb-true, ltb-true, ltb-false, arith}
use lib.ListN.{length-drop}
use lib.Seq.{length-take-le, take-add, take-take, drop-append_seam, drop-drop}
use Rattle.words.specs.Words.{with_word}
use Rattle.words.proofs.Theorems.{length_kept}
use Rattle.records.specs.Runs.{each}
use Rattle.records.specs.Laid.{update_at, count}
use Rattle.records.specs.LayoutAnswers.{sent_place}
use Rattle.records.specs.declared.sent.Layout.{Layout}
use Rattle.records.proofs.Theorems.{found, whole_list, updates_rise}
use Rattle.fields.proofs.Theorems.{and_left, and_right}
use Rattle.waits.specs.Area.{Wait, waiting_count, records_ahead, kept_records, records_of, wait_at, waits_of}
use Rattle.waits.specs.Settled.{stays, staying, comes, come_at, coming, waits_next, fits, all_records, laid_from, with_waiting}
use Rattle.waits.specs.ValidAreas.{area_valid}
use Rattle.waits.specs.Answers.{PlacesOf, LoadOf}
use Rattle.waits.specs.declared.load.Load.{Load}
use Rattle.waits.proofs.LaidFrom.{length_records, laid_joined, word_before_laid}
use Rattle.waits.proofs.Prefixes.{one_stays, one_falls, one_comes, none_comes, length_update}
use Rattle.waits.proofs.ValidArea.{few, few_records, updates, length_kept_records}

load_more : (l r : Load) (vs : List Wait) (v : Wait) → LoadOf l vs → r.count ≡ l.count + 1 → r.bytes ≡ l.bytes + length v.records → LoadOf r (vs ++ (v ∷ []))
load_more l r vs v g p q =
    record {
      count = let e = length-append vs (v ∷ []) in let f = g.count in omega (arith, e, f, p);
      bytes = let e = length_records vs (v ∷ []) in let f = g.bytes in let k = ap length (append-nil v.records) in omega (arith, e, f, k, q);
    }

-- l is the load of those of the first i that stay
pub record Staying (start n : ℕ) (ws : List ℕ) (l : Load) (i : ℕ) : Type 0 where
  pub load : LoadOf l (staying start n (each (wait_at ws) i))
  pub few : l.count ≤ i
  pub small : l.bytes ≤ 40 * update_at (kept_records ws) i

module _ (start n : ℕ) (ws : List ℕ) where
  pub staying_none : (l : Load) → l.count ≡ 0 → l.bytes ≡ 0 → Staying start n ws l 0
  unfolding each
  staying_none l p q = record { load = record { count = p; bytes = q }; few = omega (arith, p); small = omega (arith, q) }

  module _ (l r : Load) (i : ℕ) (g : Staying start n ws l i) where
    pub staying_more : stays start n (wait_at ws i) ≡ true → r.count ≡ l.count + 1 → r.bytes ≡ l.bytes + length (records_of (kept_records ws) i) → Staying start n ws r (i + 1)
    staying_more e p q =
        let k = length_update (kept_records ws) i in
        let u = updates_rise (kept_records ws) i (i + 1) (omega arith) in
        let a = g.few in
        let b = g.small in
        record {
          load = subst (LoadOf r) (sym (one_stays start n (wait_at ws) i e)) (load_more l r (staying start n (each (wait_at ws) i)) (wait_at ws i) g.load p q);
          few = omega (arith, a, p);
          small = omega (arith, k, u, b, q);
        }

  pub staying_less : (l : Load) (i : ℕ) → Staying start n ws l i → stays start n (wait_at ws i) ≡ false → Staying start n ws l (i + 1)
  staying_less l i g e =
      let u = updates_rise (kept_records ws) i (i + 1) (omega arith) in
      let a = g.few in
      let b = g.small in
      record { load = subst (LoadOf l) (sym (one_falls start n (wait_at ws) i e)) g.load; few = omega (arith, a); small = omega (arith, u, b) }

  -- of all
  pub staying_all : (l : Load) (i : ℕ) → area_valid start ws ≡ true → length ws ≡ 48072 → Staying start n ws l i → i ≡ waiting_count ws
      → LoadOf l (staying start n (waits_of ws)) × (l.count ≤ 8) × (l.bytes ≤ 48000)
  unfolding waits_of
  staying_all l i valid size g q =
      let f = few start ws valid in
      let fr = few_records start ws valid in
      let s = length_kept_records start ws valid size in
      let w = whole_list (kept_records ws) (waiting_count ws) (updates start ws valid) in
      let e = ap (update_at (kept_records ws)) q in
      let a = g.few in
      let b = g.small in
      (subst (λ (k : ℕ). LoadOf l (staying start n (each (wait_at ws) k))) q g.load, omega (arith, a, q, f), omega (arith, b, e, w, s, fr))

  -- l is the load of those that stay and of those of the first i own ones that wait
  module _ (m : List ℕ) where
    pub record Loaded (l : Load) (i : ℕ) : Type 0 where
      pub load : LoadOf l (staying start n (waits_of ws) ++ coming start n m i 0)
      pub few : l.count ≤ 8 + i
      pub small : l.bytes ≤ 48000 + 40 * update_at m i

    pub loaded_none : (l : Load) → LoadOf l (staying start n (waits_of ws)) → l.count ≤ 8 → l.bytes ≤ 48000 → Loaded l 0
    unfolding coming
    loaded_none l g a b = record { load = subst (LoadOf l) (sym (append-nil (staying start n (waits_of ws)))) g; few = omega (arith, a); small = omega (arith, b) }

    pub loaded_more : (l r : Load) (i : ℕ) → Loaded l i → comes n m i ≡ true → r.count ≡ l.count + 1 → r.bytes ≡ l.bytes + length (records_of m i) → Loaded r (i + 1)
    loaded_more l r i g e p q =
        let k = length_update m i in
        let u = updates_rise m i (i + 1) (omega arith) in
        let a = g.few in
        let b = g.small in
        let s = staying start n (waits_of ws) in
        let t = coming start n m i 0 in
        let vs : s ++ t ++ (come_at start m i ∷ []) ≡ s ++ coming start n m (i + 1) 0 = append_assoc s t (come_at start m i ∷ []) ∙ ap (λ (z : List Wait). s ++ z) (sym (one_comes start n m i e)) in
        record {
          load = subst (LoadOf r) vs (load_more l r (s ++ t) (come_at start m i) g.load p q);
          few = omega (arith, a, p);
          small = omega (arith, k, u, b, q);
        }

    pub loaded_less : (l : Load) (i : ℕ) → Loaded l i → comes n m i ≡ false → Loaded l (i + 1)
    loaded_less l i g e =
        let u = updates_rise m i (i + 1) (omega arith) in
        let a = g.few in
        let b = g.small in
        record {
          load = subst (LoadOf l) (ap (λ (z : List Wait). staying start n (waits_of ws) ++ z) (sym (none_comes start n m i e))) g.load;
          few = omega (arith, a);
          small = omega (arith, u, b);
        }

    pub loaded_all : (l : Load) (i : ℕ) → Loaded l i → i ≡ count m → LoadOf l (waits_next start n ws m)
    unfolding waits_next
    loaded_all l i g q = subst (λ (k : ℕ). LoadOf l (staying start n (waits_of ws) ++ coming start n m k 0)) q g.load

    -- ---- how many may
    pub fits_is : (l : Load) → LoadOf l (waits_next start n ws m) → (leb l.count 8 && leb l.bytes 48000) ≡ fits start n ws m
    unfolding fits
    fits_is l g = ap₂ (λ (a b : ℕ). leb a 8 && leb b 48000) g.count g.bytes

    module _ (fit : fits start n ws m ≡ true) where
      both : (leb (length (waits_next start n ws m)) 8 && leb (length (all_records (waits_next start n ws m))) 48000) ≡ true
      unfolding fits
      both = fit

      pub no_more : length (staying start n (waits_of ws)) + length (coming start n m (count m) 0) ≤ 8
      unfolding waits_next
      no_more =
          let l = leb-true _ _ (and_left (leb (length (waits_next start n ws m)) 8) _ both) in
          let e = length-append (staying start n (waits_of ws)) (coming start n m (count m) 0) in
          omega (arith, l, e)

      pub no_larger : length (all_records (staying start n (waits_of ws))) + length (all_records (coming start n m (count m) 0)) ≤ 48000
      unfolding waits_next
      no_larger =
          let l = leb-true _ _ (and_right (leb (length (waits_next start n ws m)) 8) _ both) in
          let e = length_records (staying start n (waits_of ws)) (coming start n m (count m) 0) in
          omega (arith, l, e)

-- ---- what is laid
module _ (ws A B : List ℕ) (vs us : List Wait) (c b s t : ℕ) where
  pub settled_is : A ≡ laid_from ws 0 72 vs → s ≡ length vs → t ≡ length (all_records vs) → B ≡ laid_from A s (72 + t) us
      → c ≡ s + length us → b ≡ t + length (all_records us) → length ws ≡ 48072 → length vs + length us ≤ 8
      → with_word (with_word B 0 c) 4 (b / 40) ≡ with_waiting (vs ++ us) ws
  unfolding with_waiting
  settled_is first ps pt second pc pb size few =
      let all = vs ++ us in
      let e = length-append vs us in
      let counted : c ≡ length all = omega (arith, pc, ps, e) in
      let f = length_records vs us in
      let sized : b ≡ length (all_records all) = omega (arith, pb, pt, f) in
      let room : 8 + 8 * (0 + length all) ≤ 72 = omega (arith, e, few) in
      let W = with_word ws 0 c in
      let long : length W ≡ 48072 = length_kept ws 0 4 c ∙ size in
      let joined : B ≡ laid_from ws 0 72 all =
      second
      ∙ ap₂ (λ (i j : ℕ). laid_from A i (72 + j) us) ps pt
      ∙ ap (λ (x : List ℕ). laid_from x (length vs) (72 + length (all_records vs)) us) first
      ∙ ap (λ (i : ℕ). laid_from (laid_from ws 0 72 vs) i (72 + length (all_records vs)) us) (let z : length vs ≡ 0 + length vs = omega arith in z)
      ∙ laid_joined ws 0 72 vs us (omega (arith, few)) (omega (arith, size)) in
      ap (λ (x : List ℕ). with_word (with_word x 0 c) 4 (b / 40)) joined
      ∙ ap (λ (x : List ℕ). with_word x 4 (b / 40)) (word_before_laid ws 0 72 0 4 c all (omega arith) room (omega (arith, size)))
      ∙ word_before_laid W 0 72 4 4 (b / 40) all (omega arith) room (omega (arith, long))
      ∙ ap₂ (λ (i j : ℕ). laid_from (with_word (with_word ws 0 i) 4 (j / 40)) 0 72 all) counted sized

-- ---- where what waits stands

-- the records of update i in the area itself
pub records_stand : (ws : List ℕ) (i : ℕ) → length ws ≡ 48072 → length (kept_records ws) ≡ 40 * records_ahead ws → 40 * update_at (kept_records ws) (i + 1) ≤ length (kept_records ws)
    → records_ahead ws ≤ 1200
    → take (40 * (update_at (kept_records ws) (i + 1) - update_at (kept_records ws) i)) (drop (72 + 40 * update_at (kept_records ws) i) ws) ≡ records_of (kept_records ws) i
records_stand ws i size whole end few =
    let K = kept_records ws in
    let L = 40 * records_ahead ws in
    let a = 40 * update_at K i in
    let n = 40 * (update_at K (i + 1) - update_at K i) in
    let xs = drop 72 ws in
    let u = updates_rise K i (i + 1) (omega arith) in
    let lx = length-drop 72 ws in
    let la : length (take a xs) ≡ a = length-take-le a xs (omega (arith, lx, size, end, whole, few, u)) in
    let split : take L xs ≡ take a xs ++ take (L - a) (drop a xs) = ap (λ (k : ℕ). take k xs) (let e : L ≡ a + (L - a) = omega (arith, end, whole, u) in e) ∙ take-add a (L - a) xs in
    let back : drop a K ≡ take (L - a) (drop a xs) =
    ap (drop a) split ∙ ap (λ (k : ℕ). drop k (take a xs ++ take (L - a) (drop a xs))) (sym la) ∙ drop-append_seam (take a xs) (take (L - a) (drop a xs)) in
    sym (ap (λ (k : ℕ). take (40 * (update_at K k - update_at K i)) (drop a K)) (let e : suc i ≡ i + 1 = omega arith in e)
    ∙ ap (take n) back
    ∙ take-take n (L - a) (drop a xs) (omega (arith, end, whole, u))
    ∙ ap (take n) (drop-drop a 72 ws))

-- the record after update i, as the code finds it
pub end_is : (ws : List ℕ) (l : Layout) (i : ℕ) → PlacesOf ws l → length (kept_records ws) ≡ 40 * records_ahead ws → i < l.count
    → cond (ltb (i + 1) l.count) (sent_place l (i + 1)) (records_ahead ws) ≡ update_at (kept_records ws) (i + 1)
end_is ws l i p whole one = by (ltb (i + 1) l.count) refl
  where
    by : (b : Bool) → ltb (i + 1) l.count ≡ b → cond b (sent_place l (i + 1)) (records_ahead ws) ≡ update_at (kept_records ws) (i + 1)
    by true e = p.laid.places (i + 1) (let h = ltb-true _ _ e in let c = p.laid.counted in omega (arith, h, c))
    by false e =
        let h = ltb-false (i + 1) l.count e in
        let c = p.laid.counted in
        let q : count (kept_records ws) ≡ i + 1 = omega (arith, h, one, c) in
        let w = whole_list (kept_records ws) (count (kept_records ws)) (found (kept_records ws) p.laid.laid) in
        let f = ap (update_at (kept_records ws)) q in
        omega (arith, w, whole, f)
