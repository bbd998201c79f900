-- Waits laid one behind the other: those laid behind others are laid with them. Assumes nothing.
use Rattle.std.proofs.Common.{◌≡◌, ℕ, suc, ◌+◌, ◌*◌, ◌≤◌, List, [], ◌∷◌, ◌++◌, length, drop, refl, sym, ap, ap₂, ◌∙◌, append_assoc, append-nil, length-append, arith}
use Rattle.words.specs.Words.{with_number, long, with_long}
use Rattle.words.proofs.Theorems.{Kept, kept_twice, number_keeps, reads_before, reads_past, length_kept}
use Rattle.waits.specs.Area.{Wait}
use Rattle.waits.specs.Settled.{all_records, with_positions, with_run, laid_from}
use Rattle.waits.proofs.Runs.{drop_past_run, run_keeps, run_joined, run_none, drop_past_number, number_before_run, numbers_apart}

-- ---- positions

pub length_positions : (X : List ℕ) (k : ℕ) (vs : List Wait) → length (with_positions X k vs) ≡ length X
length_positions X k [] = refl
length_positions X k (v ∷ vs) = length_positions (with_long X (8 + 8 * k) v.position) (suc k) vs ∙ length_kept X (8 + 8 * k) 8 v.position

positions_before_run : (Y xs : List ℕ) (at k : ℕ) (vs : List Wait) → 8 + 8 * (k + length vs) ≤ at → at ≤ length Y
    → with_positions (with_run Y at xs) k vs ≡ with_run (with_positions Y k vs) at xs
positions_before_run Y xs at k [] h l = refl
positions_before_run Y xs at k (v ∷ vs) h l =
    ap (λ (s : List ℕ). with_positions s (suc k) vs) (number_before_run Y xs at (8 + 8 * k) 8 v.position (omega arith) l)
    ∙ positions_before_run (with_long Y (8 + 8 * k) v.position) xs at (suc k) vs (omega arith) (let e = length_kept Y (8 + 8 * k) 8 v.position in omega (arith, e))

positions_joined : (X : List ℕ) (k : ℕ) (vs us : List Wait) → with_positions (with_positions X k vs) (k + length vs) us ≡ with_positions X k (vs ++ us)
positions_joined X k [] us = ap (λ (i : ℕ). with_positions X i us) (let e : k + 0 ≡ k = omega arith in e)
positions_joined X k (v ∷ vs) us =
    let Y = with_long X (8 + 8 * k) v.position in
    ap (λ (i : ℕ). with_positions (with_positions Y (suc k) vs) i us) (let e : k + suc (length vs) ≡ suc k + length vs = omega arith in e) ∙ positions_joined Y (suc k) vs us

pub positions_keep : (X : List ℕ) (k : ℕ) (vs : List Wait) → Kept X (with_positions X k vs) (8 + 8 * k) (8 + 8 * (k + length vs))
positions_keep X k [] = record { before = λ i h. refl; past = λ i h. refl }
positions_keep X k (v ∷ vs) =
    let Y = with_long X (8 + 8 * k) v.position in
    kept_twice (8 + 8 * k) (8 + 8 * (k + suc (length vs))) (number_keeps X (8 + 8 * k) 8 v.position) (positions_keep Y (suc k) vs) (omega arith) (omega arith) (omega arith) (omega arith)

drop_past_positions : (X : List ℕ) (k q : ℕ) (vs : List Wait) → 8 + 8 * (k + length vs) ≤ q → q ≤ length X → drop q (with_positions X k vs) ≡ drop q X
drop_past_positions X k q [] h l = refl
drop_past_positions X k q (v ∷ vs) h l =
    let Y = with_long X (8 + 8 * k) v.position in
    drop_past_positions Y (suc k) q vs (omega arith) (let e = length_kept X (8 + 8 * k) 8 v.position in omega (arith, e)) ∙ drop_past_number X q (8 + 8 * k) 8 v.position (omega arith) l

number_before_positions : (X : List ℕ) (k p n w : ℕ) (vs : List Wait) → p + n ≤ 8 → 8 + 8 * (k + length vs) ≤ length X
    → with_number (with_positions X k vs) p n w ≡ with_positions (with_number X p n w) k vs
number_before_positions X k p n w [] h l = refl
number_before_positions X k p n w (v ∷ vs) h l =
    let Y = with_long X (8 + 8 * k) v.position in
    number_before_positions Y (suc k) p n w vs h (let e = length_kept X (8 + 8 * k) 8 v.position in omega (arith, e))
    ∙ ap (λ (s : List ℕ). with_positions s (suc k) vs) (numbers_apart X p n w (8 + 8 * k) 8 v.position (omega arith) (omega arith))

-- ---- waits

pub all_records_append : (vs us : List Wait) → all_records (vs ++ us) ≡ all_records vs ++ all_records us
all_records_append [] us = refl
all_records_append (v ∷ vs) us = ap (λ (t : List ℕ). v.records ++ t) (all_records_append vs us) ∙ sym (append_assoc v.records (all_records vs) (all_records us))

pub length_records : (vs us : List Wait) → length (all_records (vs ++ us)) ≡ length (all_records vs) + length (all_records us)
length_records vs us = ap length (all_records_append vs us) ∙ length-append (all_records vs) (all_records us)

pub laid_none : (X : List ℕ) (k at : ℕ) → laid_from X k at [] ≡ X
laid_none X k at = run_none X at

laid_one : (X : List ℕ) (k at : ℕ) (v : Wait) → laid_from X k at (v ∷ []) ≡ with_run (with_long X (8 + 8 * k) v.position) at v.records
laid_one X k at v = ap (with_run (with_long X (8 + 8 * k) v.position) at) (append-nil v.records)

pub laid_joined : (X : List ℕ) (k at : ℕ) (vs us : List Wait) → 8 + 8 * (k + length vs + length us) ≤ at → at ≤ length X
    → laid_from (laid_from X k at vs) (k + length vs) (at + length (all_records vs)) us ≡ laid_from X k at (vs ++ us)
laid_joined X k at vs us h l =
    let Y = with_positions X k vs in
    let j = k + length vs in
    let m : at ≤ length Y = omega (arith, length_positions X k vs) in
    let n : at ≤ length (with_positions Y j us) = omega (arith, length_positions Y j us) in
    ap (λ (s : List ℕ). with_run s (at + length (all_records vs)) (all_records us)) (positions_before_run Y (all_records vs) at j us h m)
    ∙ run_joined (with_positions Y j us) (all_records vs) (all_records us) at n
    ∙ ap₂ (λ (s t : List ℕ). with_run s at t) (positions_joined X k vs us) (sym (all_records_append vs us))

-- one more, laid behind those of `area`
pub laid_more : (X area : List ℕ) (k at c b : ℕ) (vs : List Wait) (v : Wait) → area ≡ laid_from X k at vs → c ≡ k + length vs → b ≡ at + length (all_records vs)
    → 16 + 8 * c ≤ at → at ≤ length X → with_run (with_long area (8 + 8 * c) v.position) b v.records ≡ laid_from X k at (vs ++ (v ∷ []))
laid_more X area k at c b vs v is p q h l =
    sym (laid_one area c b v)
    ∙ ap₂ (λ (i j : ℕ). laid_from area i j (v ∷ [])) p q
    ∙ ap (λ (s : List ℕ). laid_from s (k + length vs) (at + length (all_records vs)) (v ∷ [])) is
    ∙ laid_joined X k at vs (v ∷ []) (omega arith) l

-- the words before them
pub word_before_laid : (X : List ℕ) (k at p n w : ℕ) (vs : List Wait) → p + n ≤ 8 → 8 + 8 * (k + length vs) ≤ at → at ≤ length X
    → with_number (laid_from X k at vs) p n w ≡ laid_from (with_number X p n w) k at vs
word_before_laid X k at p n w vs h b l =
    number_before_run (with_positions X k vs) (all_records vs) at p n w (omega arith) (let e = length_positions X k vs in omega (arith, e))
    ∙ ap (λ (s : List ℕ). with_run s at (all_records vs)) (number_before_positions X k p n w vs h (omega arith))

-- ---- what lies behind those that are laid reads as before

module _ (X : List ℕ) (at : ℕ) (vs : List Wait) (room : 8 + 8 * length vs ≤ at) (within : at ≤ length X) where
  pub position_behind : (i : ℕ) → length vs ≤ i → 16 + 8 * i ≤ at → long (laid_from X 0 at vs) (8 + 8 * i) ≡ long X (8 + 8 * i)
  position_behind i h b =
      let Y = with_positions X 0 vs in
      let e = length_positions X 0 vs in
      reads_before (run_keeps Y (all_records vs) at (omega (arith, e))) (8 + 8 * i) 8 (omega arith) ∙ reads_past (positions_keep X 0 vs) (8 + 8 * i) 8 (omega arith)

  pub records_behind : (q : ℕ) → at + length (all_records vs) ≤ q → q ≤ length X → drop q (laid_from X 0 at vs) ≡ drop q X
  records_behind q h l =
      let Y = with_positions X 0 vs in
      let e = length_positions X 0 vs in
      drop_past_run Y (all_records vs) at q (omega (arith, e)) h ∙ drop_past_positions X 0 q vs (omega arith) l
