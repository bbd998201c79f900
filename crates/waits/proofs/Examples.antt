-- An update that waits and then falls: it comes at sample 0 in a frame of four samples, for sample 5, and falls at offset 1 of the next four. Assumes nothing.
use mathlib.Core.Path.{◌≡◌, refl, sym, ap, ◌∙◌}
use mathlib.Core.Bool.{true, cond}
use mathlib.Core.List.{List, [], ◌∷◌, ◌++◌}
use Prim.Native.Nat.{ℕ, zero, suc, ◌+◌, ◌-◌, ◌<◌}
use native.Mathlib.Omega.{arith}
use lib.Dec.{ltb, lit<, lit≤}
use lib.ListN.{get_or, length, replicate, length-replicate}
use Rattle.words.specs.Words.{Bytes, number}
use Rattle.fields.specs.RecordBytes.{all}
use Rattle.fields.specs.Update.{codes_fit, is_update}
use Rattle.records.specs.Runs.{each, some, last}
use Rattle.records.specs.Falls.{no_sample}
use Rattle.records.specs.Laid.{is_whole_update, element_at, update_at, is_updates, laid_out, count}
use Rattle.records.specs.ValuesInRange.{record_in_range, in_range, all_fit}
use Rattle.waits.specs.Area.{Wait, area_bytes, waiting_count, position_ahead, wait_at, waits_of}
use Rattle.waits.specs.Settled.{falls_at, staying, coming, waits_next, fits, area_settled}
use Rattle.waits.specs.ValidAreas.{area_valid}
use Rattle.records.proofs.Each.{each_length, each_at}
use Rattle.waits.proofs.Written.{two_bytes}
use Rattle.waits.proofs.Ahead.{kept_or_fallen}

-- kind 9, no objects, no elements, offset 5
pub sent : List ℕ
sent = 9 ∷ replicate 27 0 ++ (5 ∷ replicate 11 0)

pub blank : List ℕ
blank = replicate area_bytes 0

zeros : (n i : ℕ) → get_or (replicate n 0) i 0 < 256
zeros zero i = lit< tt
zeros (suc n) zero = lit< tt
zeros (suc n) (suc i) = zeros n i

headed : (b : ℕ) → b < 256 → (s : List ℕ) → Bytes s → Bytes (b ∷ s)
headed b h s f zero = h
headed b h s f (suc i) = f i

sent_bytes : Bytes sent
unfolding sent
sent_bytes = two_bytes (9 ∷ replicate 27 0) (5 ∷ replicate 11 0) (headed 9 (lit< tt) (replicate 27 0) (zeros 27)) (headed 5 (lit< tt) (replicate 11 0) (zeros 11))

blank_bytes : Bytes blank
unfolding blank
blank_bytes = zeros area_bytes

blank_size : length blank ≡ area_bytes
unfolding blank
blank_size = length-replicate {A = ℕ} area_bytes 0

blank_valid : area_valid 0 blank ≡ true
unfolding blank area_valid number all is_updates update_at all_fit
blank_valid = refl

waiting : waits_next 0 4 blank sent ≡ record { position = 5; records = sent } ∷ []
unfolding blank sent waits_next waits_of each number coming count last is_updates all is_whole_update is_update codes_fit element_at update_at
waiting = refl

fit : fits 0 4 blank sent ≡ true
unfolding fits sent
fit = rw waiting refl

laid : laid_out sent ≡ true
unfolding sent number laid_out some is_updates all is_whole_update is_update codes_fit element_at update_at
laid = refl

ranges : in_range sent ≡ true
unfolding sent in_range all record_in_range
ranges = refl

abbrev pub after : List ℕ
after = area_settled 0 4 blank sent

-- it waits, for its own sample
pub then_waits : waits_of after ≡ record { position = 5; records = sent } ∷ []
unfolding waits_next
then_waits = (kept_or_fallen 0 4 blank sent (lit≤ tt) blank_size blank_bytes blank_valid sent_bytes laid ranges fit).next ∙ waiting

one_waits : waiting_count after ≡ 1
unfolding waits_of
one_waits = sym (each_length (wait_at after) (waiting_count after)) ∙ ap length then_waits

for_five : position_ahead after 0 ≡ 5
unfolding waits_of
for_five =
    ap (λ (w : Wait). w.position) (sym (each_at (wait_at after) (waiting_count after) 0 none (omega (arith, one_waits))))
    ∙ ap (λ (vs : List Wait). (get_or vs 0 none).position) then_waits
  where
    none : Wait
    none = record { position = 0; records = [] }

-- and falls there: at offset 1 of the frame that begins at sample 4
pub then_falls : falls_at 4 4 after 0 ≡ 1
unfolding falls_at
then_falls = ap (λ (p : ℕ). cond (ltb p (4 + 4)) (p - 4) no_sample) for_five

-- so that none waits after it
pub then_gone : waits_next 4 4 after [] ≡ []
unfolding waits_next coming count last is_updates all update_at is_whole_update is_update
then_gone = ap (λ (vs : List Wait). staying 4 4 vs ++ coming 4 4 [] (count []) 0) then_waits
