-- What is heard of a sound state, and the shape that updates and slots leave. Assumes nothing.
use Prim.Native.Nat.{ℕ, zero, suc, ◌-◌, ◌≤◌, ◌<◌}
use mathlib.Core.Path.{◌≡◌, refl, sym, ap, subst}
use mathlib.Core.Bool.{true}
use mathlib.Core.List.{List, ◌∷◌, map}
use lib.ListN.{length, get_or}
use native.Mathlib.Omega.{arith}
use Rattle.records.specs.Runs.{each}
use Rattle.records.proofs.Theorems.{each_length, in_range_fits}
use Rattle.timed.specs.State.{Timed}
use Rattle.timed.proofs.Theorems.{turned_at}
use Rattle.updates.specs.Said.{Update}
use Rattle.updates.specs.Applied.{codes_given, applied}
use Rattle.rules.specs.Leaves.{Bed}
use Rattle.rules.proofs.Theorems.{Mixable}
use Rattle.theorem.specs.Instance.{Sent, bed_of, source_of, hall}
use Rattle.theorem.proofs.Sound.{Sound}
use Rattle.theorem.proofs.Checked.{Checked, Shaped, each_all, whole}
use Rattle.theorem.proofs.SlotShape as slots

-- ---- what is heard

pub mixable : (m : Timed) → Sound m → Mixable (hall.beds m) (hall.objects m)
mixable m h =
    let s = m.state in
    let few = h.beds in
    let some = h.objects in
    record {
      few_beds = subst (λ (n : ℕ). n ≤ 18) (sym (each_length (bed_of s) s.beds)) few;
      beds = each_all _ (bed_of s) s.beds (λ k l. h.gains k (omega arith));
      few_objects = subst (λ (n : ℕ). n ≤ 16) (sym (each_length (source_of s) (s.objects - s.isf))) some;
      objects = each_all _ (source_of s) (s.objects - s.isf)
          (λ d l. let o = h.sources d (omega arith) in record { gain = o.gain; size = o.size; place = o.place; send = o.send });
    }

pub shape_objects : (m : Timed) → length (hall.objects m) ≡ (hall.shape m).objects
shape_objects m = each_length (source_of m.state) (m.state.objects - m.state.isf)

each_map : {A B : Type 0} (g : A → B) (f : ℕ → A) (n : ℕ) → map g (each f n) ≡ each (λ k. g (f k)) n
unfolding each
each_map g f zero = refl
each_map {B} g f (suc n) = ap (λ (l : List B). g (f 0) ∷ l) (each_map g (λ k. f (suc k)) n)

pub shape_beds : (m : Timed) → map (λ (b : Bed). b.code) (hall.beds m) ≡ (hall.shape m).beds
shape_beds m = each_map (λ (b : Bed). b.code) (bed_of m.state) m.state.beds

-- ---- the codes that an update gives

pub each_same : {A : Type 0} (f g : ℕ → A) (n : ℕ) → ((k : ℕ) → k < n → f k ≡ g k) → each f n ≡ each g n
unfolding each
each_same f g zero h = refl
each_same {A} f g (suc n) h =
    subst (λ (x : A). each f (suc n) ≡ x ∷ each (λ k. g (suc k)) n) (h 0 (omega arith))
    (ap (λ (l : List A). f 0 ∷ l) (each_same (λ k. f (suc k)) (λ k. g (suc k)) n (λ k l. h (suc k) (omega arith))))

pub codes_are : (u : Update) (cs : List ℕ) (k : ℕ) → length cs ≡ 18 → k < 18 → get_or (codes_given u cs) k 0 ≡ u.code k
unfolding codes_given
codes_are u cs k e l = turned_at (λ j _. u.code j) 0 18 k cs l (omega arith)

-- ---- shapes

-- gains of any bits
pub shape_given : (n : ℕ) (u : Sent) (m : Timed) → Shaped u → length m.state.codes ≡ 18 → hall.shape (hall.apply n u m) ≡ hall.sent u
unfolding applied
shape_given n u m c h =
    let few : u.said.beds ≤ 18 = subst (λ (v : Update). v.beds ≤ 18) (sym c.is) (whole c.meta c.bytes c.laid c.fit c.index c.there).few_beds in
    ap (λ (l : List ℕ). record { started = true; objects = u.said.objects - u.said.isf; beds = l })
    (each_same (λ k. get_or (codes_given u.said m.state.codes) k 0) u.said.code u.said.beds (λ k l. codes_are u.said m.state.codes k h (omega arith)))

pub shape_apply : (n : ℕ) (u : Sent) (m : Timed) → Checked u → length m.state.codes ≡ 18 → hall.shape (hall.apply n u m) ≡ hall.sent u
shape_apply n u m c =
    shape_given n u m
    (record { meta = c.meta; index = c.index; bytes = c.bytes; laid = c.laid; fit = in_range_fits c.meta c.range; there = c.there; is = c.is })

pub shape_slot : (n : ℕ) (m : Timed) → hall.shape (hall.slot n m) ≡ hall.shape m
shape_slot n m = let s = slots.shape_slot n m in rw (s.initialized, s.objects, s.isf, s.beds, s.codes) refl
