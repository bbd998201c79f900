-- R-11 over calls in a row: an object with a hold asked for stays where it is and is heard there, whatever calls come, until its release, a reset, a making call or another number of
-- objects. Assumes nothing.
use Rattle.std.specs.Prelude.{ℕ, ◌<◌, ◌≡◌, Bool, true, false, not, ◌||◌, List, [], ◌∷◌, T, eqb, length, get_or}
use Rattle.vectors.specs.declared.Vec3.{Vec3}
use Rattle.panning.specs.Setup.{Setup}
use Rattle.rules.specs.Leaves.{Leaves}
use Rattle.rules.specs.Samples.{State, fresh}
use Rattle.rules.specs.Calls.{Call, push, flush, reset, make, make_with, mark, find, is_refused, Result, step, final}
use Rattle.rules.specs.Sounds.{silent}
use Rattle.rules.specs.Promises.{nobody, object_in, Numbered}
use Rattle.rules.specs.Ranges.{HallRanged}
use Rattle.rules.specs.Demand3.{AllLent}

-- whether a call that is not refused leaves the hold of object d, where there are n objects
abbrev pub spares : ℕ → ℕ → Call → Bool
spares d n (push a) = eqb a.objects n
spares d n (flush out stride) = true
spares d n reset = false
spares d n (make k) = false
spares d n (make_with k t) = false
spares d n (mark w e) = w || not (eqb e d)
spares d n (find m) = true

module _ (L : Leaves) where
  -- each of the calls does
  abbrev pub Spared : ℕ → State L → List Call → Type 0
  Spared d r [] = Unit {0}
  Spared d r (c ∷ cs) = T (is_refused (step L r c).answer || spares d (L.shape r.meta).objects c) × Spared d (step L r c).next cs

  -- object d is at the place p at each sample of a call
  abbrev pub HeardAt : ℕ → Vec3 → State L → Result L → Type 0
  HeardAt d p r x = (t : ℕ) → t < length x.moments → (get_or (get_or x.moments t (silent r.setup)).objects d nobody).place ≡ p

  -- at each sample of the calls, and after them, where it is held yet
  abbrev pub HeldAt : ℕ → Vec3 → State L → List Call → Type 0
  HeldAt d p r [] = (L.wants d r.meta ≡ true) × ((object_in L r.meta d).place ≡ p)
  HeldAt d p r (c ∷ cs) = HeardAt d p r (step L r c) × HeldAt d p (step L r c).next cs

  -- after any calls cs from a new renderer, for any calls ds that leave the hold
  abbrev pub HeldStill : Type 0
  HeldStill =
      (h : Setup) → HallRanged h → (cs ds : List Call) → AllLent cs → AllLent ds → (d : ℕ) → let r = final L (fresh L h) cs in
      Numbered L r d → L.wants d r.meta ≡ true → Spared d r ds → HeldAt d (object_in L r.meta d).place r ds
