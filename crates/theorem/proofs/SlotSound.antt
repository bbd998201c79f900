-- A slot keeps `Sound`. Assumes nothing.
use Prim.Native.Nat.{ℕ, zero, suc, ◌+◌, ◌*◌, ◌<◌, ◌≤◌}
use mathlib.Core.Path.{◌≡◌, refl, sym, ap, subst, ◌∙◌}
use mathlib.Core.Bool.{Bool, true, false}
use mathlib.Core.List.{List}
use native.Mathlib.Nat.{zero-mul}
use native.Mathlib.Omega.{arith}
use borrow.Author.Tests.{ltb-true, ltb-false}
use lib.Dec.{T, ltb}
use lib.ListN.{length, get_or, get_or-eq_default}
use lib.Ieee.{Float, fits, le, of_bits}
use Rattle.std.specs.Prelude.{Option, Some, None}
use Rattle.words.specs.Words.{number, float_at}
use Rattle.vectors.specs.declared.Vec3.{Vec3}
use Rattle.vectors.specs.Fit.{VecFits}
use Rattle.panning.specs.Choice.{0·0, 1·0}
use Rattle.panning.specs.Table.{between, 8·0, Position}
use Rattle.timed.specs.Infos.{maybe_at, gain_at, size_at, send_at}
use Rattle.timed.specs.State.{Timed, slot_at}
use Rattle.timed.specs.declared.state.DynamicSourceState.{DynamicSourceState}
use Rattle.timed.specs.InfoSizes.{info_bytes, all_bytes, send_byte}
use Rattle.timed.proofs.Theorems.{Like, slot_like}
use Rattle.theorem.proofs.Sound.{UpTo, SourceSound, InfosSound, Sound}
use Rattle.theorem.proofs.SlotShape.{shape_slot}
use Rattle.theorem.proofs.SlotObjects.{Holds, SourceHas, InfosHave, like_has}
use Rattle.theorem.proofs.SlotState.{StateHas, slot_has}

abbrev pub Upto : Float → Float → Type 0
Upto most x = T (between 0·0 most x)

-- ---- past the last info nothing is present

number_past : (s : List ℕ) (at n : ℕ) → length s ≤ at → number s at n ≡ 0
unfolding number
number_past s at zero h = refl
number_past s at (suc n) h =
    let a = number_past s at n h in
    let b : get_or s (at + n) 0 ≡ 0 = get_or-eq_default s 0 (omega arith) in
    rw (a, b, zero-mul)

module _ (is : List ℕ) (long : length is ≡ all_bytes) (k : ℕ) (past : 512 ≤ k) where
  head_past : number is (info_bytes * k) 4 ≡ 0
  head_past = number_past is (info_bytes * k) 4 (omega arith)

  gain_past : gain_at is k ≡ None
  unfolding maybe_at
  gain_past = rw head_past

  size_past : size_at is k ≡ None
  unfolding maybe_at
  size_past = rw head_past

  send_past : Upto 1·0 (send_at is k)
  unfolding float_at of_bits between fits le
  send_past = rw (number_past is (info_bytes * k + send_byte) 4 (omega arith)) tt

-- ---- the two ways to say it

held : (most : Float) (m : Option Float) → UpTo most m → Holds (Upto most) m
held most None h = h
held most (Some x) h = h

up_to : (most : Float) (m : Option Float) → Holds (Upto most) m → UpTo most m
up_to most None h = h
up_to most (Some x) h = h

sends_held : (is : List ℕ) → InfosSound is → (k : ℕ) (b : Bool) → ltb k 512 ≡ b → Upto 1·0 (send_at is k)
sends_held is h k true e = h.send k (ltb-true k 512 e)
sends_held is h k false e = send_past is h.long k (ltb-false k 512 e)

-- below 512 as given, from there on absent
each_held : (most : Float) (f : ℕ → Option Float) → ((k : ℕ) → k < 512 → UpTo most (f k)) → ((k : ℕ) → 512 ≤ k → f k ≡ None) → (k : ℕ) → (b : Bool) → ltb k 512 ≡ b
    → Holds (Upto most) (f k)
each_held most f h p k true e = held most (f k) (h k (ltb-true k 512 e))
each_held most f h p k false e = subst (Holds (Upto most)) (sym (p k (ltb-false k 512 e))) tt

infos_have : (is : List ℕ) → InfosSound is → InfosHave (Upto 8·0) (Upto 1·0) is
infos_have is h =
    record {
      gain = λ k. each_held 8·0 (gain_at is) h.gain (gain_past is h.long) k (ltb k 512) refl;
      size = λ k. each_held 1·0 (size_at is) h.size (size_past is h.long) k (ltb k 512) refl;
      send = λ k. sends_held is h k (ltb k 512) refl;
    }

fits_of : {v : Vec3} → Position v → VecFits v
fits_of h = record { x_fits = h.x; y_fits = h.y; z_fits = h.z }

pub position_of : {v : Vec3} → VecFits v → Position v
position_of h = record { x = h.x_fits; y = h.y_fits; z = h.z_fits }

source_has : {s : DynamicSourceState} → SourceSound s → SourceHas (Upto 8·0) (Upto 1·0) s
source_has h = record { gain = h.gain; size = h.size; place = fits_of h.place; send = h.send }

pub source_sound : {s : DynamicSourceState} → SourceHas (Upto 8·0) (Upto 1·0) s → SourceSound s
source_sound h = record { gain = h.gain; size = h.size; place = position_of h.place; send = h.send }

-- ---- infos and state

pub like_sound : {is js : List ℕ} → Like is js → InfosSound is → InfosSound js
like_sound {is} {js} l h =
    let g = like_has l (infos_have is h) in
    record {
      long = l.long ∙ h.long;
      bytes = l.bytes h.bytes;
      gain = λ k _. up_to 8·0 (gain_at js k) (g.gain k);
      size = λ k _. up_to 1·0 (size_at js k) (g.size k);
      send = λ k _. g.send k;
    }

pub state_has : (m : Timed) → Sound m → StateHas (Upto 8·0) (Upto 1·0) m.state
state_has m h =
    record {
      beds = h.beds;
      objects = h.objects;
      states = h.states;
      gains = h.gains;
      sources = λ d l. source_has (h.sources d l);
      targets = λ e l d k. fits_of (h.targets e d l k);
    }

pub sound_slot : (start : ℕ) (m : Timed) → Sound m → Sound (slot_at start m)
sound_slot start m h =
    let s = shape_slot start m in
    let g = slot_has (Upto 8·0) (Upto 1·0) start m (state_has m h) (infos_have m.infos h.infos) in
    record {
      beds = g.beds;
      objects = g.objects;
      codes = ap length s.codes ∙ h.codes;
      states = g.states;
      gains = g.gains;
      dynamic = s.sources ∙ h.dynamic;
      sources = λ d l. source_sound (g.sources d l);
      tracks = λ e l. (s.element e).tracks ∙ h.tracks e l;
      targets = λ e d l k. position_of (g.targets e l d k);
      infos = like_sound (slot_like start m) h.infos;
    }
