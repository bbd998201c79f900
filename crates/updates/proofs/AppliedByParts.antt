-- Where records stand, the turn of an element, an applied update from its parts. Assumes nothing.
use Prim.Native.Nat.{ℕ, suc, ◌+◌, ◌-◌, ◌*◌, ◌<◌}
use mathlib.Core.Path.{◌≡◌}
use mathlib.Core.Bool.{Bool, true, ◌&&◌}
use lib.Dec.{eqb}
use lib.Ieee.{Float}
use mathlib.Core.List.{List}
use lib.ListN.{get_or, set}
use native.Mathlib.Omega.{arith}
use native.Mathlib.Nat.{mul-le-mul_right, suc-mul}
use Rattle.timed.specs.State.{no_element}
use Rattle.timed.specs.TimedResults.{IsTimed}
use Rattle.clock.specs.declared.StreamSample.{StreamSample}
use Rattle.timed.specs.declared.state.DynamicSourceState.{DynamicSourceState}
use Rattle.timed.specs.declared.state.MetadataRendererState.{MetadataRendererState}
use Rattle.timed.specs.declared.state.ElementRendererState.{ElementRendererState}
use Rattle.fields.specs.Update.{objects, bed_or_isf_of, header_of}
use Rattle.fields.specs.declared.update.Header.{Header}
use Rattle.records.specs.Laid.{element_at}
use Rattle.records.specs.WholeRecords.{WholeElement}
use Rattle.updates.specs.declared.element.Counts.{Counts}
use Rattle.updates.specs.Said.{element_said, update_of}
use Rattle.updates.specs.UpdateResults.{IsElement, IsWork}
use Rattle.updates.specs.Applied.{Work, element_given, elements_applied, codes_given, next_gains, next_sources, applied}

-- object o in block b is among n objects in k blocks each
pub cell_below : (o n b k : ℕ) → o < n → b < k → o * k + b < n * k
cell_below o n b k h l = omega (arith, mul-le-mul_right {m = suc o} {n = n} k h, suc-mul o k)

-- the record of element e is as an applied update asks
pub whole_at : (m : List ℕ) (u e : ℕ) {n p : ℕ} → n ≡ objects m u → p ≡ element_at m u e → WholeElement m (objects m u) (element_at m u e) → WholeElement m n p
whole_at m u e a b w = rw (a, b) w

-- the turn of one element
pub element_turn :
    (same : Bool) (m : List ℕ) (u : ℕ) (c : Counts) (p e : ℕ) (es : List ElementRendererState) (is : List ℕ) (r : ElementRendererState) (out : List ℕ) →
    c ≡ record { objects = objects m u; isf = bed_or_isf_of m u } → p ≡ element_at m u e → IsElement same c (element_said m p) (e * 256) (get_or es e no_element) is r out →
    ◌≡◌ {A = Work} (record { states = set es e r; infos = out }) (element_given same (update_of m u) e (record { states = es; infos = is }))
unfolding element_given
element_turn same m u c p e es is r out k q h = rw (h.element, h.infos, k, q)

-- an applied update, from its parts
module _ (at : StreamSample) (m : List ℕ) (u : ℕ) (s : MetadataRendererState) (is : List ℕ) where
  pub update_done :
      (h : Header) (same : Bool) (states : List ElementRendererState) (out codes : List ℕ) (gains : List Float) (sources : List DynamicSourceState) (was now : ℕ) →
      h ≡ header_of m u →
      same ≡ (eqb s.elements h.elements && eqb s.objects h.objects && eqb was now) →
      IsWork (elements_applied same (update_of m u) s.states is) states out →
      codes ≡ codes_given (update_of m u) s.codes →
      gains ≡ next_gains s.beds h.beds s.gains →
      sources ≡ next_sources was now s.sources →
      was ≡ s.objects - s.isf →
      now ≡ h.objects - h.bed_or_isf →
      IsTimed (applied at.0 (update_of m u) (record { state = s; infos = is }))
      (record {
        initialized = true;
        payload = at;
        objects = h.objects;
        isf = h.bed_or_isf;
        beds = h.beds;
        elements = h.elements;
        codes = codes;
        gains = gains;
        states = states;
        sources = sources;
      })
      out
  unfolding applied
  update_done h same states out codes gains sources was now e f w k g r a b =
      record { state = rw (w.states, k, g, r, f, a, b, e); infos = rw (w.infos, f, a, b, e) }
