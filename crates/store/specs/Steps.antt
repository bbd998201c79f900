-- A reader may skip this file: what the methods of the renderer return, field by field, each the rules' step of the same name where infos and places are added. Assumes
-- nothing.
use Rattle.std.specs.Prelude.{ℕ, ◌+◌, cond, eqb}
use Rattle.limiter.specs.declared.Limiter.{Limiter}
use Rattle.lowpass.specs.Lowpass.{new}
use Rattle.lowpass.specs.declared.BiquadLowpassState.{BiquadLowpassState}
use Rattle.timed.specs.declared.state.MetadataRendererState.{MetadataRendererState}
use Rattle.rules.specs.Samples.{ticked}
use Rattle.store.specs.declared.renderer.Clock.{Clock}
use Rattle.store.specs.declared.renderer.Renderer714.{Renderer714}
use Rattle.store.specs.Fields.{clock_of, clock_from}

abbrev pub at_slot : Clock → Clock
at_slot k = record { position = k.position; start = k.position; phase = 0 }

abbrev pub with_state : Renderer714 → MetadataRendererState → Renderer714
with_state s m = record { rate = s.rate; clock = s.clock; limiter = s.limiter; filter = s.filter; pending = s.pending; state = m }

abbrev pub in_new_slot : Renderer714 → Renderer714
in_new_slot s = record { rate = s.rate; clock = at_slot s.clock; limiter = s.limiter; filter = s.filter; pending = s.pending; state = s.state }

abbrev pub opened_by : Renderer714 → ℕ → Renderer714
opened_by s rate =
    let first = eqb s.rate 0 in
    record { rate = cond first rate s.rate; clock = s.clock; limiter = s.limiter; filter = cond first (new rate) s.filter; pending = s.pending; state = s.state }

abbrev pub settled_by : Renderer714 → BiquadLowpassState → ℕ → Renderer714
settled_by s low k =
    record {
      rate = s.rate;
      clock = clock_from (ticked s.state.initialized k (clock_of s.clock));
      limiter = s.limiter;
      filter = low;
      pending = s.pending + k;
      state = s.state;
    }

abbrev pub emptied_by : Renderer714 → Limiter → Renderer714
emptied_by s l = record { rate = s.rate; clock = s.clock; limiter = l; filter = s.filter; pending = 0; state = s.state }
