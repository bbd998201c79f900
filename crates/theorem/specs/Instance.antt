-- The hall renderer: the rules' interface filled with the timed state, the metadata records and the layout of the state block. Assumes nothing.
use Rattle.std.specs.Prelude.{ℕ, ◌+◌, ◌-◌, Bool, true, ◌&&◌, List, ◌++◌, eqb, length, get_or, take, drop, replicate}
use Rattle.std.specs.Float.{nan}
use Rattle.timed.specs.State.{Timed, slot_at}
use Rattle.timed.specs.Objects.{no_source}
use Rattle.timed.specs.Holds.{wants, wanting}
use Rattle.timed.specs.declared.state.MetadataRendererState.{MetadataRendererState}
use Rattle.records.specs.Falls.{offset_in}
use Rattle.records.specs.LayoutAnswers.{offset_at}
use Rattle.records.specs.declared.metadata.Metadata.{Metadata}
use Rattle.waits.specs.Area.{area_bytes, waiting_count, kept_records}
use Rattle.waits.specs.Settled.{falls_at, fits, area_settled}
use Rattle.waits.specs.ValidAreas.{area_valid}
use Rattle.records.specs.Runs.{each}
use Rattle.records.specs.Laid.{laid_out, count, update_at}
use Rattle.records.specs.ValuesInRange.{in_range}
use Rattle.updates.specs.Said.{Update, update_of}
use Rattle.updates.specs.Applied.{applied}
use Rattle.rules.specs.Leaves.{Leaves, Source, Bed, Shape}
use Rattle.rules.specs.Samples.{State}
use Rattle.rules.specs.Calls.{with_waits}
use Rattle.rules.specs.BlockCalls.{Layout}
use Rattle.store.specs.Layout as store
use Rattle.store.specs.ValidBlocks.{hall_valid, valid}

-- an update with its sample offset
pub record Sent : Type 0 where
  pub offset : ℕ
  pub said : Update

-- update i of metadata that is laid out, in a frame of n samples
abbrev pub sent_at : ℕ → List ℕ → ℕ → Sent
sent_at n meta i = record { offset = offset_in n meta (update_at meta i); said = update_of meta (update_at meta i) }

-- R-12: update i of those that wait, in a frame of n samples from `start` on
abbrev pub ahead_at : ℕ → ℕ → List ℕ → ℕ → Sent
ahead_at start n ws i = record { offset = falls_at start n ws i; said = update_of (kept_records ws) (update_at (kept_records ws) i) }

-- those that wait in their order, then the frame's own, in the order sent
abbrev pub sent_in : ℕ → ℕ → List ℕ → List ℕ → List Sent
sent_in start n ws meta = each (ahead_at start n ws) (waiting_count ws) ++ each (sent_at n meta) (count meta)

-- those of metadata that has been placed in its frame
abbrev pub sent_from : Metadata → List Sent
sent_from m = each (λ i. record { offset = offset_at m.layout i; said = update_of m.records.now (update_at m.records.now i) }) m.layout.count

abbrev pub bed_of : MetadataRendererState → ℕ → Bed
bed_of s k = record { code = get_or s.codes k 0; gain = get_or s.gains k nan }

abbrev pub source_of : MetadataRendererState → ℕ → Source
source_of s d = let o = get_or s.sources d no_source in record { gain = o.gain; size = o.size; place = o.place; send = o.send }

abbrev pub shape_of : MetadataRendererState → Shape
shape_of s = record { started = s.initialized; objects = s.objects - s.isf; beds = each (λ k. get_or s.codes k 0) s.beds }

abbrev pub hall : Leaves
hall =
    record {
      Meta = Timed;
      Update = Sent;
      blank = store.blank;
      apply = λ n u m. applied n u.said m;
      slot = slot_at;
      wants = λ d m. wants d m.state;
      want = λ w d m. record { state = wanting w d m.state; infos = m.infos };
      beds = λ m. each (bed_of m.state) m.state.beds;
      objects = λ m. each (source_of m.state) (m.state.objects - m.state.isf);
      shape = λ m. shape_of m.state;
      offset = λ u. u.offset;
      sent = λ u. record { started = true; objects = u.said.objects - u.said.isf; beds = each u.said.code u.said.beds };
      Waits = List ℕ;
      no_waits = replicate area_bytes 0;
      updates = sent_in;
      fits = fits;
      settle = area_settled;
      laid_out = laid_out;
      in_range = in_range;
    }

-- ---- the block: the renderer's, then the area of what waits

abbrev pub block_size : ℕ
block_size = store.size + area_bytes

abbrev pub front : List ℕ → List ℕ
front b = take store.size b

abbrev pub area_of : List ℕ → List ℕ
area_of b = drop store.size b

abbrev pub block_decode : List ℕ → State hall
block_decode b = with_waits hall (area_of b) (store.decode (front b))

abbrev pub block_encode : State hall → List ℕ
block_encode r = store.encode r ++ r.waits

-- R-12: what waits lies ahead of the stream's position
abbrev pub block_valid : List ℕ → Bool
block_valid b = eqb (length b) block_size && valid (front b) && area_valid (store.decode (front b)).clock.position (area_of b)

abbrev pub block : Layout hall
block = record { size = block_size; valid = block_valid; hall_valid = λ b. hall_valid (front b); decode = block_decode; encode = block_encode }
