-- A reader may skip this file: the slot and the update that the probes run, for any state, infos and metadata: where the test holds, the leaf's rule, else nothing. A state is
-- tested for the ranges of `Within`, of the timed state: `fits_within` and `within_fits` of proofs/Timed say that the test is just that. Assumes nothing.
use Rattle.std.specs.Prelude.{ℕ, ◌+◌, ◌-◌, ◌*◌, Bool, ◌&&◌, cond, List, eqb, leb, ltb, length, get_or}
use Rattle.fields.specs.RecordBytes.{all}
use Rattle.records.specs.Laid.{update_at, laid_out, count}
use Rattle.records.specs.ValuesInRange.{in_range}
use Rattle.timed.specs.InfoSizes.{all_bytes}
use Rattle.timed.specs.Slot.{middle, no_block}
use Rattle.timed.specs.State.{Timed, element_of, slot_at}
use Rattle.timed.specs.declared.state.BlockState.{BlockState}
use Rattle.timed.specs.declared.state.ElementRendererState.{ElementRendererState}
use Rattle.timed.specs.declared.state.MetadataRendererState.{MetadataRendererState}
use Rattle.updates.specs.Said.{update_of}
use Rattle.updates.specs.Applied.{applied}

-- 2^40
abbrev pub last_position : ℕ
last_position = 1099511627776

-- ---- a state

abbrev pub block_fits : BlockState → Bool
block_fits b = leb b.offset 2097152 && leb b.ramp 2097152

unfoldable pub schedule_fits : List BlockState → Bool
schedule_fits bs = all (λ b. block_fits (get_or bs b no_block)) 8

unfoldable pub element_fits : ℕ → ElementRendererState → Bool
unfolding schedule_fits
element_fits position e =
    leb e.blocks 8 && schedule_fits e.schedule && leb e.remaining 140737489403904 && leb middle (e.remaining + (2097152 + 64 * position))

unfoldable pub counts_suit : MetadataRendererState → Bool
counts_suit s =
    leb s.objects 32 && leb s.isf 255 && leb (s.objects - s.isf) 16 && leb s.beds 18 && leb s.beds s.objects && leb s.elements 2

unfoldable pub state_fits : ℕ → MetadataRendererState → Bool
unfolding counts_suit element_fits
state_fits position s =
    counts_suit s && leb s.payload.0 last_position && element_fits position (element_of s 0) && element_fits position (element_of s 1)

-- ---- the slot and the update

-- all infos
abbrev pub has_infos : Timed → Bool
has_infos t = eqb (length t.infos) all_bytes

abbrev pub slot_if : ℕ → Timed → Timed
slot_if start t = cond (has_infos t && leb start last_position && state_fits start t.state) (slot_at start t) t

-- update i of metadata that refusals 5 and 6 let pass
abbrev pub update_if : List ℕ → ℕ → ℕ → Timed → Timed
update_if m i at t = cond (has_infos t && laid_out m && in_range m && ltb i (count m)) (applied at (update_of m (update_at m i)) t) t
