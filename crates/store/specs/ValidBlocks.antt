-- Which blocks are valid: of the right length, each field in its own range (specs/Fields, and formats/specs/Info for the infos), and what fields owe each other. Assumes
-- nothing.
use Rattle.std.specs.Prelude.{ℕ, ◌+◌, ◌-◌, ◌*◌, Bool, not, ◌&&◌, ◌||◌, cond, List, eqb, leb, ltb, length}
use Rattle.words.specs.Words.{words_at}
use Rattle.formats.specs.Areas.{info_count}
unfoldable pub use Rattle.formats.specs.Areas.{heads_valid}
pub use Rattle.formats.specs.Info.{head_valid}
use Rattle.formats.specs.Format.{Format, such}
use Rattle.timed.specs.Slot.{middle}
use Rattle.timed.specs.State.{element_of}
use Rattle.timed.specs.declared.state.MetadataRendererState.{MetadataRendererState}
use Rattle.store.specs.declared.renderer.Renderer714.{Renderer714}
use Rattle.store.specs.Fields.{small_format, hall_format}
use Rattle.panning.specs.Setup.{table_right}
use Rattle.store.specs.Layout.{small_width, hall_at, size, infos_of, table_in}
pub use Rattle.store.specs.Fields.{longest}

-- ---- what fields owe each other

-- "the slot's start plus phase at most the stream's position", "nothing pending without a rate"
abbrev pub clock_in : ℕ → ℕ → ℕ → ℕ → ℕ → Bool
clock_in rate phase position start pending = leb (start + phase) position && (not (eqb rate 0) || eqb pending 0)

-- the last applied update's: "up to 32 objects in all, 16 of them dynamic, 18 bed channels (never more than objects)"
abbrev pub counts_in : ℕ → ℕ → ℕ → Bool
counts_in objects isf beds = leb (objects - isf) 16 && leb beds objects

-- "an element's objects as many as the last update's, its flags no fewer than the dynamic objects": of element i, where it is in use
abbrev pub least : ℕ → ℕ → ℕ → ℕ → ℕ
least i elements objects isf = cond (ltb i elements) (objects - isf) 0

abbrev pub least_flags : ℕ → MetadataRendererState → ℕ
least_flags i s = least i s.elements s.objects s.isf

-- "a remaining ramp from -2^21 - 64 × the stream's position to 2^20": not below, where it stands plus 2^47
abbrev pub element_in : ℕ → ℕ → ℕ → ℕ → Bool
element_in position least flags remaining = leb least flags && leb middle (remaining + (2097152 + 64 * position))

abbrev pub element_related : Renderer714 → ℕ → Bool
element_related s i = element_in s.clock.position.0 (least_flags i s.state) (element_of s.state i).flags (element_of s.state i).remaining

abbrev pub related : Renderer714 → Bool
related s =
    clock_in s.rate s.clock.phase s.clock.position.0 s.clock.start.0 s.pending
    && (counts_in s.state.objects s.state.isf s.state.beds && (element_related s 0 && element_related s 1))

-- ---- the block

-- the small part
abbrev pub small_part : Format Renderer714
small_part = such related small_format

unfoldable pub small_valid : List ℕ → Bool
small_valid w = small_part.test w 0

-- R-5: "Reset .. refuses by 1 a block whose code is above 3"; R-6: "a table that breaks these rules is a field outside its range, and reset too refuses it by 1"
unfoldable pub hall_valid : List ℕ → Bool
hall_valid b = hall_format.test (words_at b hall_at hall_format.width) 0 && table_right (table_in b)

-- "a state block of wrong length, or with a field outside its range": refusal 1
unfoldable pub valid : List ℕ → Bool
unfolding small_valid heads_valid hall_valid
valid b = eqb (length b) size && small_valid (words_at b 0 small_width) && heads_valid (infos_of b) 0 info_count && hall_valid b
