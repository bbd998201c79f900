-- What is opened to compute what the rules say of a list of calls: an `unfolding` line that names one of these opens what its own line names. Assumes nothing.
use lib.Ieee as ieee
use Rattle.words.specs.Words as words
use Rattle.ieee.specs.Units as units
use Rattle.ieee.specs.Small as small
use Rattle.roots.specs.Root as roots
use Rattle.angles.specs.Angle as angle
use Rattle.angles.specs.Filter as filter
use Rattle.angles.specs.FiveTerms as terms-of-angle
use Rattle.vectors.specs.Vectors as vectors
use Rattle.vectors.specs.Anchors as anchors
use Rattle.vectors.specs.Target as target
use Rattle.fields.specs.RecordBytes as fields
use Rattle.fields.specs.Update as update
use Rattle.fields.specs.Block as block
use Rattle.fields.specs.Object as object
use Rattle.records.specs.Runs as runs
use Rattle.records.specs.Laid as laid
use Rattle.records.specs.ValuesInRange as ranges
use Rattle.records.specs.Falls as falls
use Rattle.waits.specs.Area as area
use Rattle.waits.specs.Settled as settled
use Rattle.timed.specs.Infos as infos
use Rattle.timed.specs.State as timed
use Rattle.timed.specs.Holds as holds
use Rattle.updates.specs.Applied as applied
use Rattle.beds.specs.Routes as routes
use Rattle.beds.specs.Positions as positions
use Rattle.beds.specs.BedTerms as terms
use Rattle.beds.specs.Matching as matching
use Rattle.panning.specs.Choice as choice
use Rattle.panning.specs.Table as table
use Rattle.panning.specs.Terms as panning
use Rattle.panning.specs.Speakers as speakers
use Rattle.panning.specs.Setup as setup
use Rattle.lowpass.specs.Lowpass as lowpass
use Rattle.limiter.specs.Limiter as limiter
use Rattle.limiter.specs.Meters as meters
use Rattle.rules.specs.Mix as mix
use Rattle.rules.specs.Samples as samples
use Rattle.rules.specs.BlockCalls as rules
use Rattle.store.specs.Layout as store

unfoldable pub numbers : Unit {0}
unfolding
    ieee.is_nan ieee.lt ieee.le ieee.ne ieee.neg ieee.sub ieee.of_bits ieee.to_bits words.number words.with_number words.float_at words.with_float units.mag
    small.absolute small.larger small.smaller small.clamped roots.root roots.root_power
numbers = tt

unfoldable pub metadata : Unit {0}
unfolding
    fields.all update.codes_fit update.is_update block.is_element block.is_block object.values_fit object.is_object object.maybe_of object.depth_code
    runs.some runs.last runs.each laid.is_whole_element laid.element_at laid.is_whole_update laid.update_at laid.is_updates laid.laid_out laid.count
    ranges.record_in_range ranges.in_range falls.offset_in area.waits_of settled.falls_at settled.fits settled.area_settled
metadata = tt

unfoldable pub time : Unit {0}
unfolding
    vectors.map_to_cube anchors.room_anchored anchors.screen_anchored target.moved target.placed infos.with_vec timed.slot_at holds.wanting applied.applied store.blank
time = tt

unfoldable pub sound : Unit {0}
unfolding
    routes.route_of routes.route_in positions.positions positions.bed_position terms.bed_adds matching.first_of matching.matching
    choice.corner panning.panned panning.audible panning.paired panning.on_channel speakers.positions714
    setup.table_place setup.present setup.speakers_in setup.divisor_in setup.table_of
    terms-of-angle.cosine terms-of-angle.sine angle.w0 filter.coefficients_of lowpass.new limiter.lowered limiter.grown limiter.block_peak meters.shown
    mix.object_terms mix.heard samples.pushed samples.flushed rules.written
sound = tt

-- which tables are accepted, and which channels a list keeps
unfoldable pub judging : Unit {0}
unfolding choice.keep table.between setup.all_inside setup.all_apart ieee.fits
judging = tt

unfoldable pub everything : Unit {0}
unfolding numbers metadata time sound
everything = tt
