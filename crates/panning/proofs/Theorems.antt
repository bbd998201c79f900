-- What others may cite of this crate, a line each. Assumes nothing.

-- over any table and at any position: the corners are speakers, the shares lie in 0..1, no speaker gets two corners, the squares add up to the gain
pub use Rattle.panning.proofs.Facts.{pans}
-- the 7.1.4 hall's speakers are such a table, and so is each part of a table that has a speaker
pub use Rattle.panning.proofs.Speakers.{hall714_table, fewer}
-- and so in every hall that fits: there each term is on a speaker that the layout has, and none on another channel, as the bass channel
pub use Rattle.panning.proofs.Setup.{pans_in, only_present, no_speaker, no_bass}
-- the speakers and the divisors of the four layouts, which count the channels; each has the front left and the bass channel, and the first all twelve; which channels one has, as
-- the code marks them
pub use Rattle.panning.proofs.Setup.{layouts, divisor_counts, front_present, bass_present, all_present, mark_is}
-- the four halls with the built-in table fit, and their places are those of document 01
pub use Rattle.panning.proofs.Setup.{hall_fits, built_in_places}
-- a table's places are those that it was made of
pub use Rattle.panning.proofs.Setup.{places_back}
-- a hall with an accepted table fits, and the built-in table is one; its halves, by which it is refused
pub use Rattle.panning.proofs.RightTables.{right_fits, built_in_right, right_parts, table_among}
-- twelve places read off a table are its places; those of an accepted one have its words, and a table of accepted places has them
pub use Rattle.panning.proofs.RightTables.{read_places, table_back, accepted_places}
-- channel 3's record is not used: what is mixed is the same with any other
pub use Rattle.panning.proofs.BassRecord.{bass_record_unused}
-- a gain from 0 to 8 in units, and what holds of each speaker for which a test holds of all
pub use Rattle.panning.proofs.Tables.{Gain8, gain8}
pub use Rattle.corners.proofs.Lists.{every→}
