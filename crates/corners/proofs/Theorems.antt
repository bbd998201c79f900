-- What others may cite of this crate, a line each. Assumes nothing.

-- where channels stand in order along an axis, the ends of a list with these members are runs of indexes; the order in the list, and repetition, do not matter
pub use Rattle.corners.proofs.Segments.{part, or_some, or_none, only_first, below_run, above_run}
-- a walk over runs that has stopped has found the two ends, or the two sides, of the choice
pub use Rattle.corners.proofs.Stops.{walk_start, walk_step, ends_at, level_at, sides_at, row_passed}
-- the order by (y, z, x) of finite places can be chained, and two that differ stand in it one way round
pub use Rattle.corners.proofs.Lexical.{Fine, Lex, lex_of, of_lex, lex_chain, other_way}
-- the marked channels, and what a table says of each
pub use Rattle.corners.proofs.Lined.{speaker_in, in_speaker, fine_marked, away_marked}
-- sorted arrays, with the ends of their runs, can be walked
pub use Rattle.corners.proofs.RunEnds.{walkable}
-- so can what is made of any table
pub use Rattle.corners.proofs.Making.{made}
