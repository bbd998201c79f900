-- What others may cite of this crate, a line each. Assumes nothing.

-- at every rate that is accepted the five terms that are taken suffice
pub use Rattle.rates.proofs.Every.{every_rate}
