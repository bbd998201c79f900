-- What others may cite of this crate, a line each. Assumes nothing.

-- document 02, R-7: the output is at most twice the largest that the filter was fed
pub use Rattle.lowpass.proofs.CalmAtRates.{lowpass_twice}
-- a loud past leaves: each halving of the level takes rate / 64 + 1 samples, from a new filter and from any memory that `Calm` admits
pub use Rattle.lowpass.proofs.Forgetting.{lowpass_forgets, calm_forgets}
-- a new filter has the coefficients that document 01 means
pub use Rattle.lowpass.proofs.CalmAtRates.{new_meant}
-- `Calm X`: a new filter has it, a sample of size at most X keeps it, and with it an output is at most 2 X
pub use Rattle.lowpass.proofs.Calm.{Calm, calm_next, output_bounded}
pub use Rattle.lowpass.proofs.CalmAtRates.{calm_listed}
-- of a list: what holds of a filter that was fed it, and one sample more
pub use Rattle.lowpass.proofs.Calm.{calm_all, last_bounded}
pub use Rattle.lowpass.proofs.CalmAtRates.{within_back, calm_fed, fed_then, fed_more}
-- a filter that remembers only +0.0 answers +0.0 with +0.0
pub use Rattle.lowpass.proofs.Silence.{Still, still_output, still_next}
-- the bounds are needed: once the largest is too little, and the sample itself must count; a loud past that leaves in time, and not much sooner
pub use Rattle.lowpass.proofs.Sharp.{exceeds, counts_itself, past_leaves, too_soon, one_for_sixteen}
