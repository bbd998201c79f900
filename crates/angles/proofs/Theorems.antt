-- What others may cite of this crate, a line each. Assumes nothing.

-- at an x of at most 1 there is one f32 at most that is meant
pub use Rattle.angles.proofs.OneMeant.{meant_unique}
-- at a rate that is accepted: the sums of five terms round to the f32 meant
pub use Rattle.angles.proofs.MeantAtRates.{cosine_meant, sine_meant}
-- and no other f32 is meant
pub use Rattle.angles.proofs.MeantAtRates.{cosine_only, sine_only}
-- so the coefficients made of them are the low-pass's, and no others are
pub use Rattle.angles.proofs.MeantAtRates.{lowpass_meant, lowpass_only}
-- the coefficients in whole numbers, each nearest to what it is made of
pub use Rattle.angles.proofs.Made.{one_23, one_24, Made}
pub use Rattle.angles.proofs.Sizes.{coefficients_made}
-- the sizes of what they are made of
pub use Rattle.angles.proofs.Sizes.{Sized, sized, whole}
