-- What others may cite of this crate, a line each. Assumes nothing.

-- an info says all that its object's record says
pub use Rattle.fields.proofs.InfoSaysAll.{info_says_all}
-- within ±2 ^ 20 a raised number is the signed one plus 2 ^ 20, and it is at most 2 ^ 21 exactly there
pub use Rattle.fields.proofs.Raised.{raised_is, raised_within}
-- `all`: of none, of one more, where one fails, of each, from each; of two that agree
pub use Rattle.fields.proofs.All.{all_none, all_next, all_more, all_fails, all_passed, all_at, all_true, all_same}
-- `&&`
pub use Rattle.fields.proofs.All.{and_false, and_left, and_right, not_true}
