-- One queue by the calls' moments, and what is left of it.
pub mod LeavesLaws
-- Each public function's promise settles its result.
pub mod Settled
