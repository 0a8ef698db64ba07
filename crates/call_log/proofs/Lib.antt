-- Kind and result against what a call did.
pub mod NumbersLaws
-- Where an entry stands in the bytes.
pub mod DecodeLaws
-- The round trip of a log and its bytes.
pub mod EncodeLaws
-- Two answers that one promise allows are equal.
pub mod Settled
