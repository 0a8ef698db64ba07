-- What a call did, by its kind and result alone.
pub mod KindLaws
-- Rule 1 of kind, result and node together.
pub mod FieldLaws
-- Each public function's promise settles its result.
pub mod Settled
