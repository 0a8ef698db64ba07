-- Laws of the tag, once over its width; the conditions at the desk as facts on numbers, and back; and that the promises settle their answers.
pub mod TagLaws
pub mod RangeLaws
pub mod Settled
