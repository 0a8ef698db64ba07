-- Laws of the step, on three numbers and with top and tag in one word; and that the promises settle their answers.
pub mod StepLaws
pub mod PackedLaws
pub mod Settled
