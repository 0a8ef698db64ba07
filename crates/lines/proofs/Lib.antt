-- What is known of C; what is printed is read back; and that the promises settle their answers.
pub mod LineLaws
pub mod PrintedLaws
pub mod Settled
