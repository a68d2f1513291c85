pub mod Answer
pub mod InC
pub mod Refusals
