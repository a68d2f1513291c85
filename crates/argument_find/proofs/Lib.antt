pub mod ArgumentSteps
pub mod Earliest
pub mod Room
