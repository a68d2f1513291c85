pub mod Entries
pub mod KnownTable
pub mod WithinSteps
