pub mod Counts
pub mod LabelSteps
pub mod QueueLinks
pub mod Runs
pub mod WorkRooms
