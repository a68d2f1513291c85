pub mod InC
pub mod Inputs
pub mod Promises
pub mod Rooms
