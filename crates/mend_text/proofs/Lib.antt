pub mod LineAt
pub mod Loops
pub mod Passing
pub mod Settled
