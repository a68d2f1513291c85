pub mod AllCards
pub mod CardText
pub mod Passes
pub mod Reader
pub mod Settled
