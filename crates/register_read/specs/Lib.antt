pub mod ReadAs
pub mod ReadState
pub mod RoomsBlank
