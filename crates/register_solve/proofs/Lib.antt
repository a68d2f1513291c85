pub mod AskedPlace
pub mod SolvedRooms
