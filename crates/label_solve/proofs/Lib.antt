pub mod Agreement
pub mod RoomParts
