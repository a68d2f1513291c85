pub mod SettledRooms
