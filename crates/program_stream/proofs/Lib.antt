pub mod Pieces
pub mod PutAnswer
pub mod Options
