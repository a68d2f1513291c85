pub mod Input
pub mod Pieces
pub mod PutAnswer
pub mod Options
pub mod Output
