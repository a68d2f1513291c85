pub mod IndexAt
pub mod Indexed
