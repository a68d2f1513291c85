pub mod Held
pub mod Lent
pub mod Reader
