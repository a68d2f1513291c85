pub mod Handed
pub mod Refuses
