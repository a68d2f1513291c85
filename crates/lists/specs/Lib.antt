pub mod Handed
pub mod ListsFaults
pub mod PairsBook
pub mod Refuses
