pub mod AreLabelled
pub mod Labelled
