pub mod Cards
pub mod CatalogueReads
pub mod Regrouped
pub mod Saved
