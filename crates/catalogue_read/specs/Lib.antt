pub mod CatalogueReadAs
pub mod CatalogueState
