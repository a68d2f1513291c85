pub mod CardPieces
pub mod CatalogueSize
pub mod CatalogueTold
pub mod FieldWalk
pub mod Turning
