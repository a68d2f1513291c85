pub mod CatalogueRows
