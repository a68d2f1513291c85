pub mod CataloguePrinted
