pub mod CodeSet
pub mod SheetLaws
pub mod Totals
