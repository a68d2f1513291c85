pub mod SheetParts
