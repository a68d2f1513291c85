pub mod SheetWalks
