pub mod SheetWrite
