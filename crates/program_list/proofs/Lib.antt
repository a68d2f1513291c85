pub mod ListPrinted
