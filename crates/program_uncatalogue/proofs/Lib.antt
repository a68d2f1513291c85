pub mod OldFormPrinted
