pub mod MendPrinted
