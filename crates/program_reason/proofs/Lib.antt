pub mod ReasonPrinted
