pub mod ReasonRows
