pub mod AskedReason
pub mod ReadyReason
pub mod ReasonRows
