pub mod Alone
pub mod Keep
pub mod KeepRows
pub mod Reasons
