pub mod Alone
pub mod Reasons
