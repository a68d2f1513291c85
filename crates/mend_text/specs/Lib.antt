pub mod MendedAs
pub mod Passes
