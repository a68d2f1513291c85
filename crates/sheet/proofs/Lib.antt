pub mod Codes
pub mod Sheets
