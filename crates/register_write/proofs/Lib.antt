pub mod Copied
pub mod PutLines
