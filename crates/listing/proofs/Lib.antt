pub mod Listing
pub mod ListingRows
pub mod Rows
