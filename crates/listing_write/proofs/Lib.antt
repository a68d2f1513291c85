pub mod ListingParts
pub mod ListingPut
pub mod ListingTold
