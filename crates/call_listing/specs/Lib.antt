pub mod ListingRoom
