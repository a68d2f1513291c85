pub mod ListingGiven
