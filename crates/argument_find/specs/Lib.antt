pub mod ArgumentRoom
