pub mod ArgumentAnswer
