pub mod TextLabelled
