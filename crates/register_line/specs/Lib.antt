pub mod LineReading
