pub mod NumberReading
