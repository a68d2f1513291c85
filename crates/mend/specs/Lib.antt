pub mod Due
pub mod Fate
pub mod Mended
pub mod Report
pub mod Restored
pub mod Staying
pub mod TextLines
