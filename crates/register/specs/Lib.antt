pub mod Lines
pub mod Number
pub mod Reads
pub mod Register
pub mod Texts
pub mod TextFaults
