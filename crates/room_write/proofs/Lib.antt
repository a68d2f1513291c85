pub mod RowByRow
pub mod TwoDigits
pub mod Writing
