pub mod RegisterRows
pub mod RowPieces
pub mod RowSizes
pub mod RowTold
pub mod Said
