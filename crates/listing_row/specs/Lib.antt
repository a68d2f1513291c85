pub mod RegisterRows
pub mod RowsAt
pub mod Said
