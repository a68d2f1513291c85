pub mod WholeNumber
