pub mod Entered
pub mod PairSearch
pub mod Unpacked
