pub mod LabelState
pub mod Queue
pub mod WorkAt
