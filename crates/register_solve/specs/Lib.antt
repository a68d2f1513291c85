pub mod LabelsBlank
pub mod SolvedAs
pub mod SolvedText
