pub mod CodeSteps
pub mod FormSteps
pub mod NumberSteps
