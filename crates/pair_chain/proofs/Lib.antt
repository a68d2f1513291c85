pub mod ChainSteps
pub mod ChainWalks
