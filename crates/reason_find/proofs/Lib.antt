pub mod TickSteps
pub mod Ticks
