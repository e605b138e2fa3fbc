pub mod Stored
pub mod Setup
pub mod Run
pub mod Step
pub mod MakesSteps
pub mod Along
