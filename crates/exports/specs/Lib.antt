pub mod Status
pub mod Fields
pub mod Runs
