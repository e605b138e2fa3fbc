pub mod State
pub mod Memory
pub mod Serving
