pub mod State
pub mod Memory
pub mod Sound
pub mod Sends
pub mod Taking
pub mod Outcome
pub mod Entry
pub mod Collecting
