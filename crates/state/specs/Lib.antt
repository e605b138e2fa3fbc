pub mod State
pub mod Sound
