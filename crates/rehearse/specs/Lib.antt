pub mod Stage
pub mod Blocks
pub mod Sessions
