pub mod Replies
pub mod Sound
pub mod Loops
