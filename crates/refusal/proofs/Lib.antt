pub mod Numbers
pub mod Ladders
