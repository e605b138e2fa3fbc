pub mod Dates
pub mod Lengths
pub mod Counts
pub mod Next
pub mod Order
pub mod Answers
