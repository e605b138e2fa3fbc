pub mod Entry
pub mod Renewal
pub mod Sum
pub mod Verdict
