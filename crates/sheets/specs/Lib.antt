pub mod Digest
pub mod Licences
pub mod Sums
pub mod Dates
pub mod Messages
pub mod Sheets
