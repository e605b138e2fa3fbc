pub mod Calendar
pub mod Order
