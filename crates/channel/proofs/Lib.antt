pub mod Filled
pub mod Channel
pub mod Laws
pub mod Passing
pub mod Slot
pub mod Held
pub mod Laid
pub mod Messages
