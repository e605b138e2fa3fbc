pub mod Pair
pub mod Order
pub mod Layout
pub mod Packing
