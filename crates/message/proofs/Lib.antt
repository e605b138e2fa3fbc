pub mod Pairs
pub mod Fields
pub mod Going
pub mod Numbers
pub mod RoundTrip
pub mod Packing
