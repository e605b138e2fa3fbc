pub mod Spelt
pub mod Numbers
pub mod Lines
pub mod Grammar
pub mod Next
pub mod Writing
pub mod Printed
pub mod Numerals
