pub mod Appending
pub mod Readings
pub mod Passings
pub mod Operators
pub mod Parts
pub mod Forms
