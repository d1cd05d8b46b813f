pub mod Fresh
pub mod Digits
pub mod Walked
pub mod Whole
pub mod Orders
