pub mod Plans
pub mod Joining
pub mod Parts
pub mod Whole
