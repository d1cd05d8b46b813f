pub mod Sizes
pub mod Marks
pub mod Coding
pub mod Laws
