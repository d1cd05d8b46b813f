pub mod Counting
pub mod Jumps
