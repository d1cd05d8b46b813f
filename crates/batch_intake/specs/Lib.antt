pub mod Halts
pub mod Taking
