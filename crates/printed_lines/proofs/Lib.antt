pub mod Texts
pub mod Reading
pub mod Lines
pub mod Holding
pub mod Going
pub mod Runs
