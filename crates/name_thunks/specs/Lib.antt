pub mod Links
pub mod Thunks
