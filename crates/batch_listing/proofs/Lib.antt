pub mod Sections
pub mod Deciding
pub mod Written
pub mod Tallying
pub mod Closed
